-- Growing a file by one page leaves a sound volume sound, and has the pages it needs. Assumes nothing.
use Rattle.std.specs.Prelude.{◌≡◌}
use Rattle.std.proofs.Math.Path.{refl, ap, subst}
use Rattle.std.proofs.Common.{sym, ◌∙◌, inl, inr, not-suc-le-zero}
use Prim.Native.Nat.{ℕ, zero, suc, ◌+◌, ◌*◌, ◌/◌, ◌%◌, ◌≤◌, ◌<◌}
use Rattle.std.proofs.Math.Decide.{ℕ_discrete}
use native.Mathlib.Omega.{arith}
use Rattle.sums.specs.Sum.{sum, sum-at}
use Rattle.book.specs.Bits.{bit, claim}
use Rattle.book.specs.Entries.{Table, user, object, used, given, used_pages}
use Rattle.book.specs.Files.{file_at, Shape, need}
use Rattle.book.specs.Grow.{first, onward, raise, block, phase_by, index_of, entered, grow_to, grow}
use Rattle.book.specs.Holders.{hit, some}
use Rattle.book.specs.Pointers.{flags, page, pointer, set_slot}
use Rattle.book.specs.Rules.{Rule6Over, Sound}
use Rattle.book.specs.Trees.{Root, weigh_r, root_by, Fill}
use Rattle.book.specs.Words.{Vol, two}
use Rattle.laws.specs.Bits.Choose.{Stock}
use Rattle.laws.specs.Bits.Claims.{claims, new_page, Claimed, claimed, found}
use Rattle.laws.specs.Count.Good.{Good, good, sound, free, free-count, room}
use Rattle.laws.specs.Count.Sums.{sum-1, sum-2, sum-3}
use Rattle.laws.specs.File.Around.{AroundNew, Needs, longer-still}
use Rattle.laws.specs.File.Kinds.{kind-empty, kind-low, kind-high}
use Rattle.laws.specs.File.Owned.{root_is, shape_is, Owned}
use Rattle.laws.specs.Frame.Beside.{Beside, still-beside, beside_trans}
use Rattle.laws.specs.Frame.Places.{only-trans}
use Rattle.laws.specs.Frame.Rest.{all_rest, file-le, rest}
use Rattle.laws.specs.Frame.Still.{bit_page-same}
use Rattle.laws.specs.Grow.Indexed.{Grew, grew-first, grew-onward}
use Rattle.laws.specs.Grow.Subindexed.{grew-raise, grew-onward-sub, grew_block}
use Rattle.laws.specs.Tree.Levels.{need-mid, need-block, need-raise}
use Rattle.laws.specs.Tree.Slot.{hit_same, slot-bare}
use Rattle.laws.specs.Tree.Weigh.{full-count}

module _ {choose : Vol → ℕ} {P : ℕ} {v : Vol} (stock : Stock choose P v) (big : P < 262144) (a f : ℕ) (ha : a < 256) (hf : f < 256)
    (uf : 0 < used (object v (256 * a + f))) where
  abbrev e : ℕ
  e = 256 * a + f

  abbrev n : ℕ
  n = two (object v e) 26

  G0 : Good P v (λ p. 0)
  G0 = good P v stock.sound

  here : Owned P v (λ p. 0) a f
  here = record { seat = record { good = G0; pos = stock.pos; ha = ha; hf = hf }; big = omega arith; uf = uf }

  -- the file is not contiguous
  module _ (kind : flags (object v e) 30 ≡ 0 → n ≡ 0) (le : used_pages (user v) a + need n ≤ given (user v) a) where
    owner : 0 < used (user v a)
    unfolding Rule6Over
    owner = (stock.sound.r6.0 a f ha hf uf).owner

    -- the flags by the page count
    shape : Shape P v (flags (object v e) 30) (page (object v e) 30) n
    shape = shape_is here (flags (object v e) 30) refl

    flag-first : n ≡ 0 → flags (object v e) 30 ≡ 0
    flag-first z = kind-empty P v (page (object v e) 30) n (flags (object v e) 30) shape z

    flag-low : 0 < n → n ≤ 512 → flags (object v e) 30 ≡ 1
    flag-low z i = kind-low P v (page (object v e) 30) n (flags (object v e) 30) shape kind z i

    flag-high : 512 < n → flags (object v e) 30 ≡ 2
    flag-high z = kind-high P v (page (object v e) 30) n (flags (object v e) 30) shape kind z

    -- the volume is too small for a file of 262,144 pages
    small : 512 < n → n < 262144
    unfolding Shape root_by weigh_r rest
    small z = elim (ℕ_discrete n 262144) [
      | no m ↦ omega (arith, S2.1)
      | yes i ↦ absurd (let r : ⊥ = omega (
        arith,
        full-count v 2 (page (object v e) 30) (subst (λ (y : ℕ). Fill v 2 (page (object v e) 30) y) i S2.2),
        ap (λ (r : Root). weigh_r v r some) (root_is here 2 (flag-high z)),
        file-le v some a f ha hf,
        all_rest P v some,
        free-count P v (λ p. 0) G0 stock.pos,
      ) in r)
    ]
      where
        S2 : Shape P v 2 (page (object v e) 30) n
        S2 = subst (λ (x : ℕ). Shape P v x (page (object v e) 30) n) (flag-high z) shape

    pub rooms : need n ≤ free P v
    rooms = omega (arith, room P v stock.sound stock.pos a (need n) ha owner le)

    need-pos : 1 ≤ need n
    unfolding need
    need-pos = omega arith

    -- ---- the pages taken, in the order of need: data page, index block, subindex block

    abbrev w : ℕ → Vol
    w i = claims choose P v i

    abbrev new : ℕ → ℕ
    new i = new_page choose P v i

    free-at : (j : ℕ) → j < need n → (new j < P) × (bit P (w j) (new j) ≡ 0)
    free-at j h = found stock (need n) j rooms h

    pub d_ok : (choose v < P) × (bit P v (choose v) ≡ 0)
    unfolding claims
    d_ok = free-at 0 need-pos

    pub b_ok : 2 ≤ need n → (choose (claim P v (choose v)) < P) × (bit P (claim P v (choose v)) (choose (claim P v (choose v))) ≡ 0)
    unfolding claims
    b_ok h = free-at 1 h

    pub s_ok : 2 ≤ need n → 3 ≤ need n → let z : Vol = claim P (claim P v (choose v)) (choose (claim P v (choose v))) in (choose z < P) × (bit P z (choose z) ≡ 0)
    unfolding claims
    s_ok h i = free-at 2 i

    -- ---- the file in the volume with its i pages taken

    module _ (i : ℕ) (enough : need n ≡ i) where
      C : Claimed choose P v i
      C = claimed stock i (omega (arith, rooms, enough))

      abbrev hand : ℕ → ℕ
      hand p = sum i (λ j. hit (new j) p)

      there : Owned P (w i) hand a f
      there = record { seat = record { good = C.good; pos = stock.pos; ha = ha; hf = hf }; big = omega arith; uf = subst (λ (O : Table). 0 < used (O e)) (sym C.still.objects) uf }

      count-now : two (object (w i) e) 26 ≡ n
      count-now = ap (λ (O : Table). two (O e) 26) C.still.objects

      flags-now : flags (object (w i) e) 30 ≡ flags (object v e) 30
      flags-now = ap (λ (O : Table). flags (O e) 30) C.still.objects

      room-now : used_pages (user (w i)) a + i ≤ given (user (w i)) a
      room-now = subst (λ (U : Table). used_pages U a + i ≤ given U a) (sym C.still.users) (omega (arith, le, enough))

      -- what is said of the volume with the pages taken holds of the one before
      rebase : (z : Vol) → Grew P (w i) z a e (two (object (w i) e) 26) (choose v) hand → Grew P v z a e n (choose v) (λ p. 0)
      rebase z g₀ = record {
        good = g.good;
        longer = longer-still P v (w i) z a e n (omega arith) C.still g.longer;
        beside = B;
        at = g.at;
        taken = λ x h. absurd (not-suc-le-zero h);
        words = only-trans (AroundNew P z a e n) v (w i) z
            (C.words (AroundNew P z a e n) (λ j h k. inl (needed j h)) (λ j h p k y. inr (inl (new j, needed j h, (y.0 ∙ sym (bit_page-same P v z B.places (new j)), y.1, y.2))))) g.words;
      }
        where
          g : Grew P (w i) z a e n (choose v) hand
          g = subst (λ (k : ℕ). Grew P (w i) z a e k (choose v) hand) count-now g₀

          B : Beside P v z a e
          B = beside_trans P v (w i) z a e (still-beside P v (w i) a e (omega arith) C.still) g.beside

          needed : (j : ℕ) → j < i → Needs z (file_at z e) n (new j)
          needed j h = g.taken (new j) (omega (arith, hit_same (new j) (C.real j h).0, sum-at i (λ k. hit (new k) (new j)) j h))

    -- ---- the ways

    firsted : n ≡ 0 → Grew P v (grow_to choose P v a f first) a e n (choose v) (λ p. 0)
    unfolding grow_to entered claims
    firsted z =
        let q : need n ≡ 2 = need-block n (omega (arith, z)) (omega (arith, z)) in
        let c : Claimed choose P v 2 = C 2 q in
        rebase 2 q (grow_to choose P v a f first) (grew-first (there 2 q)
        (new 0) (new 1) (c.real 0 (omega arith)).1 (c.real 1 (omega arith)).1 (c.real 0 (omega arith)).0 (c.real 1 (omega arith)).0 (λ p. sum-2 (λ j. hit (new j) p))
        (slot-bare (w 2) (new 1) (c.zero 1 (omega arith))) (flags-now 2 q ∙ flag-first z) (count-now 2 q ∙ z) (room-now 2 q))

    blocked : n % 512 ≡ 0 → 512 < n → Grew P v (grow_to choose P v a f block) a e n (choose v) (λ p. 0)
    unfolding grow_to entered claims
    blocked z h =
        let q : need n ≡ 2 = need-block n z (omega arith) in
        let c : Claimed choose P v 2 = C 2 q in
        rebase 2 q (grow_to choose P v a f block) (grew_block (there 2 q)
        (new 0) (new 1) (c.real 0 (omega arith)).1 (c.real 1 (omega arith)).1 (c.real 0 (omega arith)).0 (c.real 1 (omega arith)).0 (λ p. sum-2 (λ j. hit (new j) p))
        (slot-bare (w 2) (new 1) (c.zero 1 (omega arith))) (flags-now 2 q ∙ flag-high h) (omega (arith, count-now 2 q, small h)) (omega (arith, count-now 2 q, z)) (room-now 2 q))

    raised : n ≡ 512 → Grew P v (grow_to choose P v a f raise) a e n (choose v) (λ p. 0)
    unfolding grow_to entered claims
    raised z =
        let q : need n ≡ 3 = need-raise n z in
        let c : Claimed choose P v 3 = C 3 q in
        rebase 3 q (grow_to choose P v a f raise) (grew-raise (there 3 q)
        (new 0) (new 1) (new 2) (c.real 0 (omega arith)).1 (c.real 1 (omega arith)).1 (c.real 2 (omega arith)).1 (c.real 0 (omega arith)).0 (c.real 1 (omega arith)).0 (c.real 2 (omega arith)).0
        (λ p. sum-3 (λ j. hit (new j) p)) (slot-bare (w 3) (new 1) (c.zero 1 (omega arith))) (slot-bare (w 3) (new 2) (c.zero 2 (omega arith))) (flags-now 3 q ∙ flag-low (omega arith) (omega arith)) (count-now 3 q ∙ z) (room-now 3 q))

    onwarded : 0 < n % 512 → Grew P v (grow_to choose P v a f onward) a e n (choose v) (λ p. 0)
    unfolding grow_to entered index_of Shape claims
    onwarded m = rebase 1 q (grow_to choose P v a f onward) (go (flags (object (w 1) e) 30) refl)
      where
        q : need n ≡ 1
        q = need-mid n m

        c : Claimed choose P v 1
        c = C 1 q

        n₁ : two (object (w 1) e) 26 ≡ n
        n₁ = count-now 1 q

        at : (x : ℕ) → flags (object (w 1) e) 30 ≡ x → Shape P v x (page (object v e) 30) n
        at x h = subst (λ (y : ℕ). Shape P v y (page (object v e) 30) n) (sym (flags-now 1 q) ∙ h) shape

        -- the file with the page in slot k of block b
        put : ℕ → ℕ → ℕ → Vol
        put x b k = entered a f (w 1) (set_slot (w 1) b k (new 0)) (suc (two (object (w 1) e) 26)) (pointer x (page (object (w 1) e) 30)) (used_pages (user (w 1)) a + 1)

        go : (x : ℕ) → flags (object (w 1) e) 30 ≡ x → Grew P (w 1) (put x (index_of (w 1) x (page (object (w 1) e) 30) (two (object (w 1) e) 26)) (two (object (w 1) e) 26 % 512)) a e (two (object (w 1) e) 26) (choose v) (hand 1 q)
        go zero h = absurd (let r : ⊥ = omega (arith, kind (sym (flags-now 1 q) ∙ h)) in r)
        go (suc zero) h =
            let lt : n < 512 = omega (arith, (at 1 h).1) in
            subst (λ (k : ℕ). Grew P (w 1) (put 1 (page (object (w 1) e) 30) k) a e (two (object (w 1) e) 26) (choose v) (hand 1 q)) (let r : two (object (w 1) e) 26 ≡ two (object (w 1) e) 26 % 512 = omega (arith, n₁, lt) in r)
            (grew-onward (there 1 q) (new 0) (c.real 0 (omega arith)).1 (c.real 0 (omega arith)).0 (λ p. sum-1 (λ j. hit (new j) p)) h (omega (arith, n₁, lt)) (room-now 1 q))
        go (suc (suc zero)) h = grew-onward-sub (there 1 q) (new 0) (c.real 0 (omega arith)).1 (c.real 0 (omega arith)).0 (λ p. sum-1 (λ j. hit (new j) p)) h
            (omega (arith, n₁, small (at 2 h).0)) (omega (arith, n₁)) (room-now 1 q)
        go (suc (suc (suc x))) h = absurd (at (suc (suc (suc x))) h)

    -- the whole step: sound again, old pages where they were, the new one is the first page chosen
    pub grown : Grew P v (grow choose P v a f) a e n (choose v) (λ p. 0)
    unfolding grow phase_by
    grown = go (n % 512) (n / 512) refl refl
      where
        go : (m q : ℕ) → n % 512 ≡ m → n / 512 ≡ q → Grew P v (grow_to choose P v a f (phase_by m q)) a e n (choose v) (λ p. 0)
        go (suc m) q i j = onwarded (omega arith)
        go zero zero i j = firsted (omega arith)
        go zero (suc zero) i j = raised (omega arith)
        go zero (suc (suc q)) i j = blocked i (omega arith)

    pub grow-sound : Sound P (grow choose P v a f)
    grow-sound = sound P (grow choose P v a f) (λ p. 0) grown.good (λ p h. refl)
