-- The bits after a place is made: those of before, with the lowest free pages taken. Assumes nothing.
use mathlib.Core.Path.{◌≡◌, refl, sym, ap, ◌∙◌, subst}
use mathlib.Core.Logic.{◌≢◌, inl, inr}
use mathlib.Core.List.{List}
use Prim.Native.Nat.{ℕ, suc, ◌+◌, ◌-◌, ◌*◌, ◌/◌, ◌%◌, ◌≤◌, ◌<◌}
use native.Mathlib.Decide.{dec_lt, ℕ_discrete}
use native.Mathlib.Nat.{eq-zero-or-pos}
use native.Mathlib.Omega.{arith}
use Rattle.sums.specs.Search.{every-at, Lowest, lowest-is, lowest-at, lowest-none, Highest, highest-is, highest-at, highest-none, highest-low}
use Rattle.book.specs.Words.{Vol, vol}
use Rattle.book.specs.Written.{put2-page}
use Rattle.book.specs.Pointers.{page, set_slot, bit_pointer, object_pointer}
use Rattle.book.specs.Bits.{bit, digit, lowest_free, claim, free_run, highest_run}
use Rattle.book.specs.Entries.{user_file, object_file, unreserved, object_page, entry_page}
use Rattle.book.specs.Holders.{hit}
use Rattle.book.specs.Rules.{Sound}
use Rattle.book.specs.Create.{extend, object_index, file_need, file_place}
use Rattle.book.specs.Image.{pages, Ready}
use Rattle.laws.specs.Bits.Choose.{lowest-stock}
use Rattle.laws.specs.Bits.Claim.{FreePage, bit_page-rest, claim-bit, claim-bit-other}
use Rattle.laws.specs.Create.Join.{pay-page}
use Rattle.laws.specs.Create.Placed.{extend-free, extend_pos, extend-master}
use Rattle.laws.specs.Create.Vacant.{Reached, Vacant, index-vacant, object-none, top-vacant}
use Rattle.laws.specs.Frame.Rest.{rest}
use Rattle.laws.specs.Frame.Roots.{blocks_r-le}
use Rattle.page.specs.Parts.{word_from}
use Rattle.bits.specs.File.{BitsAt}
use Rattle.bits.specs.Search.{free_from}
use Rattle.tree.proofs.Ready.{ready-some}
use Rattle.bits.proofs.Places.{bit-page, bit_at, bit_le, bits-kept, bits-claim, bits_at, run-free, run-broken}
use Rattle.bits.proofs.Upwards.{from-free}
use Rattle.making.specs.Spent.{Spent, after_lowest}
use Rattle.making.proofs.Between.{index_kept, index-new, object-kept, object-new, file-place-is, need-one, Indexed, index-made, page-unmade}

-- ---- pages taken one after the other

-- nothing is taken
spent-none : (P : ℕ) (v : Vol) → Spent P v v 0
spent-none P v = record { below = λ p h l. absurd (let r : ⊥ = omega arith in r); above = λ p h l. refl }

module _ (P : ℕ) (v w : Vol) (s : ℕ) (S : Spent P v w s) where
  spent-lowest : lowest_free P w ≡ free_from P v s
  unfolding lowest_free free_from
  spent-lowest = elim (dec_lt (free_from P v s) P) [
    | yes l ↦ lowest-at (λ p. 1 - bit P w p) P (free_from P v s) l (same (free_from P v s) l (F.there l)) (λ k h. passed k (omega arith) (F.passed k h))
    | no l ↦ lowest-none (λ p. 1 - bit P w p) P (λ k h. passed k h (F.passed k (omega (arith, F.most)))) ∙ sym (let e : free_from P v s ≡ P = omega (arith, F.most) in e)
  ]
    where
      F : Lowest (λ p. 1 - bit P v p - (s - p)) P
      F = lowest-is (λ p. 1 - bit P v p - (s - p)) P

      same : (k : ℕ) → k < P → 0 < 1 - bit P v k - (s - k) → 0 < 1 - bit P w k
      same k h z = omega (arith, S.above k h (omega arith))

      passed : (k : ℕ) → k < P → 1 - bit P v k - (s - k) ≡ 0 → 1 - bit P w k ≡ 0
      passed k h z = elim (dec_lt k s) [ yes l ↦ omega (arith, S.below k h l) | no l ↦ omega (arith, S.above k h (omega arith)) ]

  spent-then : (z : Vol) (d : ℕ) → d ≡ lowest_free P w → bit P z d ≡ 1 → ((p : ℕ) → p < P → p ≢ d → bit P z p ≡ bit P w p) → Spent P v z (suc d)
  unfolding lowest_free
  spent-then z d e one other = record {
    below = λ p h l. elim (ℕ_discrete p d) [
      | yes q ↦ ap (bit P z) q ∙ one
      | no q ↦ other p h q ∙ omega (arith, L.passed p (omega (arith, e)), bit_le P w p)
    ];
    above = λ p h l. other p h (λ q. let r : ⊥ = omega (arith, q) in r) ∙ S.above p h (omega (arith, e, spent-lowest, from-free P v s (omega (arith, e, spent-lowest))));
  }
    where
      L : Lowest (λ p. 1 - bit P w p) P
      L = lowest-is (λ p. 1 - bit P w p) P

  -- ---- the highest run

  -- a run from s on is one of both volumes
  kept : (n t : ℕ) → s ≤ t → t + n ≤ P → 0 < free_run P v n t → 0 < free_run P w n t
  unfolding free_run
  kept n t h l p = run-free P w n t (λ i m. S.above (t + i) (omega arith) (omega arith) ∙ omega (arith, every-at (λ i. 1 - bit P v (t + i)) n p i m))

  gone : (n t : ℕ) → 0 < n → t + n ≤ P → (s ≤ t → free_run P v n t ≡ 0) → free_run P w n t ≡ 0
  unfolding free_run
  gone n t h l z = elim (dec_lt t s) [
    | yes m ↦ run-broken P w n t 0 h (ap (bit P w) (let e : t + 0 ≡ t = omega arith in e) ∙ S.below t (omega arith) m)
    | no m ↦ elim (eq-zero-or-pos (free_run P w n t)) [
      | inl e ↦ e
      | inr p ↦
          let q = run-free P v n t (λ i k. sym (S.above (t + i) (omega arith) (omega arith)) ∙ omega (arith, every-at (λ i. 1 - bit P w (t + i)) n p i k)) in
          absurd (let r : ⊥ = omega (arith, q, z (omega arith)) in r)
    ]
  ]

  module _ (n : ℕ) (some : 0 < n) where
    H : Highest (free_run P v n) (suc P - n)
    H = highest-is (free_run P v n) (suc P - n)

    -- no run of v from s on
    spent-run-none : highest_run P v n < s → highest_run P w n ≡ 0
    unfolding highest_run
    spent-run-none h = highest-none (free_run P w n) (suc P - n) (λ t l. gone n t some (omega arith) (λ m. H.passed t (omega arith) l))

    -- the highest run of v is one from s on
    spent-run-same : s ≤ highest_run P v n → highest_run P w n ≡ highest_run P v n
    unfolding highest_run
    spent-run-same h = elim (eq-zero-or-pos (highest_run P v n)) [
      | inl z ↦ highest-low (free_run P w n) (suc P - n) (λ t a l. gone n t some (omega arith) (λ m. H.passed t (omega (arith, z)) l)) ∙ sym z
      | inr p ↦
          highest-at (free_run P w n) (suc P - n) (highest_run P v n) (H.there p).0 (kept n (highest_run P v n) h (omega (arith, (H.there p).0)) (H.there p).1)
          (λ t a l. gone n t some (omega arith) (λ m. H.passed t a l))
    ]

-- ---- a page taken for a place

module _ (P : ℕ) (v : Vol) (S : Sound P v) (pos : 0 < P) (X k : ℕ) (N : Vacant P v X k) (have : 1 ≤ unreserved v) where
  abbrev d : ℕ
  d = lowest_free P v

  abbrev b : ℕ
  b = page (v 0) bit_pointer

  abbrev v₁ : Vol
  v₁ = claim P v d

  abbrev v' : Vol
  v' = extend (lowest_free P) P v X k

  free : FreePage P v (λ p. 0) d
  free = extend-free (lowest-stock S pos) N have

  B₀ : BitsAt P v b
  B₀ = bits_at P v S.r1

  B₁ : BitsAt P v₁ b
  B₁ = bits-claim P v b d (extend_pos (lowest-stock S pos) N have) free.below B₀

  B₂ : BitsAt P v' b
  B₂ = bits-kept P v v' b (extend-master (lowest-stock S pos) N have bit_pointer (omega arith))
      (extend-master (lowest-stock S pos) N have (suc bit_pointer) (omega arith)) B₀

  -- no page of the bit file is a block
  apart : (p : ℕ) → p < P → b + p / 16 / 1024 ≢ X
  unfolding rest
  apart p h e =
      let z : rest v (hit (b + p / 16 / 1024)) ≡ 0 = subst (λ (q : ℕ). rest v (hit q) ≡ 0) (bit-page P v b B₀ p h) (bit_page-rest P v (λ p. 0) free.good p h).0 in
      omega (arith, N.block, blocks_r-le v (user_file v) (hit X), blocks_r-le v (object_file v) (hit X), subst (λ (q : ℕ). rest v (hit q) ≡ 0) e z)

  same : (p : ℕ) → p < P → word_from v' b (p / 16) ≡ word_from v₁ b (p / 16)
  unfolding extend set_slot
  same p h =
      pay-page (set_slot v₁ X k d) 1 (b + p / 16 / 1024) (p / 16 % 1024) (omega (arith, B₀.some)) ∙ put2-page v₁ X (2 * k) d (b + p / 16 / 1024) (p / 16 % 1024) (apart p h)

  bits : (p : ℕ) → p < P → bit P v' p ≡ bit P v₁ p
  bits p h = bit_at P v' b B₂ p h ∙ ap (digit (p % 16)) (same p h) ∙ sym (bit_at P v₁ b B₁ p h)

  extend-spent : (u : Vol) (s : ℕ) → Spent P u v s → Spent P u (extend (lowest_free P) P v X k) (suc (free_from P u s))
  extend-spent u s A =
      subst (λ (q : ℕ). Spent P u v' (suc q)) (spent-lowest P u v s A)
      (spent-then P u v s A v' d refl (bits d free.below ∙ claim-bit free) (λ p h n. bits p h ∙ claim-bit-other free p h n))

-- ---- the place of a file

module _ {img : List ℕ} {e : ℕ} (d : Ready img) (R : Reached (pages img) (vol img) e) (have : file_need (vol img) e ≤ unreserved (vol img)) where
  abbrev P : ℕ
  P = pages img

  abbrev v : Vol
  v = vol img

  pos : 0 < P
  pos = ready-some img d

  -- the volume with the place of entry e
  abbrev placed : Vol
  placed = file_place (lowest_free P) P v e

  -- no page
  none-spent : file_need v e ≡ 0 → Spent P v placed 0
  unfolding file_need
  none-spent z = subst (λ (w : Vol). Spent P v w 0) (file-place-is P v e v v (index_kept P v e (omega arith)) P (object-kept P v e (omega arith)) refl) (spent-none P v)

  -- one page: the index block is there
  one-spent : file_need v e ≡ 1 → Spent P v placed (suc (free_from P v 0))
  unfolding file_need
  one-spent z =
      let some : ¬ (object_index v e ≡ 0) = λ i. omega (arith, i, z, object-none P v d.sound e R i) in
      let p : 0 < object_index v e = omega arith in
      let q : object_page v e ≡ 0 = omega arith in
      subst (λ (w : Vol). Spent P v w (suc (free_from P v 0)))
      (file-place-is P v e v _ (index_kept P v e p) P (object-new P v e q (object_index v e) (entry_page e % 512) refl refl _ refl) refl)
      (extend-spent P v d.sound pos (object_index v e) (entry_page e % 512) (index-vacant P v d.sound e R p q) (omega (arith, have, z)) v 0 (spent-none P v))

  -- two pages
  module _ (two : 1 < file_need v e) where
    none : object_index v e ≡ 0
    unfolding file_need
    none = omega (arith, two)

    abbrev o : ℕ
    o = page (v 0) object_pointer

    abbrev i : ℕ
    i = entry_page e / 512

    abbrev w : Vol
    w = extend (lowest_free P) P v o i

    first : Spent P v w (suc (free_from P v 0))
    first = extend-spent P v d.sound pos o i (top-vacant P v d.sound e R none) (need-one P v e d.sound pos R have none) v 0 (spent-none P v)

    I : Indexed P v e w
    I = index-made P v e d.sound pos R have none

    q : object_page w e ≡ 0
    q = page-unmade P v e d.sound pos R have none

    two-spent : Spent P v placed (suc (free_from P v (suc (free_from P v 0))))
    two-spent =
        subst (λ (z : Vol). Spent P v z (suc (free_from P v (suc (free_from P v 0)))))
        (file-place-is P v e w _ (index-new P v e none o i refl refl w refl) P (object-new P w e q (object_index w e) (entry_page e % 512) refl refl _ refl) refl)
        (extend-spent P w I.sound pos (object_index w e) (entry_page e % 512) (index-vacant P w I.sound e I.reached I.index q) (omega (arith, I.room, q)) v _ first)

  most-two : file_need v e ≤ 2
  unfolding file_need
  most-two = omega arith

  -- the lowest free pages, as many as the place needs
  place-spent : Spent P v placed (after_lowest P v (file_need v e))
  unfolding after_lowest
  place-spent = elim (dec_lt 1 (file_need v e)) [
    | yes l ↦ let two : file_need v e ≡ 2 = omega (arith, most-two) in subst (λ (n : ℕ). Spent P v placed (after_lowest P v n)) (sym two) (two-spent l)
    | no l ↦ elim (ℕ_discrete (file_need v e) 0) [
      | yes z ↦ subst (λ (n : ℕ). Spent P v placed (after_lowest P v n)) (sym z) (none-spent z)
      | no z ↦ let one : file_need v e ≡ 1 = omega arith in subst (λ (n : ℕ). Spent P v placed (after_lowest P v n)) (sym one) (one-spent one)
    ]
  ]

  -- the run beside them: the highest run of all, where it starts above them
  module _ (n : ℕ) (some : 0 < n) (m s t : ℕ) (em : m ≡ file_need v e) (es : s ≡ after_lowest P v m) (et : t ≡ highest_run P v n) where
    left : s ≡ after_lowest P v (file_need v e)
    left = es ∙ ap (after_lowest P v) em

    pub place-run-none : t < s → 0 ≡ highest_run P placed n
    place-run-none h = sym (spent-run-none P v placed (after_lowest P v (file_need v e)) place-spent n some (omega (arith, left, et)))

    pub place-run-same : s ≤ t → t ≡ highest_run P placed n
    place-run-same h = et ∙ sym (spent-run-same P v placed (after_lowest P v (file_need v e)) place-spent n some (omega (arith, left, et)))
