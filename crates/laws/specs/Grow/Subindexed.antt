-- The three ways in which a file grows by one page under a subindex block. Assumes nothing.
use Rattle.std.specs.Prelude.{◌≡◌, ◌≢◌}
use Rattle.std.proofs.Math.Path.{refl, sym, ap, subst₃}
use Rattle.std.proofs.Common.{◌∙◌, subst, mod-lt, arith}
use Rattle.std.proofs.Math.Logic.{inl, inr}
use Prim.Native.Nat.{ℕ, suc, ◌+◌, ◌*◌, ◌/◌, ◌%◌, ◌≤◌, ◌<◌}
use Rattle.sums.specs.Sum.{sum, sum-at, sum-at₂, sum-none}
use Rattle.book.specs.Entries.{user_file, object_file, user, object, given, used_pages}
use Rattle.book.specs.Files.{file_at, Shape}
use Rattle.book.specs.Grow.{finish}
use Rattle.book.specs.Holders.{hit, all}
use Rattle.book.specs.Pointers.{slot, flags, page, pointer, set_slot}
use Rattle.book.specs.Trees.{Root, tree, weigh, blocks, weigh_r, page_at, index_at, subindex_of, upto, leaf, root_by, Fill, Below}
use Rattle.book.specs.Words.{Vol, two}
use Rattle.book.specs.Written.{word-ext}
use Rattle.laws.specs.File.Around.{Needs}
use Rattle.laws.specs.File.Finish.{Blocks, Regrown}
use Rattle.laws.specs.File.Finished.{finished}
use Rattle.laws.specs.File.Owned.{own, loose, root_is, shape_is, Owned}
use Rattle.laws.specs.Frame.Places.{only-slot, only-trans}
use Rattle.laws.specs.Frame.Rest.{all-add}
use Rattle.laws.specs.Frame.Roots.{weigh_r-add, upto-in}
use Rattle.laws.specs.Grow.Grown.{Grown, grown-page, grown-block, grown-up, raise-weight, raise-fill, raise-below, raise-old, raise-at, part-old}
use Rattle.laws.specs.Grow.Indexed.{Grew, grew, grown-leaf}
use Rattle.laws.specs.Tree.Levels.{last, last-mid, last_block, last-raise, need-mid, need-block, need-raise, index-2}
use Rattle.laws.specs.Tree.Slot.{slot-here, slot-other, set_slot-page, set_slot-agree, hit-sym, Agree-comp, Agree-mono, Agree, hit-zero, hit_same, some-pos, slot_same}
use Rattle.laws.specs.Tree.Weigh.{blocks-le}

module _ {P : ℕ} {v : Vol} {hand : ℕ → ℕ} {a f : ℕ} (here : Owned P v hand a f) where
  abbrev e : ℕ
  e = 256 * a + f

  abbrev U : ℕ
  U = page_at v (user_file v) (a / 32)

  abbrev O : ℕ
  O = page_at v (object_file v) (e / 32)

  abbrev n : ℕ
  n = two (object v e) 26

  abbrev t : ℕ
  t = page (object v e) 30

  -- ---- within an index block under the subindex: position n % 512 of block n / 512
  module _ (d : ℕ) (hd : d < P) (pd : 0 < d) (hand-is : (p : ℕ) → hand p ≡ hit d p) (fl : flags (object v e) 30 ≡ 2) (lt : n < 262144) (mid : 0 < n % 512)
      (le : used_pages (user v) a + 1 ≤ given (user v) a) where
    abbrev X : ℕ
    X = slot v t (n / 512)

    pub grew-onward-sub : Grew P v (finish (set_slot v X (n % 512) d) U O a e (suc n) (pointer 2 t) (used_pages (user v) a + 1)) a e n d hand
    unfolding Shape root_by weigh_r Fill Below weigh blocks page_at
    grew-onward-sub = grew P v v₂ _ a e n d 2 t _ (suc n) (λ g. g d) hand
        (finished here K (suc n) 2 t (used_pages (user v) a + 1) (λ g. 0) (λ g. g d) (λ p. 0) R)
        refl refl (ap (λ (k : ℕ). used_pages (user v) a + k) (sym (need-mid n mid)))
        (λ m h. ap (upto m 262144) (W.old m h) ∙ sym (ap (λ (r : Root). page_at v r m) (root_is here 2 fl))) pg (λ g. last-mid v₂ (tree 2 t) n g mid ∙ ap g pg)
        (λ p. omega (arith, hand-is p, hit-sym p d)) (only-slot _ v X (n % 512) d (λ p j h. inr (inl (mid, (h.0 ∙ sym (index-2 v₂ t (n / 512) i ∙ top (n / 512)), h.1, h.2)))))
      where
        S : Shape P v 2 t n
        S = shape_is here 2 fl

        v₂ : Vol
        v₂ = set_slot v X (n % 512) d

        pt : 0 < t
        pt = S.2.0 (omega (arith, S.0))

        i : n / 512 < 512
        i = omega arith

        FX : Fill v 1 X (n % 512)
        FX = subst (λ (y : ℕ). Fill v 1 X y) (part-old 512 n (omega arith)) (S.2.2 (n / 512) i)

        p_x : 0 < X
        p_x = FX.0 mid

        BX : Below v P 1 X
        BX = S.3.1 (n / 512) i

        child : ℕ → ℕ
        child j = weigh v 1 (slot v t j) (hit X)

        at : 1 ≤ child (n / 512)
        at = omega (arith, hit_same X p_x)

        whole : weigh_r v (file_at v e) (hit X) ≡ hit X t + sum 512 child
        whole = ap (λ (r : Root). weigh_r v r (hit X)) (root_is here 2 fl)

        one : (all P v (hit X) ≡ weigh_r v (file_at v e) (hit X)) × (weigh_r v (file_at v e) (hit X) ≡ 1)
        one = own here X BX.0 (omega (arith, whole, at, sum-at 512 child (n / 512) i))

        t_x : t ≢ X
        t_x q = omega (arith, one, whole, at, sum-at 512 child (n / 512) i, subst (λ (y : ℕ). hit X y ≡ 1) (sym q) (hit_same X p_x))

        K : Blocks here (hit X) v₂
        K = record { none = hit-zero X; only = one.0; agree = set_slot-agree v X (n % 512) d; master = λ k. set_slot-page v X (n % 512) d 0 k (omega (arith, p_x)) }

        top : (j : ℕ) → slot v₂ t j ≡ slot v t j
        top j = slot_same v v₂ t (λ k. word-ext v v₂ t k (λ h. set_slot-page v X (n % 512) d t k t_x)) j

        W : Grown P v v₂ 2 t t n d (λ g. g d)
        W = grown-up P v v₂ (hit X) (set_slot-agree v X (n % 512) d) 1 t n d (λ g. g d) pt lt (λ j ne. top j)
            (λ j h ne. omega (arith, one, whole, at, sum-at₂ 512 child j (n / 512) h i ne, sum-none 512 (λ k. 0) (λ k l. refl)))
            S.2 S.3 (subst (λ (y : ℕ). Grown P v v₂ 1 X y (n % 512) d (λ g. g d)) (sym (top (n / 512))) (grown-leaf P v X (n % 512) d p_x (mod-lt n (omega arith)) pd hd FX BX))

        R : Regrown here K (suc n) 2 t (used_pages (user v) a + 1) (λ g. 0) (λ g. g d) (λ p. 0)
        R = record {
          weight = λ g g0. omega (arith, ap (λ (r : Root). weigh_r v r g) (root_is here 2 fl), W.weight g g0);
          shape = (omega (arith, S.0), lt, W.fill, W.inside);
          top = S.3.0;
          hands = λ p h. omega (arith, hand-is p, hit-sym p d);
          fresh = λ q z. omega (arith, hand-is q, hit-sym q d);
          count = omega (arith, some-pos d pd);
          within = le;
        }

        pg : upto n 262144 (leaf v₂ 2 t n) ≡ d
        pg = upto-in n 262144 (leaf v₂ 2 t n) lt ∙ W.at

  -- ---- a new index block under the subindex
  module _ (d b : ℕ) (hd : d < P) (hb : b < P) (pd : 0 < d) (pb : 0 < b) (hand-is : (p : ℕ) → hand p ≡ hit d p + hit b p) (bare : (j : ℕ) → slot v b j ≡ 0)
      (fl : flags (object v e) 30 ≡ 2) (lt : n < 262144) (start : n % 512 ≡ 0) (le : used_pages (user v) a + 2 ≤ given (user v) a) where
    pub grew_block : Grew P v (finish (set_slot (set_slot v t (n / 512) b) b 0 d) U O a e (suc n) (pointer 2 t) (used_pages (user v) a + 2)) a e n d hand
    unfolding Shape root_by weigh_r Fill Below weigh blocks page_at subindex_of
    grew_block = grew P v v₂ _ a e n d 2 t _ (suc n) (λ g. g b + g d) hand
        (finished here K (suc n) 2 t (used_pages (user v) a + 2) (λ g. 0) (λ g. g b + g d) (λ p. 0) R)
        refl refl (ap (λ (k : ℕ). used_pages (user v) a + k) (sym (need-block n start (omega (arith, S.0)))))
        (λ m h. ap (upto m 262144) (W.old m h) ∙ sym (ap (λ (r : Root). page_at v r m) (root_is here 2 fl))) pg
        lastly (λ p. omega (arith, hand-is p, hit-sym p d, hit-sym p b))
        (only-trans _ v v₁ v₂ (only-slot _ v t (n / 512) b (λ p j h. inr (inr (start, omega (arith, S.0), h)))) (only-slot _ v₁ b 0 d (λ p j h. inl (needs p h.0))))
      where
        S : Shape P v 2 t n
        S = shape_is here 2 fl

        v₁ : Vol
        v₁ = set_slot v t (n / 512) b

        v₂ : Vol
        v₂ = set_slot v₁ b 0 d

        D : ℕ → ℕ
        D x = hit t x + hit b x

        pt : 0 < t
        pt = S.2.0 (omega (arith, S.0))

        i : n / 512 < 512
        i = omega arith

        was : slot v t (n / 512) ≡ 0
        was = (S.2.2 (n / 512) i).1 (part-old 512 n (omega arith) ∙ start)

        child : (ℕ → ℕ) → ℕ → ℕ
        child g j = weigh v 1 (slot v t j) g

        whole : (g : ℕ → ℕ) → weigh_r v (file_at v e) g ≡ g t + sum 512 (child g)
        whole g = ap (λ (r : Root). weigh_r v r g) (root_is here 2 fl)

        one : (all P v (hit t) ≡ weigh_r v (file_at v e) (hit t)) × (weigh_r v (file_at v e) (hit t) ≡ 1)
        one = own here t S.3.0 (omega (arith, whole (hit t), hit_same t pt))

        lo : (all P v (hit b) ≡ 0) × (weigh_r v (file_at v e) (hit b) ≡ 0) × (hand b ≡ 1)
        lo = loose here b hb (omega (arith, hand-is b, hit_same b pb))

        tb : t ≢ b
        tb q = omega (arith, lo, whole (hit b), subst (λ (y : ℕ). hit b y ≡ 1) (sym q) (hit_same b pb))

        agree : Agree D v v₂
        agree = Agree-comp (hit t) (hit b) v v₁ v₂ (set_slot-agree v t (n / 512) b) (set_slot-agree v₁ b 0 d)

        K : Blocks here D v₂
        K = record {
          none = omega (arith, hit-zero t, hit-zero b);
          only = omega (arith, one, lo, all-add P v (hit t) (hit b), weigh_r-add v (hit t) (hit b) (file_at v e));
          agree = agree;
          master = λ k. set_slot-page v₁ b 0 d 0 k (omega arith) ∙ set_slot-page v t (n / 512) b 0 k (omega (arith, pt));
        }

        at-t : (j : ℕ) → slot v₂ t j ≡ slot v₁ t j
        at-t j = slot_same v₁ v₂ t (λ k. word-ext v₁ v₂ t k (λ h. set_slot-page v₁ b 0 d t k tb)) j

        at_b : (j : ℕ) → slot v₁ b j ≡ slot v b j
        at_b j = slot_same v v₁ b (λ k. word-ext v v₁ b k (λ h. set_slot-page v t (n / 512) b b k (λ q. tb (sym q)))) j

        now : slot v₂ t (n / 512) ≡ b
        now = at-t (n / 512) ∙ slot-here v t (n / 512) b pt

        W : Grown P v v₂ 2 t t n d (λ g. g b + g d)
        W = grown-up P v v₂ D agree 1 t n d (λ g. g b + g d) pt lt (λ j ne. at-t j ∙ slot-other v t (n / 512) b pt j ne)
            (λ j h ne. omega (arith, one, lo, whole (hit t), whole (hit b), hit_same t pt, sum-at 512 (child (hit t)) j h, sum-at 512 (child (hit b)) j h, sum-none 512 (λ k. 0) (λ k l. refl)))
            S.2 S.3
            (subst₃ (λ (x y z : ℕ). Grown P v v₂ 1 x y z d (λ g. g b + g d)) (sym was) (sym now) (sym start)
            (grown-block P v v₂ 0 b d d (λ g. g d) here.seat.pos pb hb (slot-here v₁ b 0 d pb) (λ k ne. slot-other v₁ b 0 d pb k ne ∙ at_b k ∙ bare k) (grown-page P v v₂ d pd hd)))

        R : Regrown here K (suc n) 2 t (used_pages (user v) a + 2) (λ g. 0) (λ g. g b + g d) (λ p. 0)
        R = record {
          weight = λ g g0. omega (arith, ap (λ (r : Root). weigh_r v r g) (root_is here 2 fl), W.weight g g0);
          shape = (omega (arith, S.0), lt, W.fill, W.inside);
          top = S.3.0;
          hands = λ p h. omega (arith, hand-is p, hit-sym p d, hit-sym p b);
          fresh = λ q z. omega (arith, hand-is q, hit-sym q d, hit-sym q b);
          count = omega (arith, some-pos d pd, some-pos b pb);
          within = le;
        }

        pg : upto n 262144 (leaf v₂ 2 t n) ≡ d
        pg = upto-in n 262144 (leaf v₂ 2 t n) lt ∙ W.at

        lastly : (g : ℕ → ℕ) → last v₂ (tree 2 t) n g ≡ g b + g d
        lastly g = omega (arith, last_block v₂ (tree 2 t) n g start (omega (arith, S.0)), ap g pg, ap g (index-2 v₂ t (n / 512) i ∙ now))

        needs : (p : ℕ) → p ≡ b → Needs v₂ (tree 2 t) n p
        needs p h = omega (arith, lastly (hit p), subst (λ (z : ℕ). hit p z ≡ 1) h (hit_same p (omega arith)))

  -- ---- the index block is full: a subindex block s over it and over a new one
  module _ (d b s : ℕ) (hd : d < P) (hb : b < P) (hs : s < P) (pd : 0 < d) (pb : 0 < b) (ps : 0 < s) (hand-is : (p : ℕ) → hand p ≡ hit d p + hit b p + hit s p)
      (bare : (j : ℕ) → slot v b j ≡ 0) (bare' : (j : ℕ) → slot v s j ≡ 0)
      (fl : flags (object v e) 30 ≡ 1) (full : n ≡ 512) (le : used_pages (user v) a + 3 ≤ given (user v) a) where
    pub grew-raise : Grew P v (finish (set_slot (set_slot (set_slot v s 0 t) s 1 b) b 0 d) U O a e 513 (pointer 2 s) (used_pages (user v) a + 3)) a e n d hand
    unfolding Shape root_by weigh_r Fill Below weigh blocks page_at subindex_of
    grew-raise = grew P v v₃ _ a e n d 2 s _ 513 (λ g. g s + (g b + g d)) hand
        (finished here K 513 2 s (used_pages (user v) a + 3) (λ g. 0) (λ g. g s + (g b + g d)) (λ p. 0) R)
        refl (sym (ap suc full)) (ap (λ (k : ℕ). used_pages (user v) a + k) (sym (need-raise n full)))
        (λ m h. upto-in m 262144 (leaf v₃ 2 s m) (omega (arith, full)) ∙ raise-old P v v₃ D agree 1 t s b d (λ g. g b + g d) here.seat.pos ps hs s0 s1 so bz F B W m (omega (arith, full))
        ∙ sym (upto-in m 512 (leaf v 1 t m) (omega (arith, full))) ∙ sym (ap (λ (r : Root). page_at v r m) (root_is here 1 fl))) pg
        lastly (λ p. omega (arith, hand-is p, hit-sym p d, hit-sym p b, hit-sym p s))
        (only-trans _ v v₂ v₃ (only-trans _ v v₁ v₂ (only-slot _ v s 0 t (λ p j h. inl (top p h.0))) (only-slot _ v₁ s 1 b (λ p j h. inl (top p h.0)))) (only-slot _ v₂ b 0 d (λ p j h. inl (index p h.0))))
      where
        S : Shape P v 1 t n
        S = shape_is here 1 fl

        F : Fill v 1 t 512
        F = subst (λ (y : ℕ). Fill v 1 t y) full S.2

        B : Below v P 1 t
        B = S.3

        pt : 0 < t
        pt = S.2.0 S.0

        v₁ : Vol
        v₁ = set_slot v s 0 t

        v₂ : Vol
        v₂ = set_slot v₁ s 1 b

        v₃ : Vol
        v₃ = set_slot v₂ b 0 d

        D : ℕ → ℕ
        D x = hit s x + hit b x

        lo : (all P v (hit b) ≡ 0) × (weigh_r v (file_at v e) (hit b) ≡ 0) × (hand b ≡ 1)
        lo = loose here b hb (omega (arith, hand-is b, hit_same b pb))

        lo' : (all P v (hit s) ≡ 0) × (weigh_r v (file_at v e) (hit s) ≡ 0) × (hand s ≡ 1)
        lo' = loose here s hs (omega (arith, hand-is s, hit_same s ps))

        sb : s ≢ b
        sb q = omega (arith, lo', hand-is s, hit_same s ps, subst (λ (y : ℕ). hit y s ≡ 1) q (hit_same s ps))

        agree : Agree D v v₃
        agree = Agree-mono (λ x. hit s x + hit s x + hit b x) D v v₃ (λ q z. omega (arith, z))
            (Agree-comp (λ x. hit s x + hit s x) (hit b) v v₂ v₃ (Agree-comp (hit s) (hit s) v v₁ v₂ (set_slot-agree v s 0 t) (set_slot-agree v₁ s 1 b)) (set_slot-agree v₂ b 0 d))

        K : Blocks here D v₃
        K = record {
          none = omega (arith, hit-zero s, hit-zero b);
          only = omega (arith, lo, lo', all-add P v (hit s) (hit b), weigh_r-add v (hit s) (hit b) (file_at v e));
          agree = agree;
          master = λ k. set_slot-page v₂ b 0 d 0 k (omega arith) ∙ set_slot-page v₁ s 1 b 0 k (omega arith) ∙ set_slot-page v s 0 t 0 k (omega arith);
        }

        at-s : (j : ℕ) → slot v₃ s j ≡ slot v₂ s j
        at-s j = slot_same v₂ v₃ s (λ k. word-ext v₂ v₃ s k (λ h. set_slot-page v₂ b 0 d s k sb)) j

        at_b : (j : ℕ) → slot v₂ b j ≡ slot v b j
        at_b j = slot_same v v₂ b (λ k. word-ext v v₂ b k (λ h. set_slot-page v₁ s 1 b b k (λ q. sb (sym q)) ∙ set_slot-page v s 0 t b k (λ q. sb (sym q)))) j

        s0 : slot v₃ s 0 ≡ t
        s0 = at-s 0 ∙ slot-other v₁ s 1 b ps 0 (omega arith) ∙ slot-here v s 0 t ps

        s1 : slot v₃ s 1 ≡ b
        s1 = at-s 1 ∙ slot-here v₁ s 1 b ps

        so : (k : ℕ) → k ≢ 0 → k ≢ 1 → slot v₃ s k ≡ 0
        so k i j = at-s k ∙ slot-other v₁ s 1 b ps k j ∙ slot-other v s 0 t ps k i ∙ bare' k

        whole : (g : ℕ → ℕ) → weigh_r v (file_at v e) g ≡ weigh v 1 t g
        whole g = ap (λ (r : Root). weigh_r v r g) (root_is here 1 fl)

        bz : blocks v 1 t D ≡ 0
        bz = omega (arith, lo, lo', blocks-le v D 1 t, whole D, weigh_r-add v (hit s) (hit b) (file_at v e))

        W : Grown P v v₃ 1 0 b 0 d (λ g. g b + g d)
        W = grown-block P v v₃ 0 b d d (λ g. g d) here.seat.pos pb hb (slot-here v₂ b 0 d pb) (λ k ne. slot-other v₂ b 0 d pb k ne ∙ at_b k ∙ bare k) (grown-page P v v₃ d pd hd)

        R : Regrown here K 513 2 s (used_pages (user v) a + 3) (λ g. 0) (λ g. g s + (g b + g d)) (λ p. 0)
        R = record {
          weight = λ g g0. omega (arith, ap (λ (r : Root). weigh_r v r g) (root_is here 1 fl), raise-weight P v v₃ D agree 1 t s b d (λ g. g b + g d) here.seat.pos ps hs s0 s1 so bz F B W g g0);
          shape = (omega arith, omega arith, raise-fill P v v₃ D agree 1 t s b d (λ g. g b + g d) here.seat.pos ps hs s0 s1 so bz F B W, raise-below P v v₃ D agree 1 t s b d (λ g. g b + g d) here.seat.pos ps hs s0 s1 so bz F B W);
          top = hs;
          hands = λ p h. omega (arith, hand-is p, hit-sym p d, hit-sym p b, hit-sym p s);
          fresh = λ q z. omega (arith, hand-is q, hit-sym q d, hit-sym q b, hit-sym q s);
          count = omega (arith, some-pos d pd, some-pos b pb, some-pos s ps);
          within = le;
        }

        pg : upto n 262144 (leaf v₃ 2 s n) ≡ d
        pg = upto-in n 262144 (leaf v₃ 2 s n) (omega (arith, full)) ∙ ap (leaf v₃ 2 s) full ∙ raise-at P v v₃ D agree 1 t s b d (λ g. g b + g d) here.seat.pos ps hs s0 s1 so bz F B W

        lastly : (g : ℕ → ℕ) → last v₃ (tree 2 s) n g ≡ g s + (g b + g d)
        lastly g = omega (arith, last-raise v₃ (tree 2 s) n g full, ap g pg, ap g (ap (index_at v₃ (tree 2 s)) (let q : n / 512 ≡ 1 = omega (arith, full) in q) ∙ index-2 v₃ s 1 (omega arith) ∙ s1))

        top : (p : ℕ) → p ≡ s → Needs v₃ (tree 2 s) n p
        top p h = omega (arith, lastly (hit p), subst (λ (z : ℕ). hit p z ≡ 1) h (hit_same p (omega arith)))

        index : (p : ℕ) → p ≡ b → Needs v₃ (tree 2 s) n p
        index p h = omega (arith, lastly (hit p), subst (λ (z : ℕ). hit p z ≡ 1) h (hit_same p (omega arith)))
