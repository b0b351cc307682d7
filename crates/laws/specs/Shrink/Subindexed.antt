-- The three ways in which a file loses its last page under a subindex block, up to giving the pages back. Assumes nothing.
use Rattle.std.specs.Prelude.{◌≡◌, refl, ◌≢◌, ℕ, suc, ◌+◌, ◌-◌, ◌*◌, ◌/◌, ◌%◌, ◌≤◌, ◌<◌}
use Rattle.std.proofs.Math.Path.{sym, ap, ap₂}
use Rattle.std.proofs.Common.{◌∙◌, subst, subst₂, mod-lt}
use Rattle.std.proofs.Math.Logic.{inl, inr}
use native.Mathlib.Omega.{arith}
use Rattle.sums.specs.Sum.{sum, sum-none, sum-at, sum-at₂, sum-only₂}
use Rattle.book.specs.Entries.{user_file, object_file, user, object, used_pages}
use Rattle.book.specs.Files.{file_at, Shape}
use Rattle.book.specs.Grow.{finish}
use Rattle.book.specs.Holders.{hit, some, all}
use Rattle.book.specs.Pointers.{slot, flags, page, pointer, set_slot}
use Rattle.book.specs.Trees.{Root, tree, weigh, blocks, weigh_r, page_at, index_at, subindex_of, upto, root_by, Fill, Below}
use Rattle.book.specs.Words.{Vol, two}
use Rattle.book.specs.Written.{word-ext}
use Rattle.laws.specs.File.Finish.{Blocks}
use Rattle.laws.specs.File.Finished.{finished}
use Rattle.laws.specs.File.Owned.{own, root_is, shape_is, Owned}
use Rattle.laws.specs.Frame.Places.{only-slot}
use Rattle.laws.specs.Frame.Roots.{weigh_r-nobody}
use Rattle.laws.specs.Grow.Grown.{part-here}
use Rattle.laws.specs.Shrink.Indexed.{Lost, Real, lost, paid, within}
use Rattle.laws.specs.Shrink.Shrunk.{Shrunk, shrunk-page, shrunk-block, shrunk-up, shrunk-leaf, all-zero}
use Rattle.laws.specs.Tree.Levels.{last, last-mid, last_block, last-raise, need-mid, need-block, need-raise, page-1, page-2, index-2}
use Rattle.laws.specs.Tree.Slot.{slot-here, slot-other, set_slot-page, set_slot-agree, Agree, hit-zero, hit_same, some-pos, some-zero, slot_same}
use Rattle.laws.specs.Tree.Weigh.{weigh-none}

module _ {P : ℕ} {v : Vol} {a f : ℕ} (here : Owned P v (λ p. 0) a f) where
  abbrev e : ℕ
  e = 256 * a + f

  abbrev U : ℕ
  U = page_at v (user_file v) (a / 32)

  abbrev O : ℕ
  O = page_at v (object_file v) (e / 32)

  abbrev n : ℕ
  n = two (object v e) 26

  abbrev t : ℕ
  t = page (object v e) 30

  -- ---- under the subindex: within index block m / 512
  module _ (m : ℕ) (nm : n ≡ suc m) (hi : 512 < m) (mid : 0 < m % 512) (fl : flags (object v e) 30 ≡ 2) where
    abbrev X : ℕ
    X = slot v t (m / 512)

    abbrev d₂ : ℕ
    d₂ = slot v X (m % 512)

    pub lost-onward-sub : Lost P v (finish (set_slot v X (m % 512) 0) U O a e m (pointer 2 t) (used_pages (user v) a - 1)) a e m (λ p. hit p d₂) × Real P v e m d₂
    unfolding Shape root_by weigh_r Fill Below weigh blocks page_at
    lost-onward-sub = (
      lost P v v₂ _ a e m 2 t _ (λ g. g d₂) (λ p. hit p d₂)
          (finished here K m 2 t (used_pages (user v) a - 1) (λ g. g d₂) (λ g. 0) (λ p. hit p d₂) record {
            weight = λ g g0. omega (arith, whole g, W.weight g g0);
            shape = (hi, omega (arith, S.1), W.fill, W.inside);
            top = S.3.0;
            hands = λ p h. omega arith;
            fresh = λ q z. refl;
            count = omega (arith, sd, one');
            within = omega (arith, within here);
          }) nm (omega (arith, one', need-mid m mid))
          (λ i h. ap (upto i 262144) (W.old i h) ∙ sym (pg i)) lastly
          (only-slot _ v X (m % 512) 0 (λ p j h. inl (mid, (h.0 ∙ sym ix, h.1, h.2)))),
      (pd, BX.1 (m % 512) (mod-lt m (omega arith)), omega (arith, lastly (hit d₂), hit_same d₂ pd)),
    )
      where
        S : Shape P v 2 t n
        S = shape_is here 2 fl

        F : Fill v 2 t (suc m)
        F = subst (λ (x : ℕ). Fill v 2 t x) nm S.2

        whole : (g : ℕ → ℕ) → weigh_r v (file_at v e) g ≡ g t + sum 512 (λ k. weigh v 1 (slot v t k) g)
        whole g = ap (λ (r : Root). weigh_r v r g) (root_is here 2 fl)

        v₂ : Vol
        v₂ = set_slot v X (m % 512) 0

        pt : 0 < t
        pt = F.0 (omega arith)

        lt : m < 262144
        lt = omega (arith, S.1)

        i : m / 512 < 512
        i = omega (arith, lt)

        FX : Fill v 1 X (suc (m % 512))
        FX = subst (λ (y : ℕ). Fill v 1 X y) (part-here 512 m (omega arith)) (F.2 (m / 512) i)

        p_x : 0 < X
        p_x = FX.0 (omega arith)

        BX : Below v P 1 X
        BX = S.3.1 (m / 512) i

        child : ℕ → ℕ
        child j = weigh v 1 (slot v t j) (hit X)

        at : 1 ≤ child (m / 512)
        at = omega (arith, hit_same X p_x)

        one : (all P v (hit X) ≡ weigh_r v (file_at v e) (hit X)) × (weigh_r v (file_at v e) (hit X) ≡ 1)
        one = own here X BX.0 (omega (arith, whole (hit X), at, sum-at 512 child (m / 512) i))

        t_x : t ≢ X
        t_x q = omega (arith, one, whole (hit X), at, sum-at 512 child (m / 512) i, subst (λ (y : ℕ). hit X y ≡ 1) (sym q) (hit_same X p_x))

        pd : 0 < d₂
        pd = (FX.2 (m % 512) (mod-lt m (omega arith))).0 (omega arith)

        sd : some d₂ ≡ 1
        sd = some-pos d₂ pd

        one' : 1 ≤ used_pages (user v) a
        one' = paid here 1 (omega (arith, whole some, some-pos t pt))

        K : Blocks here (hit X) v₂
        K = record { none = hit-zero X; only = one.0; agree = set_slot-agree v X (m % 512) 0; master = λ k. set_slot-page v X (m % 512) 0 0 k (omega (arith, p_x)) }

        top : (j : ℕ) → slot v₂ t j ≡ slot v t j
        top j = slot_same v v₂ t (λ k. word-ext v v₂ t k (λ h. set_slot-page v X (m % 512) 0 t k t_x)) j

        W : Shrunk P v v₂ 2 t t m (λ g. g d₂)
        W = shrunk-up P v v₂ (hit X) (set_slot-agree v X (m % 512) 0) 1 t m (λ g. g d₂) pt (omega arith) lt (λ j ne. top j)
            (λ j h ne. omega (arith, one, whole (hit X), at, sum-at₂ 512 child j (m / 512) h i ne, sum-none 512 (λ k. 0) (λ k l. refl)))
            F S.3 (subst (λ (y : ℕ). Shrunk P v v₂ 1 X y (m % 512) (λ g. g d₂)) (sym (top (m / 512))) (shrunk-leaf P v X (m % 512) here.seat.pos p_x mid (mod-lt m (omega arith)) FX BX))

        pg : (i : ℕ) → page_at v (file_at v e) i ≡ page_at v (tree 2 t) i
        pg i = ap (λ (r : Root). page_at v r i) (root_is here 2 fl)

        ix : index_at v (file_at v e) (m / 512) ≡ X
        ix = ap (λ (r : Root). index_at v r (m / 512)) (root_is here 2 fl) ∙ index-2 v t (m / 512) i

        lastly : (g : ℕ → ℕ) → last v (file_at v e) m g ≡ g d₂
        lastly g = last-mid v (file_at v e) m g mid ∙ ap g (pg m ∙ page-2 v t m lt)

  -- ---- under the subindex: the last index block had one page
  module _ (m : ℕ) (nm : n ≡ suc m) (hi : 512 < m) (start : m % 512 ≡ 0) (fl : flags (object v e) 30 ≡ 2) where
    abbrev b₃ : ℕ
    b₃ = slot v t (m / 512)

    abbrev d₃ : ℕ
    d₃ = slot v b₃ 0

    pub lost-block : Lost P v (finish (set_slot v t (m / 512) 0) U O a e m (pointer 2 t) (used_pages (user v) a - 2)) a e m (λ p. hit p b₃ + hit p d₃) × Real P v e m b₃ × Real P v e m d₃
    unfolding Shape root_by weigh_r Fill Below weigh blocks page_at subindex_of
    lost-block = (
      lost P v v₂ _ a e m 2 t _ (λ g. g b₃ + g d₃) (λ p. hit p b₃ + hit p d₃)
          (finished here K m 2 t (used_pages (user v) a - 2) (λ g. g b₃ + g d₃) (λ g. 0) (λ p. hit p b₃ + hit p d₃) record {
            weight = λ g g0. omega (arith, whole g, W.weight g g0);
            shape = (hi, omega (arith, S.1), W.fill, W.inside);
            top = S.3.0;
            hands = λ p h. omega arith;
            fresh = λ q z. refl;
            count = omega (arith, some-pos b₃ pb, sd, two');
            within = omega (arith, within here);
          }) nm (omega (arith, two', need-block m start (omega arith)))
          (λ i h. ap (upto i 262144) (W.old i h) ∙ sym (pg i))
          lastly
          (only-slot _ v t (m / 512) 0 (λ p j h. inr (start, hi, (h.0 ∙ sym sub, h.1, h.2)))),
      (pb, (S.3.1 (m / 512) i).0, omega (arith, lastly (hit b₃), hit_same b₃ pb)),
      (pd, (S.3.1 (m / 512) i).1 0 (omega arith), omega (arith, lastly (hit d₃), hit_same d₃ pd)),
    )
      where
        S : Shape P v 2 t n
        S = shape_is here 2 fl

        F : Fill v 2 t (suc m)
        F = subst (λ (x : ℕ). Fill v 2 t x) nm S.2

        whole : (g : ℕ → ℕ) → weigh_r v (file_at v e) g ≡ g t + sum 512 (λ k. weigh v 1 (slot v t k) g)
        whole g = ap (λ (r : Root). weigh_r v r g) (root_is here 2 fl)

        v₂ : Vol
        v₂ = set_slot v t (m / 512) 0

        pt : 0 < t
        pt = F.0 (omega arith)

        lt : m < 262144
        lt = omega (arith, S.1)

        i : m / 512 < 512
        i = omega (arith, lt)

        Fb : Fill v 1 b₃ 1
        Fb = subst (λ (y : ℕ). Fill v 1 b₃ y) (part-here 512 m (omega arith) ∙ ap suc start) (F.2 (m / 512) i)

        pb : 0 < b₃
        pb = Fb.0 (omega arith)

        pd : 0 < d₃
        pd = (Fb.2 0 (omega arith)).0 (omega arith)

        sd : some d₃ ≡ 1
        sd = some-pos d₃ pd

        one : (all P v (hit t) ≡ weigh_r v (file_at v e) (hit t)) × (weigh_r v (file_at v e) (hit t) ≡ 1)
        one = own here t S.3.0 (omega (arith, whole (hit t), hit_same t pt))

        two' : 2 ≤ used_pages (user v) a
        two' = paid here 2 (omega (arith, whole some, some-pos t pt, some-pos b₃ pb, sum-at 512 (λ k. weigh v 1 (slot v t k) some) (m / 512) i))

        K : Blocks here (hit t) v₂
        K = record { none = hit-zero t; only = one.0; agree = set_slot-agree v t (m / 512) 0; master = λ k. set_slot-page v t (m / 512) 0 0 k (omega (arith, pt)) }

        W : Shrunk P v v₂ 2 t t m (λ g. g b₃ + g d₃)
        W = shrunk-up P v v₂ (hit t) (set_slot-agree v t (m / 512) 0) 1 t m (λ g. g b₃ + g d₃) pt (omega arith) lt (λ j ne. slot-other v t (m / 512) 0 pt j ne)
            (λ j h ne. omega (arith, one, whole (hit t), hit_same t pt, sum-at 512 (λ k. weigh v 1 (slot v t k) (hit t)) j h, sum-none 512 (λ k. 0) (λ k l. refl)))
            F S.3 (subst₂ (λ (y z : ℕ). Shrunk P v v₂ 1 b₃ y z (λ g. g b₃ + g d₃)) (sym (slot-here v t (m / 512) 0 pt)) (sym start)
            (shrunk-block P v v₂ 0 b₃ (λ g. g d₃) here.seat.pos Fb (shrunk-page P v v₂ d₃ here.seat.pos)))

        pg : (i : ℕ) → page_at v (file_at v e) i ≡ page_at v (tree 2 t) i
        pg i = ap (λ (r : Root). page_at v r i) (root_is here 2 fl)

        ix : index_at v (file_at v e) (m / 512) ≡ index_at v (tree 2 t) (m / 512)
        ix = ap (λ (r : Root). index_at v r (m / 512)) (root_is here 2 fl)

        sub : subindex_of (file_at v e) ≡ t
        sub = ap subindex_of (root_is here 2 fl)

        lastly : (g : ℕ → ℕ) → last v (file_at v e) m g ≡ g b₃ + g d₃
        lastly g = omega (arith, last_block v (file_at v e) m g start (omega arith), ap g (pg m ∙ page-2 v t m lt ∙ ap (slot v b₃) start), ap g (ix ∙ index-2 v t (m / 512) i))

  -- ---- 513 pages: back to a single index, without any block changed
  module _ (n5 : n ≡ 513) (fl : flags (object v e) 30 ≡ 2) where
    abbrev t₄ : ℕ
    t₄ = slot v t 0

    abbrev b₄ : ℕ
    b₄ = slot v t 1

    abbrev d₄ : ℕ
    d₄ = slot v b₄ 0

    pub lost-raise : Lost P v (finish v U O a e 512 (pointer 1 t₄) (used_pages (user v) a - 3)) a e 512 (λ p. hit p t + (hit p b₄ + hit p d₄)) × Real P v e 512 t × Real P v e 512 b₄ × Real P v e 512 d₄
    unfolding Shape root_by weigh_r Fill Below weigh Agree subindex_of
    lost-raise = (
      lost P v v _ a e 512 1 t₄ _ (λ g. g t + (g b₄ + g d₄)) (λ p. hit p t + (hit p b₄ + hit p d₄))
          (finished here K 512 1 t₄ (used_pages (user v) a - 3) (λ g. g t + (g b₄ + g d₄)) (λ g. 0) (λ p. hit p t + (hit p b₄ + hit p d₄)) record {
            weight = λ g g0. omega (arith, whole g, two-children g g0);
            shape = (omega arith, omega arith, F.2 0 (omega arith), S.3.1 0 (omega arith));
            top = (S.3.1 0 (omega arith)).0;
            hands = λ p h. omega arith;
            fresh = λ q z. refl;
            count = omega (arith, some-pos t pt, some-pos b₄ pb, sd, three');
            within = omega (arith, within here);
          }) n5 (omega (arith, three', need-raise 512 refl))
          (λ i h. page-1 v t₄ i h ∙ sym (pg i ∙ page-2 v t i (omega arith) ∙ ap₂ (λ (y z : ℕ). slot v (slot v t y) z) (let q : i / 512 ≡ 0 = omega arith in q) (let q : i % 512 ≡ i = omega arith in q)))
          lastly (λ p k h. refl),
      (pt, S.3.0, omega (arith, lastly (hit t), hit_same t pt)),
      (pb, (S.3.1 1 (omega arith)).0, omega (arith, lastly (hit b₄), hit_same b₄ pb)),
      (pd, (S.3.1 1 (omega arith)).1 0 (omega arith), omega (arith, lastly (hit d₄), hit_same d₄ pd)),
    )
      where
        S : Shape P v 2 t n
        S = shape_is here 2 fl

        F : Fill v 2 t 513
        F = subst (λ (x : ℕ). Fill v 2 t x) n5 S.2

        whole : (g : ℕ → ℕ) → weigh_r v (file_at v e) g ≡ g t + sum 512 (λ k. weigh v 1 (slot v t k) g)
        whole g = ap (λ (r : Root). weigh_r v r g) (root_is here 2 fl)

        pt : 0 < t
        pt = F.0 (omega arith)

        Fb : Fill v 1 b₄ 1
        Fb = F.2 1 (omega arith)

        pb : 0 < b₄
        pb = Fb.0 (omega arith)

        pd : 0 < d₄
        pd = (Fb.2 0 (omega arith)).0 (omega arith)

        sd : some d₄ ≡ 1
        sd = some-pos d₄ pd

        Wb : Shrunk P v v 1 b₄ 0 0 (λ g. g b₄ + g d₄)
        Wb = shrunk-block P v v 0 b₄ (λ g. g d₄) here.seat.pos Fb (shrunk-page P v v d₄ here.seat.pos)

        others : (j : ℕ) → j < 512 → j ≢ 0 → j ≢ 1 → slot v t j ≡ 0
        others j h p q = (F.2 j h).1 (omega arith)

        two-children : (g : ℕ → ℕ) → g 0 ≡ 0 → sum 512 (λ k. weigh v 1 (slot v t k) g) ≡ weigh v 1 t₄ g + (g b₄ + g d₄)
        two-children g g0 = omega (
          arith,
          Wb.weight g g0,
          weigh-none v g g0 1,
          sum-only₂ 512 (λ k. weigh v 1 (slot v t k) g) 0 1 (omega arith) (omega arith) (omega arith) (λ j h p q. ap (λ (x : ℕ). weigh v 1 x g) (others j h p q) ∙ weigh-none v g g0 1),
        )

        three' : 3 ≤ used_pages (user v) a
        three' = paid here 3 (omega (arith, whole some, two-children some some-zero, some-pos t pt, some-pos b₄ pb, sd))

        K : Blocks here (λ x. 0) v
        K = record { none = refl; only = all-zero P v ∙ sym (weigh_r-nobody v (λ x. 0) (λ x. refl) (file_at v e)); agree = λ q h k. refl; master = λ k. refl }

        pg : (i : ℕ) → page_at v (file_at v e) i ≡ page_at v (tree 2 t) i
        pg i = ap (λ (r : Root). page_at v r i) (root_is here 2 fl)

        ix : index_at v (file_at v e) 1 ≡ index_at v (tree 2 t) 1
        ix = ap (λ (r : Root). index_at v r 1) (root_is here 2 fl)

        top : subindex_of (file_at v e) ≡ t
        top = ap subindex_of (root_is here 2 fl)

        lastly : (g : ℕ → ℕ) → last v (file_at v e) 512 g ≡ g t + (g b₄ + g d₄)
        lastly g = omega (arith, last-raise v (file_at v e) 512 g refl, ap g (pg 512 ∙ page-2 v t 512 (omega arith)), ap g (ix ∙ index-2 v t 1 (omega arith)), ap g top)
