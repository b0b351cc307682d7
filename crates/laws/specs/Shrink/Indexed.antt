-- A file that loses its last page, up to giving the pages back; the two ways without a subindex block. Assumes nothing.
use Rattle.std.specs.Prelude.{◌≡◌, ℕ, suc, ◌+◌, ◌-◌, ◌*◌, ◌/◌, ◌%◌, ◌≤◌, ◌<◌}
use Rattle.std.proofs.Math.Path.{refl, sym, ap}
use Rattle.std.proofs.Common.{ap₂, ◌∙◌, subst, inr}
use Rattle.std.proofs.Math.Logic.{inl}
use native.Mathlib.Omega.{arith}
use Rattle.sums.specs.Sum.{sum-zero, sum-at}
use Rattle.book.specs.Entries.{user_file, object_file, user, object, given, used_pages}
use Rattle.book.specs.Files.{file_at, Shape, need}
use Rattle.book.specs.Grow.{finish}
use Rattle.book.specs.Holders.{hit, some, all, mine}
use Rattle.book.specs.Pointers.{slot, flags, page, pointer, set_slot}
use Rattle.book.specs.Rules.{Rule4Over, Rule10}
use Rattle.book.specs.Trees.{Root, tree, weigh, weigh_r, page_at, index_at, upto, root_by, Fill, Below}
use Rattle.book.specs.Words.{Vol, two}
use Rattle.laws.specs.Count.Good.{Good}
use Rattle.laws.specs.File.Around.{Around, Needs, SlotOf, Longer}
use Rattle.laws.specs.File.Finish.{Blocks, owner-used}
use Rattle.laws.specs.File.Finished.{Finished, finished}
use Rattle.laws.specs.File.Owned.{own, root_is, shape_is, Owned}
use Rattle.laws.specs.Frame.Beside.{Beside}
use Rattle.laws.specs.Frame.Places.{only-slot, only-trans, OnlyAt, only_wider}
use Rattle.laws.specs.Frame.Roots.{weigh_r-nobody}
use Rattle.laws.specs.Shrink.Shrunk.{Shrunk, shrunk-page, shrunk-block, shrunk-leaf, all-zero}
use Rattle.laws.specs.Tree.Levels.{last, last-mid, last_block, need-mid, need-block, page-1, index-1}
use Rattle.laws.specs.Tree.Slot.{set_slot-page, set_slot-agree, Agree, hit-zero, hit_same, some-pos}
use Rattle.laws.specs.Tree.Weigh.{weigh-none}

-- the file at e of user a lost its last position n, whose pages are in hand: the volume is as good as before, and all beside is as it was
pub record Lost (P : ℕ) (v v' : Vol) (a e n : ℕ) (hand : ℕ → ℕ) : Type 0 where
  pub good : Good P v' hand
  pub longer : Longer v' v a e n
  pub beside : Beside P v v' a e
  pub words : OnlyAt (Around P v a e n) v v'

-- a page that can be given back: the last position alone needs it
abbrev pub Real : ℕ → Vol → ℕ → ℕ → ℕ → Type 0
Real P v e n d = (0 < d) × (d < P) × Needs v (file_at v e) n d

-- from what is known of its blocks
pub lost : (P : ℕ) (v v₂ v₃ : Vol) (a e n x t y : ℕ) (gone : (ℕ → ℕ) → ℕ) (hand : ℕ → ℕ) → Finished P v v₂ v₃ a e n x t y gone (λ g. 0) hand → two (object v e) 26 ≡ suc n
    → y + need n ≡ used_pages (user v) a → ((m : ℕ) → m < n → page_at v₂ (root_by x t n) m ≡ page_at v (file_at v e) m)
    → ((g : ℕ → ℕ) → last v (file_at v e) n g ≡ gone g) → OnlyAt (SlotOf v (file_at v e) n) v v₂ → Lost P v v₃ a e n hand
lost P v v₂ v₃ a e n x t y gone hand F i k old l o = record {
  good = F.good;
  longer = record {
    count = F.count;
    count' = i;
    entry = λ k h. sym (F.entry k h);
    spent = omega (arith, F.spent, k);
    old = λ m h. sym (F.page m ∙ old m h);
    weight = λ g g0. omega (arith, F.weight g g0, l g);
  };
  beside = F.beside;
  words = only-trans (Around P v a e n) v v₂ v₃ (only_wider _ _ v v₂ (λ p j h. inr (inl h)) o) (only_wider _ _ v₂ v₃ (λ p j h. inr (inr h)) F.words);
}

module _ {P : ℕ} {v : Vol} {a f : ℕ} (here : Owned P v (λ p. 0) a f) where
  abbrev e : ℕ
  e = 256 * a + f

  abbrev U : ℕ
  U = page_at v (user_file v) (a / 32)

  abbrev O : ℕ
  O = page_at v (object_file v) (e / 32)

  abbrev n : ℕ
  n = two (object v e) 26

  abbrev t : ℕ
  t = page (object v e) 30

  -- what leaves the file is paid back
  mine-file : weigh_r v (file_at v e) some ≤ mine v a some
  unfolding mine
  mine-file = sum-at 256 (λ f. weigh_r v (file_at v (256 * a + f)) some) f here.seat.hf

  pub paid : (k : ℕ) → k ≤ weigh_r v (file_at v e) some → k ≤ used_pages (user v) a
  unfolding Rule10
  paid k h = omega (arith, here.seat.good.most.r10.0 a here.seat.ha (owner-used here), mine-file)

  pub within : used_pages (user v) a ≤ given (user v) a
  unfolding Rule4Over
  within = (here.seat.good.most.r4.0 a here.seat.ha (owner-used here)).within

  -- ---- the only page of a file: the index block goes too
  module _ (n1 : n ≡ 1) (fl : flags (object v e) 30 ≡ 1) where
    abbrev d₁ : ℕ
    d₁ = slot v t 0

    pub lost-first : Lost P v (finish v U O a e 0 (pointer 0 0) (used_pages (user v) a - 2)) a e 0 (λ p. hit p t + hit p d₁) × Real P v e 0 t × Real P v e 0 d₁
    unfolding Shape root_by weigh_r Fill Below weigh Agree
    lost-first = (
      lost P v v _ a e 0 0 0 _ (λ g. g t + g d₁) (λ p. hit p t + hit p d₁)
          (finished here K 0 0 0 (used_pages (user v) a - 2) (λ g. g t + g d₁) (λ g. 0) (λ p. hit p t + hit p d₁) record {
            weight = λ g g0. omega (arith, ap (λ (r : Root). weigh_r v r g) (root_is here 1 fl), W.weight g g0, weigh-none v g g0 1, sum-zero (λ i. g (0 + i)));
            shape = inl (refl, refl);
            top = here.seat.pos;
            hands = λ p h. omega arith;
            fresh = λ q z. refl;
            count = omega (arith, some-pos t pt, some-pos d₁ pd, two');
            within = omega (arith, within);
          }) n1 (omega (arith, two', need-block 0 refl (omega arith)))
          (λ i h. absurd (let r : ⊥ = omega arith in r)) lastly (λ p k h. refl),
      (pt, S.3.0, omega (arith, lastly (hit t), hit_same t pt)),
      (pd, S.3.1 0 (omega arith), omega (arith, lastly (hit d₁), hit_same d₁ pd)),
    )
      where
        S : Shape P v 1 t n
        S = shape_is here 1 fl

        F : Fill v 1 t 1
        F = subst (λ (x : ℕ). Fill v 1 t x) n1 S.2

        pt : 0 < t
        pt = S.2.0 S.0

        pd : 0 < d₁
        pd = (F.2 0 (omega arith)).0 (omega arith)

        W : Shrunk P v v 1 t 0 0 (λ g. g t + g d₁)
        W = shrunk-block P v v 0 t (λ g. g d₁) here.seat.pos F (shrunk-page P v v d₁ here.seat.pos)

        two' : 2 ≤ used_pages (user v) a
        two' = paid 2 (omega (arith, ap (λ (r : Root). weigh_r v r some) (root_is here 1 fl), some-pos t pt, some-pos d₁ pd, sum-at 512 (λ k. some (slot v t k)) 0 (omega arith)))

        nobody : all P v (λ x. 0) ≡ weigh_r v (file_at v e) (λ x. 0)
        nobody = all-zero P v ∙ sym (weigh_r-nobody v (λ x. 0) (λ x. refl) (file_at v e))

        K : Blocks here (λ x. 0) v
        K = record { none = refl; only = nobody; agree = λ q h k. refl; master = λ k. refl }

        at : page_at v (file_at v e) 0 ≡ page_at v (tree 1 t) 0
        at = ap (λ (r : Root). page_at v r 0) (root_is here 1 fl)

        ix : index_at v (file_at v e) 0 ≡ index_at v (tree 1 t) 0
        ix = ap (λ (r : Root). index_at v r 0) (root_is here 1 fl)

        lastly : (g : ℕ → ℕ) → last v (file_at v e) 0 g ≡ g t + g d₁
        lastly g = omega (arith, last_block v (file_at v e) 0 g refl (omega arith), ap g (at ∙ page-1 v t 0 (omega arith)), ap g (ix ∙ index-1 v t))

  -- ---- within the index block of a file of up to 512
  module _ (m : ℕ) (nm : n ≡ suc m) (pm : 0 < m) (fl : flags (object v e) 30 ≡ 1) where
    abbrev d : ℕ
    d = slot v t m

    pub lost-onward : Lost P v (finish (set_slot v t m 0) U O a e m (pointer 1 t) (used_pages (user v) a - 1)) a e m (λ p. hit p d) × Real P v e m d
    unfolding Shape root_by weigh_r Fill Below weigh page_at
    lost-onward = (
      lost P v v₂ _ a e m 1 t _ (λ g. g d) (λ p. hit p d)
          (finished here K m 1 t (used_pages (user v) a - 1) (λ g. g d) (λ g. 0) (λ p. hit p d) record {
            weight = λ g g0. omega (arith, ap (λ (r : Root). weigh_r v r g) (root_is here 1 fl), W.weight g g0);
            shape = (pm, omega (arith, S.1), W.fill, W.inside);
            top = S.3.0;
            hands = λ p h. omega arith;
            fresh = λ q z. refl;
            count = omega (arith, sd, one);
            within = omega (arith, within);
          }) nm (omega (arith, one, need-mid m mid))
          (λ i h. ap (upto i 512) (W.old i h) ∙ sym (at i)) lastly
          (only-slot _ v t m 0 (λ p j h. inl (mid, (h.0 ∙ sym ix, omega (arith, h.1, lt), omega (arith, h.2, lt))))),
      (pd, S.3.1 m lt, omega (arith, lastly (hit d), hit_same d pd)),
    )
      where
        S : Shape P v 1 t n
        S = shape_is here 1 fl

        F : Fill v 1 t (suc m)
        F = subst (λ (x : ℕ). Fill v 1 t x) nm S.2

        v₂ : Vol
        v₂ = set_slot v t m 0

        pt : 0 < t
        pt = S.2.0 S.0

        lt : m < 512
        lt = omega (arith, S.1)

        W : Shrunk P v v₂ 1 t t m (λ g. g d)
        W = shrunk-leaf P v t m here.seat.pos pt pm lt F S.3

        pd : 0 < d
        pd = (F.2 m lt).0 (omega arith)

        sd : some d ≡ 1
        sd = some-pos d pd

        one : 1 ≤ used_pages (user v) a
        one = paid 1 (omega (arith, ap (λ (r : Root). weigh_r v r some) (root_is here 1 fl), some-pos t pt))

        K : Blocks here (hit t) v₂
        K = record {
          none = hit-zero t;
          only = (own here t S.3.0 (omega (arith, ap (λ (r : Root). weigh_r v r (hit t)) (root_is here 1 fl), hit_same t pt))).0;
          agree = set_slot-agree v t m 0;
          master = λ k. set_slot-page v t m 0 0 k (omega (arith, pt));
        }

        mid : 0 < m % 512
        mid = omega (arith, lt)

        at : (i : ℕ) → page_at v (file_at v e) i ≡ page_at v (tree 1 t) i
        at i = ap (λ (r : Root). page_at v r i) (root_is here 1 fl)

        ix : index_at v (file_at v e) (m / 512) ≡ t
        ix = ap₂ (λ (r : Root) (i : ℕ). index_at v r i) (root_is here 1 fl) (let q : m / 512 ≡ 0 = omega (arith, lt) in q) ∙ index-1 v t

        lastly : (g : ℕ → ℕ) → last v (file_at v e) m g ≡ g d
        lastly g = last-mid v (file_at v e) m g mid ∙ ap g (at m ∙ page-1 v t m lt)
