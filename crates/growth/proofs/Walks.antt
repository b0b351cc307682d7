-- Freeing as the code walks: a pointer, a block, a run, a root. The walk reads blocks that the clearing of bits leaves alone. Assumes nothing.
use mathlib.Core.Path.{◌≡◌, refl, sym, ap, ap₂, ◌∙◌, subst, subst₂}
use mathlib.Core.Logic.{◌≢◌}
use mathlib.Core.List.{List}
use Prim.Native.Nat.{ℕ, zero, suc, ◌+◌, ◌/◌, ◌≤◌, ◌<◌}
use native.Mathlib.Nat.{not-suc-le-zero}
use native.Mathlib.Numerals.{add-one}
use native.Mathlib.Omega.{arith}
use lib.ListN.{length}
use Rattle.sums.specs.Sum.{sum, sum-zero, sum-suc, sum-at-zero}
use Rattle.book.specs.Words.{Vol, vol}
use Rattle.book.specs.Written.{word-ext}
use Rattle.book.specs.Pointers.{page, slot, bit_pointer}
use Rattle.book.specs.Trees.{Root, tree, run, weigh, blocks, Below, weigh_r, blocks_r, root_by}
use Rattle.book.specs.Bits.{page_bits, bit_pages, bit_page, mark, freed}
use Rattle.book.specs.Holders.{hit}
use Rattle.book.specs.Image.{pages}
use Rattle.book.specs.Rules.{Rule1}
use Rattle.laws.specs.Bits.Claim.{bit_page-is}
use Rattle.laws.specs.Bits.Freed.{freed-rule, freed-page, freed-master, freed-none, freed-one, freed-more, freed-ext}
use Rattle.laws.specs.Tree.Pointer.{page-ext}
use Rattle.laws.specs.Tree.Slot.{Agree, hit-zero, hit_same, slot_same}
use Rattle.laws.specs.Tree.Weigh.{Below-frame, BelowR, blocks-frame, weigh-frame, weigh-none}
use Rattle.bits.specs.File.{BitsAt}
use Rattle.bits.proofs.Places.{bits_at}
use Rattle.growth.specs.Freeing.{bit_hits, Freeing, Apart, RootApart}

-- what is freed of v under g, where b is where its bit file begins
module _ (P : ℕ) (v : Vol) (b : ℕ) (r : Rule1 P v) (at : page (v 0) bit_pointer ≡ b) where
  pub freed-agree : (g : ℕ → ℕ) → Agree (bit_hits P b) v (freed P v g)
  unfolding Agree
  freed-agree g q z k = word-ext v (freed P v g) q k (λ h. freed-page P v r g q k (λ p i e. omega (arith, missed p i, hit_same q h, subst (λ (x : ℕ). hit x q ≡ hit q q) (e ∙ one p i) refl)))
    where
      one : (p : ℕ) → p < P → bit_page P v p ≡ b + p / page_bits
      one p i = bit_page-is P v r p i ∙ omega (arith, at)

      missed : (p : ℕ) → p < P → hit (b + p / page_bits) q ≡ 0
      missed p i = sum-at-zero (bit_pages P) (λ j. hit (b + j) q) z (p / page_bits) (omega arith)

-- ---- what a walk has freed so far, as a weight of page p

-- the first i pointers of the block t, of level l
abbrev pub slots_of : Vol → ℕ → ℕ → ℕ → ℕ → ℕ
slots_of v l t i p = sum i (λ k. weigh v l (slot v t k) (hit p))

-- the first i pages from s on
abbrev pub run_of : ℕ → ℕ → ℕ → ℕ
run_of s i p = sum i (λ k. hit p (s + k))

-- a block's pointers
pub apart-slot : (P : ℕ) (v : Vol) (b l t : ℕ) → Apart P v b (suc l) t → (k : ℕ) → k < 512 → Apart P v b l (slot v t k)
unfolding Below blocks
apart-slot P v b l t A k h = record { below = A.below.1 k h; apart = sum-at-zero 512 (λ k. blocks v l (slot v t k) (bit_hits P b)) (omega (arith, A.apart)) k h }

pub apart-top : (P : ℕ) (v : Vol) (b l t : ℕ) → Apart P v b l t → t < P
unfolding Below
apart-top P v b zero t A = A.below
apart-top P v b (suc l) t A = A.below.0

module _ (img : List ℕ) (b : ℕ) (F : Freeing img b) where
  abbrev P : ℕ
  P = pages img

  abbrev v : Vol
  v = vol img

  pub freeing-bits : BitsAt P v b
  freeing-bits = subst (λ (x : ℕ). BitsAt P v x) F.at (bits_at P v F.rule)

  -- one page
  pub clear-is : (w : Vol) (t : ℕ) → 0 < t → t < P → ((N : ℕ) → BitsAt N v b → t < N → w ≡ mark N v t 0) → w ≡ freed P v (λ p. hit p t)
  clear-is w t pt lt e = e P freeing-bits lt ∙ freed-one P v F.rule t pt lt

  -- ---- a pointer

  pub pointer_none : (l t : ℕ) → t ≡ 0 → v ≡ freed P v (λ p. weigh v l t (hit p))
  pointer_none l t z = sym (freed-none P v F.rule (λ p. weigh v l t (hit p)) (λ p h. ap (λ (x : ℕ). weigh v l x (hit p)) z ∙ weigh-none v (hit p) (hit-zero p) l))

  pub pointer-page : (w : Vol) (l t : ℕ) → l ≡ 0 → w ≡ freed P v (λ p. hit p t) → w ≡ freed P v (λ p. weigh v l t (hit p))
  unfolding weigh
  pointer-page w l t z e = e ∙ ap (λ (m : ℕ). freed P v (λ p. weigh v m t (hit p))) (sym z)

  pub slots-none : (l t : ℕ) → v ≡ freed P v (slots_of v l t 0)
  slots-none l t = sym (freed-none P v F.rule (slots_of v l t 0) (λ p h. sum-zero (λ k. weigh v l (slot v t k) (hit p))))

  pub run_none : (s : ℕ) → v ≡ freed P v (run_of s 0)
  run_none s = sym (freed-none P v F.rule (run_of s 0) (λ p h. sum-zero (λ k. hit p (s + k))))

  -- ---- the image after pages were freed

  module _ (img' : List ℕ) (g : ℕ → ℕ) (len : length img' ≡ length img) (i : vol img' ≡ freed P v g) where
    same : pages img' ≡ P
    same = ap (λ (n : ℕ). n / 1024) len

    agree : Agree (bit_hits P b) v (vol img')
    agree = subst (λ (w : Vol). Agree (bit_hits P b) v w) (sym i) (freed-agree P v b F.rule F.at g)

    pub freeing-next : Freeing img' b
    freeing-next = record {
      whole = record { even = omega (arith, F.whole.even); least = omega (arith, F.whole.least); most = omega (arith, F.whole.most) };
      rule = subst₂ (λ (N : ℕ) (w : Vol). Rule1 N w) (sym same) (sym i) (freed-rule P v F.rule g);
      at = page-ext (vol img' 0) (v 0) bit_pointer (master _) (master _) ∙ F.at;
    }
      where
        master : (k : ℕ) → vol img' 0 k ≡ v 0 k
        master k = ap (λ (w : Vol). w 0 k) i ∙ freed-master P v F.rule g k

    pub apart_next : (l t : ℕ) → Apart P v b l t → Apart (pages img') (vol img') b l t
    apart_next l t A = subst (λ (N : ℕ). Apart N (vol img') b l t) (sym same) record {
      below = Below-frame v (vol img') (bit_hits P b) agree P l t A.apart A.below;
      apart = blocks-frame v (vol img') (bit_hits P b) agree l t A.apart (bit_hits P b) ∙ A.apart;
    }

    -- of a level that code has one lower
    pub apart-under : (l m t : ℕ) → l ≡ suc m → Apart P v b l t → Apart (pages img') (vol img') b (suc m) t
    apart-under l m t e A = subst (λ (x : ℕ). Apart (pages img') (vol img') b x t) e (apart_next l t A)

    pub slot_next : (l t : ℕ) → Apart P v b (suc l) t → (k : ℕ) → slot (vol img') t k ≡ slot v t k
    unfolding blocks Agree
    slot_next l t A k = slot_same v (vol img') t (agree t (omega (arith, A.apart))) k

    -- and more freed
    more : (w : Vol) (h : ℕ → ℕ) → w ≡ freed (pages img') (vol img') h → w ≡ freed P v (λ p. g p + h p)
    more w h e = e ∙ ap₂ (λ (N : ℕ) (x : Vol). freed N x h) same i ∙ freed-more P v F.rule g h

    pub run_more : (s k : ℕ) → ((p : ℕ) → g p ≡ run_of s k p) → (w : Vol) → w ≡ freed (pages img') (vol img') (λ p. hit p (s + k)) → w ≡ freed P v (run_of s (k + 1))
    run_more s k eg w e = more w (λ p. hit p (s + k)) e ∙ freed-ext P v F.rule _ _ (λ p h. ap (λ (x : ℕ). x + hit p (s + k)) (eg p) ∙ sym (ap (λ (m : ℕ). run_of s m p) (add-one k) ∙ sum-suc k (λ j. hit p (s + j))))

    pub slots-more : (l t k : ℕ) → Apart P v b (suc l) t → k < 512 → ((p : ℕ) → g p ≡ slots_of v l t k p) → (x : ℕ) → x ≡ slot (vol img') t k
        → (w : Vol) → w ≡ freed (pages img') (vol img') (λ p. weigh (vol img') l x (hit p)) → w ≡ freed P v (slots_of v l t (k + 1))
    slots-more l t k A h eg x ex w e =
        more w (λ p. weigh (vol img') l x (hit p)) e
        ∙ freed-ext P v F.rule _ _ (λ p j. ap₂ (λ (a c : ℕ). a + c) (eg p)
        (ap (λ (y : ℕ). weigh (vol img') l y (hit p)) (ex ∙ slot_next l t A k) ∙ weigh-frame v (vol img') (bit_hits P b) agree l (slot v t k) (apart-slot P v b l t A k h).apart (hit p))
        ∙ sym (ap (λ (m : ℕ). slots_of v l t m p) (add-one k) ∙ sum-suc k (λ q. weigh v l (slot v t q) (hit p))))

    -- the pointer read there
    pub slots_apart : (l t k : ℕ) → Apart P v b (suc l) t → k < 512 → (x : ℕ) → x ≡ slot (vol img') t k → Apart (pages img') (vol img') b l x
    slots_apart l t k A h x ex = subst (λ (y : ℕ). Apart (pages img') (vol img') b l y) (sym (ex ∙ slot_next l t A k)) (apart_next l (slot v t k) (apart-slot P v b l t A k h))

    -- the block's page went first
    pub pointer-block : (l m t : ℕ) → l ≡ suc m → Apart P v b l t → ((p : ℕ) → g p ≡ hit p t) → (w : Vol) → w ≡ freed (pages img') (vol img') (slots_of (vol img') m t 512) → w ≡ freed P v (λ p. weigh v l t (hit p))
    unfolding weigh
    pointer-block l m t q A eg w e =
        let A' : Apart P v b (suc m) t = subst (λ (x : ℕ). Apart P v b x t) q A in
        more w (slots_of (vol img') m t 512) e
        ∙ freed-ext P v F.rule _ (λ p. weigh v (suc m) t (hit p)) (λ p j. ap (λ (x : ℕ). x + slots_of (vol img') m t 512 p) (eg p) ∙ weigh-frame v (vol img') (bit_hits P b) agree (suc m) t A'.apart (hit p))
        ∙ ap (λ (x : ℕ). freed P v (λ p. weigh v x t (hit p))) (sym q)

-- ---- a root, by the flags x of its pointer

root-tree : (x t n : ℕ) → 0 < x → x < 3 → root_by x t n ≡ tree x t
unfolding root_by
root-tree zero t n h i = absurd (not-suc-le-zero h)
root-tree (suc zero) t n h i = refl
root-tree (suc (suc zero)) t n h i = refl
root-tree (suc (suc (suc x))) t n h i = absurd (let r : ⊥ = omega arith in r)

root-run : (x t n : ℕ) → x ≡ 0 → root_by x t n ≡ run t n
unfolding root_by
root-run x t n z = ap (λ (y : ℕ). root_by y t n) z

module _ (P : ℕ) (v : Vol) (b x t n : ℕ) (R : RootApart P v b x t n) where
  pub run-below : x ≡ 0 → t + n ≤ P
  unfolding BelowR
  run-below z = subst (λ (r : Root). BelowR v P r) (root-run x t n z) R.below

  -- its tree's level, which code has as l
  module _ (l : ℕ) (q : l ≡ x) where
    pub tree_apart : x ≢ 0 → Apart P v b l t
    unfolding BelowR blocks_r
    tree_apart z =
        let e : root_by x t n ≡ tree l t = root-tree x t n (omega arith) R.known ∙ ap (λ (y : ℕ). tree y t) (sym q) in
        record { below = subst (λ (r : Root). BelowR v P r) e R.below; apart = subst (λ (r : Root). blocks_r v r (bit_hits P b) ≡ 0) e R.apart }

    pub tree_is : x ≢ 0 → (w : Vol) → w ≡ freed P v (λ p. weigh v l t (hit p)) → w ≡ freed P v (λ p. weigh_r v (root_by x t n) (hit p))
    unfolding weigh_r
    tree_is z w e = e ∙ ap (λ (r : Root). freed P v (λ p. weigh_r v r (hit p))) (ap (λ (y : ℕ). tree y t) q ∙ sym (root-tree x t n (omega arith) R.known))

  pub run_is : x ≡ 0 → (w : Vol) → w ≡ freed P v (run_of t n) → w ≡ freed P v (λ p. weigh_r v (root_by x t n) (hit p))
  unfolding weigh_r
  run_is z w e = e ∙ ap (λ (r : Root). freed P v (λ p. weigh_r v r (hit p))) (sym (root-run x t n z))
