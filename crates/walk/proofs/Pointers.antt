-- Walking over a pointer and over a block: one law for each way through the code. Assumes nothing.
use mathlib.Core.Path.{◌≡◌, refl, sym, ap, ap₂, ◌∙◌, subst, subst₂}
use mathlib.Core.List.{List}
use Prim.Native.Nat.{ℕ, zero, suc, ◌+◌, ◌-◌, ◌*◌, ◌^◌, ◌≤◌, ◌<◌}
use native.Mathlib.Nat.{not-suc-le-zero, le_refl}
use native.Mathlib.Omega.{arith}
use lib.ListN.{length, get_or}
use Rattle.std.specs.Prelude.{Option, Some, None}
use Rattle.sums.specs.Sum.{sum, sum-ext, is}
use Rattle.book.specs.Words.{Vol, vol, two}
use Rattle.book.specs.Pointers.{slot}
use Rattle.book.specs.Trees.{weigh, Below}
use Rattle.book.specs.Holders.{hit, some}
use Rattle.book.specs.Image.{pages, most_pages}
use Rattle.laws.specs.Tree.Slot.{hit-zero, hit_same, some-zero, some-pos}
use Rattle.laws.specs.Tree.Weigh.{weigh-none, weigh-count}
use Rattle.tree.specs.Blocks.{pointer_in, share}
use Rattle.tree.proofs.Blocks.{part_of, part-slot}
use Rattle.bits.specs.Marks.{marked, Newly}
use Rattle.walk.specs.Walked.{Weigher, Walking, WalkedOn, Walked}
use Rattle.walk.specs.Short.{Short, PointersBelow, Pointers}
use Rattle.bits.proofs.Marked.{marked-le, marks-more, marks-room}
use Rattle.walk.proofs.Walks.{Counts, row_of, row_counts, walking_on, walked_none, walked_same, walked_then, row-past}

pub below_top : (v : Vol) (P l t : ℕ) → Below v P l t → t < P
unfolding Below
below_top v P zero t b = b
below_top v P (suc l) t b = b.0

pub tree-counts : (v : Vol) (P l t : ℕ) → Below v P l t → Counts P (weigh v l t)
unfolding Counts
tree-counts v P l t b = weigh-count v P l t b

-- the page itself is weighed
weigh-top : (v : Vol) (l t : ℕ) (g : ℕ → ℕ) → g t ≤ weigh v l t g
unfolding weigh
weigh-top v zero t g = le_refl (g t)
weigh-top v (suc l) t g = omega arith

hit-is : (p q : ℕ) → 0 < p → hit q p ≡ is p q
unfolding hit
hit-is zero q h = absurd (not-suc-le-zero h)
hit-is (suc p) q h = refl

pub power : (l k : ℕ) → l ≡ k → 512 ^ l ≡ 512 ^ k
power l k e = ap (λ (x : ℕ). 512 ^ x) e

-- ---- a page's part, handed over as a block

-- pointer n as code reads it where it is small: its less significant word
pub low_read : (b : List ℕ) (n x : ℕ) → pointer_in b n < 65536 → x ≡ get_or b (2 * n + 1) 0 → x ≡ pointer_in b n
unfolding two
low_read b n x h e = let k : 2 * n + 1 ≡ suc (2 * n) = omega arith in omega (arith, h, e, ap (λ (j : ℕ). get_or b j 0) k)

module _ (img : List ℕ) (t : ℕ) (b : List ℕ) (is-part : b ≡ part_of img t) (h : 0 < t) where
  pub slot-part : (n : ℕ) → slot (vol img) t n ≡ pointer_in b n
  slot-part n = sym (part-slot img t h n) ∙ ap (λ (c : List ℕ). pointer_in c n) (sym is-part)

  pub block-below : (l : ℕ) → 0 < l → length b ≡ 1024 → Below (vol img) (pages img) l t → PointersBelow img b (l - 1)
  unfolding Below
  block-below zero d z w = absurd (not-suc-le-zero d)
  block-below (suc l) d z w =
      let e : suc l - 1 ≡ l = omega arith in
      record { size = z; below = λ n i. subst (λ (x : ℕ). Below (vol img) (pages img) x (pointer_in b n)) (sym e) (subst (λ (x : ℕ). Below (vol img) (pages img) l x) (slot-part n) (w.1 n i)) }

  pub block-short : (l n : ℕ) → 0 < l → Short (vol img) l t n → Pointers img b (l - 1) n
  unfolding Short
  block-short zero n d w = absurd (not-suc-le-zero d)
  block-short (suc l) n d w =
      let e : suc l - 1 ≡ l = omega arith in
      subst (λ (x : ℕ). Pointers img b x n) (sym e)
      record { none = λ k i h. sym (slot-part k) ∙ (w k i).0 h; short = λ k i. subst (λ (x : ℕ). Short (vol img) l x (share l n k)) (slot-part k) (w k i).1 }

  -- the tree is its page and what the block's pointers name
  pub block-weigh : (l : ℕ) → 0 < l → (g : ℕ → ℕ) → g t + sum 512 (λ k. weigh (vol img) (l - 1) (pointer_in b k) g) ≡ weigh (vol img) l t g
  unfolding weigh
  block-weigh zero d g = absurd (not-suc-le-zero d)
  block-weigh (suc l) d g =
      let e : suc l - 1 ≡ l = omega arith in
      ap (λ (s : ℕ). g t + s) (sum-ext 512 (λ k. weigh (vol img) (suc l - 1) (pointer_in b k) g) (λ k. weigh (vol img) l (slot (vol img) t k) g)
      (λ k i. ap₂ (λ (x y : ℕ). weigh (vol img) x y g) e (sym (slot-part k))))

-- ---- a pointer

module _ (img : List ℕ) (P : ℕ) (m : List ℕ) (v l t : ℕ) where
  pub pointer_none : t ≡ 0 → Walked P m v (weigh (vol img) l t) m (Some v)
  pointer_none z =
      let w : (g : ℕ → ℕ) → g 0 ≡ 0 → weigh (vol img) l t g ≡ 0 = λ g g0. ap (λ (x : ℕ). weigh (vol img) l x g) z ∙ weigh-none (vol img) g g0 l in
      walked_none P m v (weigh (vol img) l t) (λ p. w (hit p) (hit-zero p)) (w some some-zero)

  module _ (h : 0 < t) where
    pub pointer-met : t < P → marked m t ≡ 1 → (m' : List ℕ) → Walked P m v (weigh (vol img) l t) m' None
    pointer-met i e m' = (t, i, omega (arith, e, weigh-top (vol img) l t (hit t), hit_same t h))

    module _ (m' : List ℕ) (d : Newly m t m') where
      -- its page alone
      first : WalkedOn P m v (λ g. g t) m' (v + 1)
      first = record { more = λ p i. d.more p ∙ ap (λ (x : ℕ). marked m p + x) (sym (hit-is t p h)); count = omega (arith, some-pos t h); kept = d.kept }

      pub pointer-page : l ≡ 0 → Walked P m v (weigh (vol img) l t) m' (Some (v + 1))
      unfolding weigh
      pointer-page z = walked_same P m v (λ g. g t) (weigh (vol img) l t) (λ g. sym (ap (λ (x : ℕ). weigh (vol img) x t g) z)) m' (Some (v + 1)) first

      pub pointer-block : 0 < l → (b : List ℕ) → b ≡ part_of img t → (m'' : List ℕ) (r : Option ℕ)
          → Walked P m' (v + 1) (λ g. sum 512 (λ k. weigh (vol img) (l - 1) (pointer_in b k) g)) m'' r → Walked P m v (weigh (vol img) l t) m'' r
      pointer-block z b e m'' r k =
          walked_same P m v (λ g. g t + sum 512 (λ k. weigh (vol img) (l - 1) (pointer_in b k) g)) (weigh (vol img) l t) (block-weigh img t b e h l z) m'' r
          (walked_then P m v (λ g. g t) m' (v + 1) first (λ g. sum 512 (λ k. weigh (vol img) (l - 1) (pointer_in b k) g)) m'' r k)

-- after one page is marked
module _ (img m : List ℕ) (v t : ℕ) (m' : List ℕ) (d : Newly m t m') (i : t < pages img) (w : Walking img m v) where
  pub mark-fits : v + 1 ≤ most_pages
  mark-fits = omega (arith, marks-room (pages img) m t m' d i, w.counted, w.few)

  pub mark-walking : Walking img m' (v + 1)
  mark-walking = record { room = omega (arith, d.kept, w.room); few = w.few; some = w.some; master = omega (arith, d.more 0, w.master, marked-le m' 0); counted = omega (arith, marks-more (pages img) m t m' d i, w.counted) }

-- ---- a block: the row of its pointers

abbrev pub slots_of : List ℕ → ℕ → List ℕ → ℕ → Weigher
slots_of img l b = λ k. weigh (vol img) l (pointer_in b k)

module _ (img b : List ℕ) (l : ℕ) (within : PointersBelow img b l) (i : ℕ) where
  pub block-walking : i ≤ 512 → (m : List ℕ) (v : ℕ) (m' : List ℕ) (x : ℕ) → Walking img m v → WalkedOn (pages img) m v (row_of (slots_of img l b) i) m' x → Walking img m' x
  block-walking h m v m' x w k =
      walking_on img m v (row_of (slots_of img l b) i) m' x w
      (row_counts (pages img) (slots_of img l b) i (λ j lt. tree-counts (vol img) (pages img) l (pointer_in b j) (within.below j (omega arith)))) k

  pub slot-below : i < 512 → (p : ℕ) → p ≡ pointer_in b i → Below (vol img) (pages img) l p
  slot-below h p e = subst (λ (x : ℕ). Below (vol img) (pages img) l x) (sym e) (within.below i h)

  pub slot-weigh : (p : ℕ) → p ≡ pointer_in b i → (g : ℕ → ℕ) → weigh (vol img) l p g ≡ slots_of img l b i g
  slot-weigh p e g = ap (λ (x : ℕ). weigh (vol img) l x g) e

module _ (img b : List ℕ) (l n : ℕ) (d : Pointers img b l n) where
  pub slot-short : (i : ℕ) → i < 512 → (p c : ℕ) → p ≡ pointer_in b i → c ≡ share l n i → Short (vol img) l p c
  slot-short i h p c e f = subst₂ (λ (x y : ℕ). Short (vol img) l x y) (sym e) (sym f) (d.short i h)

  -- the pointers that n positions need are all that name something
  pub block-all : (k : ℕ) → k ≤ 512 → ((i : ℕ) → k ≤ i → i < 512 → n ≤ i * 512 ^ l) → (P : ℕ) (m : List ℕ) (v : ℕ) (m' : List ℕ) (r : Option ℕ)
      → Walked P m v (row_of (slots_of img l b) k) m' r → Walked P m v (row_of (slots_of img l b) 512) m' r
  block-all k h past P m v =
      row-past P m v (slots_of img l b) k 512 h (λ i a c g z. ap (λ (x : ℕ). weigh (vol img) l x g) (d.none i c (past i a c)) ∙ weigh-none (vol img) g z l)

-- pointers of level 0 name pages
pub row-level : (img b : List ℕ) (l : ℕ) → l ≡ 0 → (n P : ℕ) (m : List ℕ) (v : ℕ) (m' : List ℕ) (r : Option ℕ)
    → Walked P m v (row_of (slots_of img 0 b) n) m' r → Walked P m v (row_of (slots_of img l b) n) m' r
row-level img b l e n P m v m' r k = subst (λ (x : ℕ). Walked P m v (row_of (slots_of img x b) n) m' r) (sym e) k
