-- Walks put together: one after the other, and in a row. Assumes nothing.
use mathlib.Core.Path.{◌≡◌, refl, sym, ap, ◌∙◌, subst}
use mathlib.Core.List.{List}
use Prim.Native.Nat.{ℕ, zero, suc, ◌+◌, ◌≤◌, ◌<◌}
use native.Mathlib.Nat.{not-suc-le-zero}
use native.Mathlib.Decide.{ℕ_discrete}
use native.Mathlib.Numerals.{add-one}
use native.Mathlib.Omega.{arith}
use Rattle.std.specs.Prelude.{Option, Some, None}
use Rattle.sums.specs.Sum.{sum, sum-ext, sum-add, sum-swap, sum-suc, sum-zero}
use Rattle.book.specs.Holders.{hit, some}
use Rattle.book.specs.Image.{pages}
use Rattle.laws.specs.Tree.Slot.{hit-zero, some-zero}
use Rattle.bits.specs.Marks.{marked}
use Rattle.bits.proofs.Marked.{marked-le}
use Rattle.walk.specs.Walked.{Weigher, Walking, WalkedOn, Walked}

-- W counts each page below P as often as it weighs it
unfoldable pub Counts : ℕ → Weigher → Type 0
Counts P W = sum P (λ p. W (hit p)) ≡ W some

-- what the next walk is given
pub walking_on : (img m : List ℕ) (v : ℕ) (W : Weigher) (m' : List ℕ) (x : ℕ)
    → Walking img m v → Counts (pages img) W → WalkedOn (pages img) m v W m' x → Walking img m' x
unfolding Counts
walking_on img m v W m' x d c k =
    let s : sum (pages img) (marked m') ≡ sum (pages img) (marked m) + sum (pages img) (λ p. W (hit p)) =
    sum-ext (pages img) (marked m') (λ p. marked m p + W (hit p)) k.more ∙ sum-add (pages img) (marked m) (λ p. W (hit p)) in
    record {
      room = omega (arith, k.kept, d.room);
      few = d.few;
      some = d.some;
      master = omega (arith, k.more 0 d.some, d.master, marked-le m' 0);
      counted = omega (arith, s, c, k.count, d.counted);
    }

module _ (P : ℕ) (m : List ℕ) (v : ℕ) where
  -- nothing to walk over
  pub walked_none : (W : Weigher) → ((p : ℕ) → W (hit p) ≡ 0) → W some ≡ 0 → Walked P m v W m (Some v)
  walked_none W z n = record { more = λ p h. omega (arith, z p); count = omega (arith, n); kept = refl }

  -- the same pages weighed otherwise, page 0 weighing nothing
  pub walked-real : (W X : Weigher) → ((g : ℕ → ℕ) → g 0 ≡ 0 → W g ≡ X g) → (m' : List ℕ) (r : Option ℕ) → Walked P m v W m' r → Walked P m v X m' r
  walked-real W X e m' (Some x) k = record {
    more = λ p h. k.more p h ∙ ap (λ (y : ℕ). marked m p + y) (e (hit p) (hit-zero p));
    count = k.count ∙ ap (λ (y : ℕ). v + y) (e some some-zero);
    kept = k.kept;
  }
  walked-real W X e m' None k = (k.0, k.1, omega (arith, k.2, e (hit k.0) (hit-zero k.0)))

  pub walked_same : (W X : Weigher) → ((g : ℕ → ℕ) → W g ≡ X g) → (m' : List ℕ) (r : Option ℕ) → Walked P m v W m' r → Walked P m v X m' r
  walked_same W X e = walked-real W X (λ g z. e g)

  -- a page met among some is met among more
  pub walked-met : (W X : Weigher) → ((p : ℕ) → W (hit p) ≤ X (hit p)) → (m' m'' : List ℕ) → Walked P m v W m' None → Walked P m v X m'' None
  walked-met W X l m' m'' k = (k.0, k.1, omega (arith, k.2, l k.0))

  -- one walk, and then another
  pub walked_then : (W : Weigher) (m' : List ℕ) (x : ℕ) → WalkedOn P m v W m' x → (X : Weigher) (m'' : List ℕ) (r : Option ℕ) → Walked P m' x X m'' r → Walked P m v (λ g. W g + X g) m'' r
  walked_then W m' x k X m'' (Some y) j = record { more = λ p h. omega (arith, k.more p h, j.more p h); count = omega (arith, k.count, j.count); kept = j.kept ∙ k.kept }
  walked_then W m' x k X m'' None j = (j.0, j.1, omega (arith, j.2, k.more j.0 j.1))

  -- a page met among the first is met
  pub then-met : (W X : Weigher) (m' m'' : List ℕ) → Walked P m v W m' None → Walked P m v (λ g. W g + X g) m'' None
  then-met W X = walked-met W (λ g. W g + X g) (λ p. omega arith)

-- ---- in a row: F i is the i-th to be walked over

abbrev pub row_of : (ℕ → Weigher) → ℕ → Weigher
row_of F n = λ g. sum n (λ i. F i g)

row-le : (f : ℕ → ℕ) (i n : ℕ) → i < n → sum i f + f i ≤ sum n f
row-le f i zero h = absurd (not-suc-le-zero h)
row-le f i (suc n) h = elim (ℕ_discrete i n) [
  | yes e ↦ subst (λ (x : ℕ). sum x f + f x ≤ sum (suc n) f) (sym e) (omega (arith, sum-suc n f))
  | no ne ↦ omega (arith, row-le f i n (omega arith), sum-suc n f)
]

-- what weighs nothing past n may be left out
sum_past : (f : ℕ → ℕ) (n m : ℕ) → n ≤ m → ((i : ℕ) → n ≤ i → i < m → f i ≡ 0) → sum n f ≡ sum m f
sum_past f n zero h z = ap (λ (x : ℕ). sum x f) (let e : n ≡ 0 = omega arith in e)
sum_past f n (suc m) h z = elim (ℕ_discrete n (suc m)) [
  | yes e ↦ ap (λ (x : ℕ). sum x f) e
  | no ne ↦ omega (arith, sum_past f n m (omega arith) (λ i a b. z i a (omega arith)), sum-suc m f, z m (omega arith) (omega arith))
]

pub row_counts : (P : ℕ) (F : ℕ → Weigher) (n : ℕ) → ((i : ℕ) → i < n → Counts P (F i)) → Counts P (row_of F n)
unfolding Counts
row_counts P F n h = sum-swap P n (λ p i. F i (hit p)) ∙ sum-ext n (λ i. sum P (λ p. F i (hit p))) (λ i. F i some) h

module _ (P : ℕ) (m : List ℕ) (v : ℕ) (F : ℕ → Weigher) where
  pub row-start : WalkedOn P m v (row_of F 0) m v
  row-start = walked_none P m v (row_of F 0) (λ p. sum-zero (λ i. F i (hit p))) (sum-zero (λ i. F i some))

  -- a turn of a loop over the row, whose walk X is the i-th
  module _ (i : ℕ) (m' : List ℕ) (x : ℕ) (k : WalkedOn P m v (row_of F i) m' x) (X : Weigher) (e : (g : ℕ → ℕ) → X g ≡ F i g) (m'' : List ℕ) where
    pub row_on : (y : ℕ) → WalkedOn P m' x X m'' y → WalkedOn P m v (row_of F (i + 1)) m'' y
    row_on y turn =
        walked_same P m v (λ g. row_of F i g + X g) (row_of F (i + 1))
        (λ g. ap (λ (n : ℕ). row_of F i g + n) (e g) ∙ sym (ap (λ (n : ℕ). row_of F n g) (add-one i) ∙ sum-suc i (λ j. F j g)))
        m'' (Some y) (walked_then P m v (row_of F i) m' x k X m'' (Some y) turn)

    pub row-met : Walked P m' x X m'' None → (n : ℕ) → i < n → (m''' : List ℕ) → Walked P m v (row_of F n) m''' None
    row-met turn n l m''' =
        walked-met P m v (λ g. row_of F i g + X g) (row_of F n) (λ p. omega (arith, e (hit p), row-le (λ j. F j (hit p)) i n l)) m'' m'''
        (walked_then P m v (row_of F i) m' x k X m'' None turn)

  pub row-end : (i n : ℕ) (m' : List ℕ) (x : ℕ) → i ≡ n → WalkedOn P m v (row_of F i) m' x → WalkedOn P m v (row_of F n) m' x
  row-end i n m' x e k = subst (λ (j : ℕ). WalkedOn P m v (row_of F j) m' x) e k

  pub row-past : (n k : ℕ) → n ≤ k → ((i : ℕ) → n ≤ i → i < k → (g : ℕ → ℕ) → g 0 ≡ 0 → F i g ≡ 0) → (m' : List ℕ) (r : Option ℕ) → Walked P m v (row_of F n) m' r → Walked P m v (row_of F k) m' r
  row-past n k h z = walked-real P m v (row_of F n) (row_of F k) (λ g g0. sum_past (λ i. F i g) n k h (λ i a b. z i a b g g0))
