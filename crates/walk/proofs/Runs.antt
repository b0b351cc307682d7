-- Walking over a run, and over a root by its flags. Assumes nothing.
use mathlib.Core.Path.{◌≡◌, refl, sym, ap, ◌∙◌, subst}
use mathlib.Core.Bool.{true}
use mathlib.Core.List.{List}
use Prim.Native.Nat.{ℕ, zero, suc, ◌+◌, ◌-◌, ◌*◌, ◌/◌, ◌%◌, ◌≤◌, ◌<◌}
use native.Mathlib.Nat.{not-suc-le-zero}
use native.Mathlib.Decide.{ℕ_discrete}
use native.Mathlib.Omega.{arith}
use lib.ListN.{length, get_or, set, length-set}
use lib.Seq.{get_or-set_same, get_or-set_other}
use Rattle.std.specs.Prelude.{Option, Some, None}
use Rattle.sums.specs.Sum.{sum, is, is_same, is-other, sum-zero, sum-ext, sum-none, sum-only, sum-le, sum-const}
use Rattle.book.specs.Bits.{digit}
use Rattle.book.specs.Words.{Vol}
use Rattle.book.specs.Trees.{Root, root_by, weigh, weigh_r, Below}
use Rattle.book.specs.Holders.{hit, some}
use Rattle.book.specs.Image.{pages, most_pages}
use Rattle.laws.specs.Count.Good.{root-count}
use Rattle.laws.specs.Count.Sums.{sum-cat}
use Rattle.laws.specs.Tree.Slot.{sum-hit, hit_same, hit_other, some-pos}
use Rattle.laws.specs.Tree.Weigh.{BelowR}
use Rattle.bits.specs.Marks.{marked}
use Rattle.bits.proofs.Marked.{marked-le}
use Rattle.bits.proofs.Digits.{digit-above}
use Rattle.bits.proofs.Runs.{full-digit}
use Rattle.walk.specs.Walked.{Weigher, Walking, WalkedOn, Walked, Filling}
use Rattle.walk.proofs.Walks.{Counts, row_of, row_counts, walking_on, walked_none, walked_same, walked-met, walked_then}

-- ---- a run: the row of its pages

abbrev pub run_of : ℕ → ℕ → Weigher
run_of s = λ i g. g (s + i)

pub run-walking : (img : List ℕ) (s n : ℕ) → s + n ≤ pages img → (m : List ℕ) (v i : ℕ) (m' : List ℕ) (x : ℕ) → i ≤ n
    → Walking img m v → WalkedOn (pages img) m v (row_of (run_of s) i) m' x → Walking img m' x
unfolding Counts
run-walking img s n h m v i m' x l w k =
    walking_on img m v (row_of (run_of s) i) m' x w (row_counts (pages img) (run_of s) i (λ j lt. sum-hit (pages img) (s + j) (omega arith))) k

-- runs of no fewer pages have no fewer hits
run-hits : (s a n p : ℕ) → a ≤ n → sum a (λ i. hit p (s + i)) ≤ sum n (λ i. hit p (s + i))
run-hits s a n p h =
    let f : ℕ → ℕ = λ i. hit p (s + i) in let e : a + (n - a) ≡ n = omega arith in
    omega (arith, sum-cat (n - a) a f, ap (λ (x : ℕ). sum x f) e)

-- a run in two parts, of a pages and of b
run-parts : (s a t b n : ℕ) → t ≡ s + a → n ≡ a + b → (g : ℕ → ℕ) → row_of (run_of s) a g + row_of (run_of t) b g ≡ row_of (run_of s) n g
run-parts s a t b n e c g =
    ap (λ (x : ℕ). row_of (run_of s) a g + x) (sum-ext b (λ i. g (t + i)) (λ i. g (s + (a + i))) (λ i h. ap g (let d : t + i ≡ s + (a + i) = omega arith in d)))
    ∙ sym (ap (λ (x : ℕ). row_of (run_of s) x g) c ∙ sum-cat b a (λ i. g (s + i)))

-- the first part was walked over
module _ (P : ℕ) (m : List ℕ) (v s a : ℕ) (m' : List ℕ) where
  pub run_on : (x : ℕ) → WalkedOn P m v (row_of (run_of s) a) m' x → (t b n : ℕ) → t ≡ s + a → n ≡ a + b → (m'' : List ℕ) (q : Option ℕ) → Walked P m' x (row_of (run_of t) b) m'' q → Walked P m v (row_of (run_of s) n) m'' q
  run_on x k t b n h c m'' q j =
      walked_same P m v (λ g. row_of (run_of s) a g + row_of (run_of t) b g) (row_of (run_of s) n) (run-parts s a t b n h c) m'' q
      (walked_then P m v (row_of (run_of s) a) m' x k (row_of (run_of t) b) m'' q j)

  pub run-met : Walked P m v (row_of (run_of s) a) m' None → (n : ℕ) → a ≤ n → (m'' : List ℕ) → Walked P m v (row_of (run_of s) n) m'' None
  run-met k n h m'' = walked-met P m v (row_of (run_of s) a) (row_of (run_of s) n) (λ p. run-hits s a n p h) m' m'' k

-- ---- the sixteen pages of a word of marks

word-hits : (w p : ℕ) → 0 < w → sum 16 (λ i. hit p (16 * w + i)) ≡ is w (p / 16)
word-hits w p h = elim (ℕ_discrete w (p / 16)) [
  | yes e ↦
      let a : 16 * w + p % 16 ≡ p = omega (arith, e) in
      sum-only 16 (λ i. hit p (16 * w + i)) (p % 16) (omega arith) (λ j l ne. hit_other p (16 * w + j) (λ q. ne (omega (arith, q))))
      ∙ ap (hit p) a ∙ hit_same p (omega (arith, a)) ∙ sym (subst (λ (x : ℕ). is w x ≡ 1) e (is_same w))
  | no ne ↦ sum-none 16 (λ i. hit p (16 * w + i)) (λ i l. hit_other p (16 * w + i) (λ q. ne (omega (arith, q)))) ∙ sym (is-other w (p / 16) ne)
]

word_some : (w : ℕ) → 0 < w → sum 16 (λ i. some (16 * w + i)) ≡ 16
word_some w h = sum-ext 16 (λ i. some (16 * w + i)) (λ i. 1) (λ i l. some-pos (16 * w + i) (omega arith)) ∙ sum-const 16 1

marks-most : (P : ℕ) (m : List ℕ) → sum P (marked m) ≤ P
marks-most P m = omega (arith, sum-le P (marked m) (λ q. 1) (λ q l. marked-le m q), sum-const P 1)

-- all of them are marked at once, and none was
module _ (img m : List ℕ) (v w : ℕ) (m' : List ℕ) (k : Walking img m v) (d : Filling m w m' true) where
  -- the word is not the master page's, which is marked
  not_first : 0 < w
  not_first = elim (ℕ_discrete w 0) [
    | yes e ↦
        let f : marked m' 0 ≡ marked m 0 + is w 0 = d.0 0 in
        absurd (let z : ⊥ = omega (arith, f, k.master, marked-le m' 0, subst (λ (x : ℕ). is x 0 ≡ 1) (sym e) (is_same 0)) in z)
    | no ne ↦ omega arith
  ]

  pub word-walked : WalkedOn (pages img) m v (row_of (run_of (16 * w)) 16) m' (v + 16)
  word-walked = record {
    more = λ p h. d.0 p ∙ ap (λ (x : ℕ). marked m p + x) (sym (word-hits w p not_first));
    count = ap (λ (x : ℕ). v + x) (sym (word_some w not_first));
    kept = d.1;
  }

  pub word_fits : 16 * w + 16 ≤ pages img → v + 16 ≤ most_pages
  word_fits h =
      let y = run-walking img (16 * w) 16 h m v 16 m' (v + 16) (omega arith) k word-walked in omega (arith, y.counted, marks-most (pages img) m', k.few)

-- what filling the word makes of it
pub fill-new : (m : List ℕ) (w : ℕ) → w < length m → get_or m w 0 ≡ 0 → Filling m w (set m w 65535) true
unfolding marked
fill-new m w h z = (
  λ q. elim (ℕ_discrete w (q / 16)) [
    | yes e ↦
        let a : get_or (set m w 65535) (q / 16) 0 ≡ 65535 = subst (λ (x : ℕ). get_or (set m w 65535) x 0 ≡ 65535) e (get_or-set_same m w 65535 0 h) in
        let b : get_or m (q / 16) 0 ≡ 0 = subst (λ (x : ℕ). get_or m x 0 ≡ 0) e z in
        omega (arith, ap (digit (q % 16)) a, full-digit (q % 16) (omega arith), ap (digit (q % 16)) b, digit-none (q % 16), subst (λ (x : ℕ). is w x ≡ 1) e (is_same w))
    | no ne ↦ omega (arith, ap (digit (q % 16)) (get_or-set_other m w (q / 16) 65535 0 (λ e. ne (sym e))), is-other w (q / 16) ne)
  ],
  length-set m w 65535,
)
  where
    digit-none : (j : ℕ) → digit j 0 ≡ 0
    digit-none j = digit-above j 0 0 (omega arith) (omega arith)

-- a page by itself
pub page-below : (v : Vol) (P t : ℕ) → t < P → Below v P 0 t
unfolding Below
page-below v P t h = h

pub page-weigh : (v : Vol) (t : ℕ) (g : ℕ → ℕ) → weigh v 0 t g ≡ g t
unfolding weigh
page-weigh v t g = refl

-- ---- a root

-- the count is a run's alone
pub root-tree : (x t n m : ℕ) → 0 < x → root_by x t n ≡ root_by x t m
unfolding root_by
root-tree zero t n m h = absurd (not-suc-le-zero h)
root-tree (suc zero) t n m h = refl
root-tree (suc (suc zero)) t n m h = refl
root-tree (suc (suc (suc x))) t n m h = refl

pub root-counts : (v : Vol) (P : ℕ) (r : Root) → BelowR v P r → Counts P (weigh_r v r)
unfolding Counts
root-counts v P r b = root-count v P r b

module _ (v : Vol) (P x t n : ℕ) (m : List ℕ) (visited : ℕ) where
  at : (y : ℕ) → x ≡ y → (g : ℕ → ℕ) → weigh_r v (root_by x t n) g ≡ weigh_r v (root_by y t n) g
  at y e g = ap (λ (z : ℕ). weigh_r v (root_by z t n) g) e

  pub walked-run : x ≡ 0 → (m' : List ℕ) (r : Option ℕ) → Walked P m visited (row_of (run_of t) n) m' r → Walked P m visited (weigh_r v (root_by x t n)) m' r
  unfolding weigh_r root_by
  walked-run e m' r k = walked_same P m visited (row_of (run_of t) n) (weigh_r v (root_by x t n)) (λ g. sym (at 0 e g)) m' r k

  pub walked-tree : (l : ℕ) → x ≡ suc l → l < 2 → (m' : List ℕ) (r : Option ℕ) → Walked P m visited (weigh v (suc l) t) m' r → Walked P m visited (weigh_r v (root_by x t n)) m' r
  unfolding weigh_r root_by
  walked-tree zero e h m' r k = walked_same P m visited (weigh v 1 t) (weigh_r v (root_by x t n)) (λ g. sym (at 1 e g)) m' r k
  walked-tree (suc zero) e h m' r k = walked_same P m visited (weigh v 2 t) (weigh_r v (root_by x t n)) (λ g. sym (at 2 e g)) m' r k
  walked-tree (suc (suc l)) e h m' r k = absurd (let z : ⊥ = omega arith in z)

-- a root that is no tree, and of no pages
module _ (v : Vol) (P x t : ℕ) (m : List ℕ) (visited : ℕ) where
  bare : (y : ℕ) → (y ≡ 1 → ⊥) → (y ≡ 2 → ⊥) → (g : ℕ → ℕ) → weigh_r v (root_by y t 0) g ≡ 0
  unfolding weigh_r root_by
  bare zero a b g = sum-zero (λ i. g (t + i))
  bare (suc zero) a b g = absurd (a refl)
  bare (suc (suc zero)) a b g = absurd (b refl)
  bare (suc (suc (suc y))) a b g = sum-zero (λ i. g (0 + i))

  pub walked-bare : (x ≡ 1 → ⊥) → (x ≡ 2 → ⊥) → Walked P m visited (weigh_r v (root_by x t 0)) m (Some visited)
  walked-bare a b = walked_none P m visited (weigh_r v (root_by x t 0)) (λ p. bare x a b (hit p)) (bare x a b some)
