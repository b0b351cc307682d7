-- How many pages a file of n takes. Assumes nothing.
use Rattle.std.specs.Prelude.{◌≡◌, refl, ℕ, zero, suc, ◌+◌, ◌-◌, ◌*◌, ◌/◌, ◌%◌, ◌≤◌, ◌<◌, min}
use Rattle.std.proofs.Common.{sym, ap, ◌∙◌, inl, inr, eq-zero-or-pos, arith}
use Rattle.std.proofs.Math.Decide.{ℕ_discrete}
use Rattle.sums.specs.Sum.{sum, is, is_same, is-other, sum-ext, sum-add}
use Rattle.book.specs.Files.{cost, need}
use Rattle.book.specs.Holders.{some}
use Rattle.book.specs.Pointers.{slot}
use Rattle.book.specs.Trees.{weigh, Fill}
use Rattle.book.specs.Words.{Vol}
use Rattle.laws.specs.Tree.Slot.{some-pos, some-zero}

pub cost-suc : (n : ℕ) → cost (suc n) ≡ cost n + need n
unfolding cost need
cost-suc n = elim (ℕ_discrete (n % 512) 0) [
  | yes e ↦ elim (ℕ_discrete n 512) [
    | yes q ↦ omega (arith, is-yes e, is-yes q)
    | no q ↦ omega (arith, is-yes e, is-other n 512 q)
  ]
  | no e ↦ omega (arith, is-other (n % 512) 0 e, is-other n 512 (λ q. e (omega arith)))
]
  where
    is-yes : {x y : ℕ} → x ≡ y → is x y ≡ 1
    is-yes {x} {y} q = ap (is x) (sym q) ∙ is_same x

pub need-0 : need 0 ≡ 2
unfolding need is
need-0 = refl

pub need-1 : need 1 ≡ 1
unfolding need is
need-1 = refl

pub need-512 : need 512 ≡ 3
unfolding need is
need-512 = refl

pub need-1024 : need 1024 ≡ 2
unfolding need is
need-1024 = refl

pub cost-513 : cost 513 ≡ 516
unfolding cost
cost-513 = refl

-- positions under the first m slots, and slots in use among them
sum-part : (L n m : ℕ) → sum m (λ k. min (n - k * L) L) ≡ min n (m * L)
unfolding sum
sum-part L n zero = omega arith
sum-part L n (suc m) = omega (arith, sum-part L n m)

sum-used : (n m : ℕ) → sum m (λ k. min 1 (n - k * 512)) ≡ min m ((n + 511) / 512)
unfolding sum
sum-used n zero = omega arith
sum-used n (suc m) = omega (arith, sum-used n m)

pub fill-1 : (v : Vol) (t n : ℕ) → n ≤ 512 → Fill v 1 t n → weigh v 1 t some ≡ n + min 1 n
unfolding weigh Fill
fill-1 v t n h F = elim (eq-zero-or-pos n) [
  | inl z ↦ omega (arith, leaves, z, some-zero, ap some (F.1 z))
  | inr p ↦ omega (arith, leaves, some-pos t (F.0 p))
]
  where
    each : (k : ℕ) → k < 512 → some (slot v t k) ≡ min (n - k * 1) 1
    each k i = elim (eq-zero-or-pos (min (n - k * 1) 1)) [
      | inl z ↦ ap some ((F.2 k i).1 z) ∙ some-zero ∙ sym z
      | inr p ↦ omega (arith, some-pos (slot v t k) ((F.2 k i).0 p))
    ]

    leaves : sum 512 (λ k. some (slot v t k)) ≡ n
    leaves = sum-ext 512 (λ k. some (slot v t k)) (λ k. min (n - k * 1) 1) each ∙ sum-part 1 n 512 ∙ omega arith

pub fill-2 : (v : Vol) (t n : ℕ) → 512 < n → n ≤ 262144 → Fill v 2 t n → weigh v 2 t some ≡ cost n
unfolding weigh Fill cost
fill-2 v t n l h F = omega (
  arith,
  some-pos t (F.0 (omega arith)),
  sum-ext 512 (λ k. weigh v 1 (slot v t k) some) (λ k. min (n - k * 512) 512 + min 1 (n - k * 512)) each,
  sum-add 512 (λ k. min (n - k * 512) 512) (λ k. min 1 (n - k * 512)),
  sum-part 512 n 512,
  sum-used n 512,
)
  where
    each : (k : ℕ) → k < 512 → weigh v 1 (slot v t k) some ≡ min (n - k * 512) 512 + min 1 (n - k * 512)
    each k i = fill-1 v (slot v t k) (min (n - k * 512) 512) (omega arith) (F.2 k i) ∙ omega arith
