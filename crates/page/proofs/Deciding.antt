-- Tests that decide a fact, beside those of the book. Assumes nothing.
use mathlib.Core.Path.{◌≡◌, refl}
use mathlib.Core.Bool.{Bool, true, false}
use Prim.Native.Nat.{ℕ, ◌≤◌, ◌<◌}
use native.Mathlib.Omega.{arith}
use lib.Dec.{eqb, leb}
use borrow.Author.Tests.{eqb-true, eqb-false, leb-true, leb-false}
use Rattle.book.specs.Decides.{Decides}

-- a test of one fact decides every fact that says the same
pub decides-iff : (b : Bool) (A B : Type 0) → (A → B) → (B → A) → Decides b A → Decides b B
decides-iff true A B f g d = f d
decides-iff false A B f g d = λ h. d (g h)

-- where `false` was returned, what `true` would say is not asked
pub never : {A : Type 0} → false ≡ true → A
never e = let z : ◌≡◌ {A = ℕ} 0 1 = cc in absurd (omega arith)

-- within `if test { .. }`, and after it
pub told : (b : Bool) (A : Type 0) → Decides b A → b ≡ true → A
told true A d e = d
told false A d e = never e

pub untold : (b : Bool) (A : Type 0) → Decides b A → b ≡ false → A → ⊥
untold false A d e = d
untold true A d e = let z : ◌≡◌ {A = ℕ} 0 1 = cc in absurd (omega arith)

-- ---- comparisons decide what they compare

decides-by : (b : Bool) (A : Type 0) → (b ≡ true → A) → (b ≡ false → A → ⊥) → Decides b A
decides-by true A f g = f refl
decides-by false A f g = g refl

pub decides_eq : (m n : ℕ) → Decides (eqb m n) (m ≡ n)
decides_eq m n = decides-by (eqb m n) _ (eqb-true m n) (eqb-false m n)

pub decides-le : (m n : ℕ) → Decides (leb m n) (m ≤ n)
decides-le m n = decides-by (leb m n) _ (leb-true m n) (λ e h. omega (arith, leb-false m n e))

-- what a comparison that is known decides
pub decides_le-yes : (m n : ℕ) (A : Type 0) → m ≤ n → A → Decides (leb m n) A
decides_le-yes m n A l a = decides-iff (leb m n) (m ≤ n) A (λ h. a) (λ h. l) (decides-le m n)

pub decides_le-no : (m n : ℕ) (A : Type 0) → n < m → (A → ⊥) → Decides (leb m n) A
decides_le-no m n A l f = decides-iff (leb m n) (m ≤ n) A (λ h. absurd (let r : ⊥ = omega arith in r)) (λ a. absurd (f a)) (decides-le m n)
