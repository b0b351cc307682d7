-- The first number of which A holds, put together from parts. Assumes nothing.
use mathlib.Core.Path.{◌≡◌, refl, sym, ◌∙◌, subst}
use mathlib.Core.Bool.{true}
use Rattle.std.specs.Option.{is_some}
use Rattle.std.proofs.Common.{Option, None, Some}
use Prim.Native.Nat.{ℕ, ◌+◌, ◌-◌, ◌≤◌, ◌<◌}
use native.Mathlib.Decide.{dec_lt}
use native.Mathlib.Omega.{arith}
use Rattle.book.specs.Trees.{upto}
use Rattle.laws.specs.Frame.Roots.{upto-in}
use Rattle.laws.specs.Tree.Roles.{upto-pos}
use Rattle.who.specs.Least.{Never, Here, Least}

module _ (A : ℕ → Type 0) (x : ℕ) where
  pub none-on : (y w : ℕ) → Never A x y → Never A y w → Never A x w
  none-on y w n d i s t a = elim (dec_lt i y) [
    | yes m ↦ n i s m a
    | no m ↦ d i (omega arith) t a
  ]

  -- all of which A holds are below w
  pub least_past : (w z : ℕ) (r : Option ℕ) → w ≤ z → ((y : ℕ) → A y → y < w) → Least A x w r → Least A x z r
  least_past w z None h f d = λ i s t a. d i s (f i a) a
  least_past w z (Some r) h f d = record { from = d.from; to = omega (arith, d.to); none = d.none; here = d.here }

  pub least_some : (z : ℕ) (r : Option ℕ) → (Never A x z → ⊥) → Least A x z r → is_some r ≡ true
  least_some z None f d = absurd (f d)
  least_some z (Some r) f d = refl

-- a part of the numbers, from c on: those of which B holds, w of them; the search is at c + s
module _ (A B : ℕ → Type 0) (c s w x : ℕ) (into : (j : ℕ) → j < w → A (c + j) → B j) where
  before : (r : ℕ) → r ≤ w → Never B s r → Never A x (c + s) → Never A x (c + r)
  before r g d n i h l a = elim (dec_lt i (c + s)) [
    | yes o ↦ n i h o a
    | no o ↦
        let j : ℕ = i - c in
        let e : i ≡ c + j = omega arith in
        d j (omega arith) (omega arith) (into j (omega arith) (subst A e a))
  ]

  pub part_at : (r : ℕ) → Never A x (c + s) → Here B s w r → (z : ℕ) → x ≤ c + s → c + w ≤ z → (B r → A (c + r)) → Here A x z (c + r)
  part_at r n d z h l f = record { from = omega (arith, d.from); to = omega (arith, d.to); none = before r (omega (arith, d.to)) d.none n; here = f d.here }

  pub part_none : (y : ℕ) → y ≡ c + w → Never A x (c + s) → Never B s w → Never A x y
  part_none y e n d = subst (Never A x) (sym e) (before w (omega arith) d n)

-- ---- the numbers at which f is p

module _ (f g : ℕ → ℕ) (p x z : ℕ) (same : (i : ℕ) → i < z → f i ≡ g i) where
  pub least_by : (r : Option ℕ) → Least (λ (i : ℕ). f i ≡ p) x z r → Least (λ (i : ℕ). g i ≡ p) x z r
  least_by None d = λ i h l b. d i h l (same i l ∙ b)
  least_by (Some r) d = record { from = d.from; to = d.to; none = λ i h l b. d.none i h l (same i (omega (arith, d.to)) ∙ b); here = sym (same r d.to) ∙ d.here }

pub none_zero : (f : ℕ → ℕ) (p x z : ℕ) → 0 < p → ((i : ℕ) → f i ≡ 0) → Never (λ (i : ℕ). f i ≡ p) x z
none_zero f p x z pos zero i s t a = omega (arith, a, zero i)

-- up to w
module _ (g : ℕ → ℕ) (w p x z : ℕ) (pos : 0 < p) where
  pub upto-end : Never (λ (i : ℕ). g i ≡ p) x w → Never (λ (i : ℕ). upto i w (g i) ≡ p) x z
  upto-end n i s t e = let u = upto-pos i w (g i) p pos e in n i s u.0 u.1

  pub upto-at : (r : ℕ) → w ≤ z → Here (λ (i : ℕ). g i ≡ p) x w r → Here (λ (i : ℕ). upto i w (g i) ≡ p) x z r
  upto-at r h d = record { from = d.from; to = omega (arith, d.to); none = λ i s l e. d.none i s l (upto-pos i w (g i) p pos e).1; here = upto-in r w (g r) d.to ∙ d.here }

  pub upto-least : (r : Option ℕ) → w ≤ z → Least (λ (i : ℕ). g i ≡ p) x w r → Least (λ (i : ℕ). upto i w (g i) ≡ p) x z r
  upto-least None h d = upto-end d
  upto-least (Some r) h d = upto-at r h d
