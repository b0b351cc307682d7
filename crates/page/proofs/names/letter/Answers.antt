-- `page::names::letter` meets its contract. Assumes nothing.
use mathlib.Core.Path.{◌≡◌}
use mathlib.Core.Logic.{inl, inr}
use Prim.Native.Nat.{ℕ, ◌≤◌}
use native.Mathlib.Omega.{arith}
use Rattle.book.specs.Names.{Letter}
use Rattle.page.proofs.names.letter.Goals as goal

other : (b : ℕ) → (65 ≤ b → b ≤ 90 → ⊥) → (48 ≤ b → b ≤ 57 → ⊥) → (b ≡ 45 → ⊥) → Letter b → ⊥
unfolding Letter
other b l d h (inl e) = l e.0 e.1
other b l d h (inr (inl e)) = d e.0 e.1
other b l d h (inr (inr e)) = h e

pub returns-in_default : goal.returns-in_default
returns-in_default c = other _ (λ l h. omega arith) (λ l h. omega arith) (λ e. omega arith)

pub returns-in_default-2 : goal.returns-in_default-2
returns-in_default-2 c = other _ (λ l h. omega arith) (λ l h. omega arith) (λ e. omega arith)

pub returns-in_default-3 : goal.returns-in_default-3
returns-in_default-3 c = other _ (λ l h. omega arith) (λ l h. omega arith) (λ e. omega arith)

pub returns-in-65-to-90 : goal.returns-in-65-to-90
unfolding Letter
returns-in-65-to-90 c = inr (inr (omega arith))

pub returns-in-65-to-90-2 : goal.returns-in-65-to-90-2
unfolding Letter
returns-in-65-to-90-2 c = inr (inl (omega arith, omega arith))

pub returns-in-65-to-90-3 : goal.returns-in-65-to-90-3
unfolding Letter
returns-in-65-to-90-3 c = inl (omega arith, omega arith)
