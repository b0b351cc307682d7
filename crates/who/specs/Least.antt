-- The first number from x on and below z of which A holds, if there is one. Assumes nothing.
use Rattle.std.specs.Prelude.{Option, None, Some, ℕ, ◌≤◌, ◌<◌}

-- A holds of no number from x to y - 1
abbrev pub Never : (ℕ → Type 0) → ℕ → ℕ → Type 0
Never A x y = (i : ℕ) → x ≤ i → i < y → A i → ⊥

-- r is the first
pub record Here (A : ℕ → Type 0) (x z r : ℕ) : Type 0 where
  pub from : x ≤ r
  pub to : r < z
  pub none : Never A x r
  pub here : A r

abbrev pub Least : (ℕ → Type 0) → ℕ → ℕ → Option ℕ → Type 0
Least A x z None = Never A x z
Least A x z (Some r) = Here A x z r
