-- A byte of a name that is written anew, from the byte that stands there. Assumes nothing.
use Rattle.std.specs.Prelude.{[], ◌∷◌, ℕ, suc, ◌-◌, get_or}
use Rattle.sums.specs.Search.{pick, at_least}

-- byte i of a name that ends at l, with c and zeros behind it, where b stands
unfoldable pub byte_for : ℕ → ℕ → ℕ → ℕ → ℕ
byte_for b i l c = pick (at_least (suc i) l) b (get_or (c ∷ []) (i - l) 0)
