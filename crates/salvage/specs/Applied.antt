-- The second pass: the changes of the row are stored into the image one after the other. Assumes nothing.
use Rattle.std.specs.Prelude.{List, ℕ, zero, suc, ◌/◌, ◌%◌, get_or, set}

-- the place and the new value of a packed change
abbrev pub packed_place : ℕ → ℕ
packed_place x = x / 4294967296

abbrev pub packed_new : ℕ → ℕ
packed_new x = x % 65536

-- the first n changes of the row are stored
unfoldable pub applied : List ℕ → List ℕ → ℕ → List ℕ
applied img row zero = img
applied img row (suc n) = set (applied img row n) (packed_place (get_or row n 0)) (packed_new (get_or row n 0))
