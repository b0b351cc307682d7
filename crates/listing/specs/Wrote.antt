-- What a function that writes a text into a lent buffer leaves. Assumes nothing.
use Rattle.std.specs.Prelude.{◌≡◌, ℕ, ◌+◌, length}
use Rattle.std.proofs.lemmas.List.Edits.{sets}
use Rattle.book.specs.Listing.{Bytes}

-- far past the end of any text. The lowest functions ask for a place below 6 * far, those that call them below 5 * far, and so on, so that no place wraps
abbrev pub far : ℕ
far = 1099511627776

-- t written from byte at on, as far as the buffer reaches; r is the place after it
pub record Wrote (t o : Bytes) (at : ℕ) (out : Bytes) (r : ℕ) : Type 0 where
  pub next : r ≡ at + length t
  pub bytes : out ≡ sets o at t
