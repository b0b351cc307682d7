-- The buffer has the whole text for the image of the bytes read. Assumes nothing.
use mathlib.Core.List.{List}
use Prim.Native.Nat.{ℕ, ◌≤◌}
use native.Mathlib.Omega.{arith}
use lib.ListN.{length}
use Rattle.book.specs.Listing.{Reported}
use Rattle.listing.proofs.Longest.{whole-text}
use Rattle.lister.specs.Input.{WordsOf, Answered}

pub answered : (s img o out : List ℕ) (n : ℕ) → length s ≤ 65536 → 65536 ≤ length o → WordsOf s img → Reported img o out n → Answered s out n
answered s img o out n h b W R = let w = whole-text img o out n (omega (arith, W.size)) b R in (w.0, (img, W, w.1))
