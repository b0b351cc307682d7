-- What an image that is ready gives: no sum of counts wraps. Assumes nothing.
use Rattle.std.proofs.Common.{ℕ, ◌+◌, ◌<◌, ◌≤◌, List, arith}
use Rattle.book.specs.Words.{vol}
use Rattle.book.specs.Entries.{user, used, given, unreserved}
use Rattle.book.specs.Image.{most_pages, pages, Ready}
use Rattle.laws.specs.Count.Room.{given-room}

-- unreserved and a user's given pages together
pub ready-room : (img : List ℕ) (d : Ready img) (u : ℕ) → u < 256 → 0 < used (user (vol img) u) → unreserved (vol img) + given (user (vol img)) u ≤ most_pages
ready-room img d u h i = omega (arith, given-room (pages img) (vol img) d.sound.r10 u h i, d.whole.most)
