-- What an image that is ready gives: no user has used more than he was given. Assumes nothing.
use mathlib.Core.List.{List}
use Prim.Native.Nat.{ℕ, ◌≤◌, ◌<◌}
use Rattle.book.specs.Words.{vol}
use Rattle.book.specs.Entries.{user, given, used_pages}
use Rattle.book.specs.Image.{Ready}
use Rattle.book.specs.Rules.{Rule4Over}
use Rattle.book.specs.Calls.{HasUser}

pub ready-within : (img : List ℕ) (d : Ready img) (u : ℕ) → u < 256 → HasUser (vol img) u → used_pages (user (vol img)) u ≤ given (user (vol img)) u
unfolding Rule4Over
ready-within img d u h i = (d.sound.r4.0 u h i).within
