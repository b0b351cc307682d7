use mathlib.Core.Path.{◌≡◌}
use Prim.Native.Nat.{◌*◌, ◌≤◌, ◌<◌}
use Rattle.book.specs.Words.{vol}
use Rattle.book.specs.Names.{end_of, words_of, stored}
use Rattle.heads.specs.Stamps.{hash}
use Rattle.heads.proofs.stamps.hash_at.Given as goal

-- the words passed are in, and in none of them does the name end
abbrev pub invariant-loop-i : goal.invariant-loop-i
invariant-loop-i l = (2 * l.i ≤ end_of l.n (vol l.img l.p) l.k) × (l.z ≡ hash l.h (words_of (stored l.n (vol l.img l.p) l.k)) l.i) × (l.z < 4294967296)
