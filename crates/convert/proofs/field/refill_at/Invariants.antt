-- `convert::field::refill_at` meets its contract. Assumes nothing.
use mathlib.Core.Path.{◌≡◌}
use lib.ListN.{length}
use Rattle.book.specs.Words.{vol, put_words}
use Rattle.book.specs.Names.{packed_by, stored}
use Rattle.convert.proofs.field.refill_at.Given as goal

-- the words passed are written
abbrev pub invariant-loop-i : goal.invariant-loop-i
invariant-loop-i l = (length l.img ≡ length l.initial.img) × (vol l.img ≡ put_words (vol l.initial.img) l.p l.k l.i (packed_by l.mark (stored l.n (vol l.initial.img l.p) l.k)))
