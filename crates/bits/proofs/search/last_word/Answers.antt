-- `bits::search::last_word` meets its contract. Assumes nothing.
use mathlib.Core.Path.{refl, ap, ◌∙◌}
use Prim.Native.Nat.{ℕ, ◌-◌, ◌%◌, max}
use native.Mathlib.Omega.{arith}
use Rattle.book.specs.Words.{vol}
use Rattle.book.specs.Bits.{digit}
use Rattle.bits.proofs.BitsIn.{word_none, word-last}
use Rattle.bits.proofs.search.last_word.Goals as goal

pub returns-then-rest-eq0 : goal.returns-then-rest-eq0
returns-then-rest-eq0 c = word_none c.args.pages (vol c.args.img.now) 65535 (omega arith) refl

pub returns : goal.returns
returns c =
    word-last c.args.pages (vol c.args.img.now) c.args.b c.requires.1 c.ones_from.result
    (λ j l. c.ones_from.ensures j l ∙ ap (λ (x : ℕ). max (digit j x) (1 - (c.args.pages % 16 - j))) c.word_from.ensures)
