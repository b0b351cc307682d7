-- `who::blocks::level_from` meets its contract. Assumes nothing.
use native.Mathlib.Omega.{arith}
use Rattle.book.specs.Words.{vol}
use Rattle.book.specs.Pointers.{slot}
use Rattle.who.specs.Turns.{positions}
use Rattle.who.proofs.Leasts.{upto-end, upto-least}
use Rattle.who.proofs.blocks.level_from.Goals as goal

pub returns-then-n-gt512 : goal.returns-then-n-gt512
returns-then-n-gt512 c = (upto-end (slot (vol c.args.img.now) c.args.b) 512 c.args.p c.args.n positions c.requires.0.page (λ i h l e. omega arith), c.requires.0)

pub returns : goal.returns
returns c = (upto-least (slot (vol c.args.img.now) c.args.b) 512 c.args.p c.args.n positions c.requires.0.page c.block_from.result (omega arith) c.block_from.ensures.0, c.block_from.ensures.1)
