-- `who::roots::class_from` meets its contract. Assumes nothing.
use mathlib.Core.Path.{sym}
use Rattle.book.specs.Words.{vol}
use Rattle.who.proofs.Classes.{class-at}
use Rattle.who.proofs.roots.class_from.Goals as goal

pub returns-then-class-eq0 : goal.returns-then-class-eq0
returns-then-class-eq0 c = let v = vol c.args.img.now in
    (class-at v c.args.pointer.flags c.args.pointer.page c.args.count c.args.p c.args.n c.subindex_from.result 0 c.args.class (sym c.if-class-eq0.true) (c.subindex_from.ensures v c.args.count), c.requires.0)
