-- `seek::find::find_in` meets its contract. Assumes nothing.
use Rattle.std.proofs.Common.{option_copied, refl, arith}
use Rattle.book.specs.Words.{vol}
use Rattle.book.specs.Trees.{root_by}
use Rattle.seek.specs.Search.{Fits}
use Rattle.seek.proofs.Search.{found_none, found-on, none-on}
use Rattle.seek.proofs.find.find_in.Goals as goal

pub returns-in-Some : goal.returns-in-Some
returns-in-Some c =
    found-on (vol c.args.img.now) (root_by c.args.pointer.flags c.args.pointer.page 0) c.args.b c.loop-i.i c.root_page-q.result c.root_page-q.ensures.0 (Fits c.args.name.now (option_copied c.args.kind)) c.in-Some.k _ (omega arith) refl c.in-Some.ensures

pub loop-i-preserved : goal.loop-i-preserved
loop-i-preserved c =
    none-on (vol c.args.img.now) (root_by c.args.pointer.flags c.args.pointer.page 0) c.args.b c.loop-i.i c.root_page-q.result c.root_page-q.ensures.0 (Fits c.args.name.now (option_copied c.args.kind)) c.loop-i.invariant
    (found_none _ c.find_on.result c.in_default.is c.find_on.ensures)
