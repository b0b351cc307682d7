-- `making::run::find_run` meets its contract. Assumes nothing.
use mathlib.Core.Path.{ap, ◌∙◌}
use native.Mathlib.Omega.{arith}
use Rattle.book.specs.Words.{vol}
use Rattle.book.specs.Create.{file_need}
use Rattle.laws.specs.Create.Vacant.{used-reached}
use Rattle.making.proofs.Spent.{place-run-none, place-run-same}
use Rattle.making.proofs.run.find_run.Goals as goal

pub returns-then-s-left : goal.returns-then-s-left
returns-then-s-left c =
    place-run-none c.requires.0 (used-reached _ _ c.requires.0.sound c.args.u c.args.f c.requires.1 c.requires.3 c.requires.2) c.requires.4 c.args.n c.requires.5.0
    c.file_need-need.result c.after_lowest-left.result c.highest_run-s.result
    (c.file_need-need.ensures.0 ∙ ap (file_need (vol c.args.img.now)) c.entry_number.ensures.0) c.after_lowest-left.ensures c.highest_run-s.ensures (omega arith)

pub returns : goal.returns
returns c =
    place-run-same c.requires.0 (used-reached _ _ c.requires.0.sound c.args.u c.args.f c.requires.1 c.requires.3 c.requires.2) c.requires.4 c.args.n c.requires.5.0
    c.file_need-need.result c.after_lowest-left.result c.highest_run-s.result
    (c.file_need-need.ensures.0 ∙ ap (file_need (vol c.args.img.now)) c.entry_number.ensures.0) c.after_lowest-left.ensures c.highest_run-s.ensures (omega arith)
