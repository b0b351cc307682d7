-- `walk::files::mark_entries` meets its contract. Assumes nothing.
use Rattle.std.proofs.Common.{refl, ◌∙◌, arith}
use Rattle.book.specs.Words.{vol}
use Rattle.walk.proofs.Walks.{row-start, row_on, row-met, row-end}
use Rattle.walk.proofs.Entries.{files_of, files-walking, place}
use Rattle.walk.proofs.files.mark_entries.Goals as goal

pub loop-i-init : goal.loop-i-init
loop-i-init c = row-start _ _ _ _

pub mark_entry-requires : goal.mark_entry-requires
mark_entry-requires c = (
  files-walking c.args.img.now c.requires.1 c.args.n c.loop-i.i c.requires.2 (omega arith) _ _ _ _ c.requires.0 c.loop-i.invariant,
  c.requires.1,
  omega arith,
  c.requires.3 ∙ place (vol c.args.img.now) c.args.n c.loop-i.i (omega arith),
  c.requires.4,
)

pub returns-in_err-v : goal.returns-in_err-v
returns-in_err-v c = rw c.from_residual.ensures (row-met _ _ _ (files_of c.args.img.now c.args.n) c.loop-i.i _ _ c.loop-i.invariant _ (λ g. refl) c.mark_entry.new.marks c.in_err-v.ensures 32 (omega arith) c.mark_entry.new.marks)

pub loop-i-preserved : goal.loop-i-preserved
loop-i-preserved c = row_on _ _ _ (files_of c.args.img.now c.args.n) c.loop-i.i _ _ c.loop-i.invariant _ (λ g. refl) _ _ c.in_ok-v.ensures

pub returns : goal.returns
returns c = row-end _ _ _ (files_of c.args.img.now c.args.n) c.loop-i.i _ _ _ (omega arith) c.loop-i.invariant
