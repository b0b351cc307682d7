use Prim.Native.Nat.{◌/◌}
use native.Mathlib.Omega.{arith}
use Rattle.book.specs.Words.{vol}
use Rattle.book.specs.Trees.{root_by}
use Rattle.page.proofs.Deciding.{told}
use Rattle.heads.proofs.Each.{decides-first}
use Rattle.tree.proofs.Reach.{reach_page}
use Rattle.heads.proofs.Alike.{twin-absent, twin-used, twin-by}
use Rattle.heads.proofs.twins.twin.Goals as goal

pub returns-then-p-eq0 : goal.returns-then-p-eq0
returns-then-p-eq0 c = twin-absent (vol c.args.img.now) (root_by c.args.pointer.flags c.args.pointer.page 0) c.args.n c.args.x c.args.y c.root_page-p.result c.root_page-p.ensures.0 (omega arith)

pub entry_same-requires : goal.entry_same-requires
entry_same-requires c = (omega arith, omega arith, c.requires.0.there, omega (arith, c.requires.0.at, reach_page _ _ c.requires.0.reach (c.args.y / 32)), c.requires.2, c.requires.3)

pub returns-then-entry_used : goal.returns-then-entry_used
returns-then-entry_used c =
    twin-by (vol c.args.img.now) (root_by c.args.pointer.flags c.args.pointer.page 0) c.args.n c.args.x c.args.y c.root_page-p.result c.root_page-p.ensures.0 c.args.q c.entry_same.result c.requires.0.at
    (told c.entry_used.result _ c.entry_used.ensures c.if-entry_used.true) c.requires.1 c.entry_same.ensures

pub returns-else-entry_used : goal.returns-else-entry_used
returns-else-entry_used c =
    decides-first _ _ _ c.entry_used.ensures c.if-entry_used.false (twin-used (vol c.args.img.now) (root_by c.args.pointer.flags c.args.pointer.page 0) c.args.n c.args.x c.args.y c.root_page-p.result c.root_page-p.ensures.0)
