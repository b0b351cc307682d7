use mathlib.Core.Path.{subst}
use mathlib.Core.Logic.{◌⊎◌}
use Prim.Native.Nat.{ℕ}
use Rattle.book.specs.Decides.{Decides}
use Rattle.book.specs.Files.{Empty, Contiguous}
use Rattle.book.specs.Image.{pages}
use Rattle.book.specs.Words.{vol}
use Rattle.shape.proofs.Files.{shape-0, shape-1, shape-2, shape-wrong}
use Rattle.shape.proofs.Memory.{tested-no, tested-by, tested-as, tested-beside}
use native.Mathlib.Omega.{arith}
use Rattle.shape.proofs.file.shape_ok.Goals as goal

pub returns-in-0 : goal.returns-in-0
returns-in-0 c =
    tested-by _ _ c.run_ok.result (shape-0 (pages c.args.img.now) (vol c.args.img.now) c.args.pointer.flags c.args.pointer.page c.args.n c.run_ok.result (omega arith)
    (subst (λ (P : ℕ). Decides c.run_ok.result (Empty c.args.pointer.page c.args.n ⊎ Contiguous P c.args.pointer.page c.args.n)) c.requires.0.count c.run_ok.ensures)) c.requires.0.memory

pub returns-in-1 : goal.returns-in-1
returns-in-1 c =
    tested-beside c.args.img.now _ _ _ c.indexed_ok.result c.requires.0.memory.rooted
    (tested-as _ _ c.indexed_ok.result _ (shape-1 (pages c.args.img.now) (vol c.args.img.now) c.args.pointer.flags c.args.pointer.page c.args.n c.indexed_ok.result (omega arith)) c.indexed_ok.ensures)

pub returns-in-2 : goal.returns-in-2
returns-in-2 c = tested-as _ _ c.subindexed_ok.result _ (shape-2 (pages c.args.img.now) (vol c.args.img.now) c.args.pointer.flags c.args.pointer.page c.args.n c.subindexed_ok.result (omega arith)) c.subindexed_ok.ensures

pub returns-in_default : goal.returns-in_default
returns-in_default c = tested-no _ _ (shape-wrong (pages c.args.img.now) (vol c.args.img.now) c.args.pointer.flags c.args.pointer.page c.args.n (omega arith))
