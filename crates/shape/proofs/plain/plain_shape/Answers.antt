use mathlib.Core.Path.{subst}
use mathlib.Core.Logic.{◌⊎◌}
use Prim.Native.Nat.{ℕ}
use Rattle.book.specs.Decides.{Decides}
use Rattle.book.specs.Files.{Empty, Contiguous}
use Rattle.book.specs.Image.{pages}
use Rattle.book.specs.Words.{vol}
use Rattle.page.proofs.Deciding.{decides-iff, told}
use Rattle.shape.proofs.Files.{shape-0, shape-1}
use native.Mathlib.Omega.{arith}
use Rattle.shape.proofs.plain.plain_shape.Goals as goal

pub returns-in-0 : goal.returns-in-0
returns-in-0 c =
    told c.run_ok.result _ (shape-0 (pages c.args.img.now) (vol c.args.img.now) c.args.pointer.flags c.args.pointer.page c.args.n c.run_ok.result (omega arith)
    (subst (λ (P : ℕ). Decides c.run_ok.result (Empty c.args.pointer.page c.args.n ⊎ Contiguous P c.args.pointer.page c.args.n)) c.requires.1 c.run_ok.ensures))

pub returns-then-n-lt512 : goal.returns-then-n-lt512
returns-then-n-lt512 c =
    told c.index_ok.result _ (shape-1 (pages c.args.img.now) (vol c.args.img.now) c.args.pointer.flags c.args.pointer.page c.args.n c.index_ok.result (omega arith)
    (decides-iff c.index_ok.result _ _ (λ h. (omega arith, omega arith, h.0, h.1)) (λ h. (h.2, h.3)) c.index_ok.ensures))
