-- `growth::delete::delete_head` meets its contract. Assumes nothing.
use native.Mathlib.Omega.{arith}
use mathlib.Core.Path.{ap}
use Prim.Native.Nat.{ℕ, ◌-◌}
use Rattle.growth.proofs.Files.{file-count-lt, file-charged, file-used-lt}
use Rattle.growth.proofs.Deletes.{erased-freeing, erased-apart, delete-is}
use Rattle.growth.proofs.delete.delete_head.Goals as goal

pub held-gone-requires : goal.held-gone-requires
held-gone-requires c = omega (arith, file-count-lt c.requires)

pub overflow_sub-h : goal.overflow_sub-h
overflow_sub-h c = omega (arith, file-charged c.requires)

pub erase-requires : goal.erase-requires
erase-requires c = (c.requires.user, c.requires.file, c.requires.head.owner_in, c.requires.head.entry_in, omega (arith, file-used-lt c.requires))

pub free_root-requires : goal.free_root-requires
free_root-requires c = (erased-freeing c.requires _ _ c.erase.auto.img c.erase.ensures, erased-apart c.requires _ _ c.erase.auto.img c.erase.ensures)

pub returns : goal.returns
returns c = delete-is c.requires _ _ c.erase.auto.img c.erase.ensures (ap (λ (m : ℕ). c.args.h.used - m) c.held-gone.ensures) _ c.free_root.ensures
