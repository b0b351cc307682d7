-- `salvage::collect::note_bits` meets its contract. Assumes nothing.
use Prim.Native.Nat.{◌+◌, ◌*◌}
use Rattle.salvage.specs.Row.{RowTells}
use Rattle.salvage.proofs.collect.note_bits.Given as goal

-- the words passed are told
abbrev pub invariant-loop-k : goal.invariant-loop-k
invariant-loop-k l = RowTells l.img (1024 * l.b + l.k) l.row l.m
