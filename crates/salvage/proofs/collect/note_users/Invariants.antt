use Rattle.std.proofs.Common.{◌+◌, ◌*◌, ◌-◌}
use Rattle.salvage.specs.Row.{RowTells}
use Rattle.salvage.proofs.collect.note_users.Given as goal

abbrev pub invariant-loop-u : goal.invariant-loop-u
invariant-loop-u l = RowTells l.img (1024 * l.q + 32 * (l.u - l.first)) l.row l.m
