use native.Mathlib.Omega.{arith}
use Rattle.salvage.proofs.Joined.{joined-digit}
use Rattle.salvage.proofs.collect.joined.Goals as goal

pub returns : goal.returns
returns c = λ j h. joined-digit c.args.w c.args.m c.args.n _ _ c.low_bits.ensures c.low_bits-2.ensures (omega arith) j h
