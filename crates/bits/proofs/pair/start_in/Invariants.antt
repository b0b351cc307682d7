-- `bits::pair::start_in` meets its contract. Assumes nothing.
use Rattle.bits.specs.Run.{Starts}
use Rattle.bits.proofs.pair.start_in.Given as goal

-- g has the starts of as many places as the counter says
abbrev pub invariant-loop : goal.invariant-loop
invariant-loop l = Starts l.x l.counter l.g
