-- `convert::to_zeros` meets its contract. Assumes nothing.
use Rattle.laws.specs.File.Stored.{ends-zero}
use Rattle.convert.proofs.to_zeros.Goals as goal

pub between-requires : goal.between-requires
between-requires c = (c.requires, ends-zero)
