-- `convert::to_apostrophe` meets its contract. Assumes nothing.
use Rattle.laws.specs.File.Stored.{ends-apostrophe}
use Rattle.convert.proofs.to_apostrophe.Goals as goal

pub between-requires : goal.between-requires
between-requires c = (c.requires, ends-apostrophe)
