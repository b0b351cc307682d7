-- `growth::entries::set_slot` meets its contract. Assumes nothing.
use Rattle.book.specs.Pointers.{set_slot}
use Rattle.growth.proofs.entries.set_slot.Goals as goal

pub returns : goal.returns
unfolding set_slot
returns c = c.put_two.ensures
