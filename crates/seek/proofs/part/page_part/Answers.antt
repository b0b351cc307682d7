-- `seek::part::page_part` meets its contract. Assumes nothing.
use native.Mathlib.Nat.{add-sub_cancel_left}
use Rattle.seek.proofs.part.page_part.Goals as goal

pub returns : goal.returns
returns c = rw add-sub_cancel_left
