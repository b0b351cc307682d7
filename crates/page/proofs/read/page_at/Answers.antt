-- `page::read::page_at` meets its contract. Assumes nothing.
use native.Mathlib.Nat.{add-sub_cancel_left}
use native.Mathlib.Numerals.{add-one}
use native.Mathlib.Omega.{arith}
use Rattle.book.specs.Words.{vol}
use Rattle.book.specs.Pointers.{page}
use Rattle.page.proofs.read.page_at.Goals as goal

pub returns : goal.returns
unfolding page vol
returns c = (rw (c.dpage.ensures.0, add-sub_cancel_left, add-one), omega arith)
