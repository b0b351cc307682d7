-- `page::read::two_at` meets its contract. Assumes nothing.
use native.Mathlib.Nat.{add-sub_cancel_left}
use native.Mathlib.Numerals.{add-one}
use native.Mathlib.Omega.{arith}
use Rattle.book.specs.Words.{vol, two}
use Rattle.page.proofs.read.two_at.Goals as goal

pub returns : goal.returns
unfolding two vol
returns c = (rw (c.dword.ensures.0, add-sub_cancel_left, add-one), omega arith)
