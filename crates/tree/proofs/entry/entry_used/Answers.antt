use Prim.Native.Nat.{◌≤◌, ◌<◌}
use native.Mathlib.Omega.{arith}
use lib.Dec.{leb}
use Rattle.book.specs.Words.{vol}
use Rattle.book.specs.Entries.{used}
use Rattle.page.proofs.Deciding.{decides-iff, decides-le}
use Rattle.tree.specs.Reach.{entry_in}
use Rattle.tree.proofs.entry.entry_used.Goals as goal

pub returns : goal.returns
unfolding used
returns c =
    decides-iff (leb 32768 c.entry_word.result) (32768 ≤ c.entry_word.result) (0 < used (entry_in (vol c.args.img.now) c.args.q c.args.n)) (λ h. omega (arith, c.entry_word.ensures)) (λ h. omega (arith, c.entry_word.ensures))
    (decides-le 32768 c.entry_word.result)
