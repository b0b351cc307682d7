-- `who::kinds::bits_from` meets its contract. Assumes nothing.
use mathlib.Core.Path.{ap₂}
use Prim.Native.Nat.{ℕ, ◌+◌}
use Rattle.book.specs.Words.{vol}
use Rattle.book.specs.Trees.{upto, page_at}
use Rattle.book.specs.Bits.{bit_file}
use Rattle.book.specs.Image.{pages}
use Rattle.who.specs.Turns.{positions}
use Rattle.who.proofs.Leasts.{least_by}
use Rattle.who.proofs.kinds.bits_from.Goals as goal

pub returns : goal.returns
unfolding bit_file page_at
returns c = let v = vol c.args.img.now in
    least_by (λ (i : ℕ). upto i c.bit_pages-count.result (c.page_at-start.result + i)) (λ (i : ℕ). page_at v (bit_file (pages c.args.img.now) v) i) c.args.p c.args.n positions
    (λ i h. ap₂ (λ (m s : ℕ). upto i m (s + i)) c.bit_pages-count.ensures c.page_at-start.ensures.0) c.run_from.result c.run_from.ensures
