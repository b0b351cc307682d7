-- `page::write::put_two` meets its contract. Assumes nothing.
use native.Mathlib.Numerals.{add-one}
use Rattle.book.specs.Words.{put2}
use Rattle.page.proofs.write.put_two.Goals as goal

pub returns : goal.returns
unfolding put2
returns c = cc (add-one c.args.k)
