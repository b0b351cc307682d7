use native.Mathlib.Omega.{arith}
use mathlib.Core.Path.{◌≡◌, sym, ◌∙◌}
use Rattle.book.specs.Words.{vol}
use Rattle.tree.proofs.Entries.{absent-word, there-word}
use Rattle.tree.proofs.entry.entry_word.Goals as goal

pub returns-then-q-eq0 : goal.returns-then-q-eq0
returns-then-q-eq0 c = let v = vol c.args.img.now in let z : c.args.q ≡ 0 = omega arith in sym (absent-word v c.args.q c.args.n c.args.k z)

pub returns : goal.returns
returns c = let v = vol c.args.img.now in c.word_at.ensures ∙ there-word v c.args.q c.args.n c.of.result.word c.args.k (omega arith) c.of.ensures.1
