use Rattle.book.specs.Words.{vol}
use Rattle.heads.proofs.Hashed.{title-in}
use Rattle.heads.proofs.stamps.hash_of.Goals as goal

pub returns : goal.returns
returns c = (title-in (vol c.args.img.now) c.args.q c.args.e c.of-w.result.word c.args.n c.hash_at-h.result c.hash_at.result c.requires.0 c.of-w.ensures.1 c.hash_at-h.ensures.0 c.hash_at.ensures.0, c.hash_at.ensures.1)
