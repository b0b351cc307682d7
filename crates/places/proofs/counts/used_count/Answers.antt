use Rattle.places.proofs.Counted.{count-right, count-wrong}
use Rattle.book.specs.Image.{pages}
use Rattle.book.specs.Words.{vol}
use Rattle.book.specs.Decides.{holds, fails}
use Rattle.places.proofs.counts.used_count.Goals as goal

pub returns-then-not-user_ok : goal.returns-then-not-user_ok
returns-then-not-user_ok c = count-wrong (pages c.args.img.now) (vol c.args.img.now) c.requires.0.shapes c.args.u c.user_page-q.result c.requires.1 c.user_page-q.ensures.0 _ c.place_of.ensures (fails c.user_ok.result _ c.user_ok.ensures c.if-not-user_ok.true-raw)

pub returns : goal.returns
returns c = count-right (pages c.args.img.now) (vol c.args.img.now) c.requires.0.shapes c.args.u c.user_page-q.result c.requires.1 c.user_page-q.ensures.0 (holds c.user_ok.result _ c.user_ok.ensures c.if-not-user_ok.false-raw)
