use Rattle.places.proofs.Counted.{counts-right, counts-wrong, sum-right, sum-wrong}
use Rattle.shape.proofs.Users.{reach-users}
use Rattle.shape.proofs.Objects.{objects-at}
use Rattle.book.specs.Decides.{holds, fails}
use Rattle.book.specs.Image.{pages}
use Rattle.book.specs.Words.{vol}
use Rattle.places.proofs.counts.first10.Goals as goal

pub used_counts-requires : goal.used_counts-requires
used_counts-requires c =
    record {
      objects = objects-at c.args.img.now _ _ c.requires.0 c.requires.2 c.requires.4 c.pointer_at-pointer.ensures.flags.0 c.pointer_at-pointer.ensures.page.0;
      ends = c.requires.8;
      users = reach-users c.args.img.now c.requires.0 c.requires.2 c.requires.3;
      most = c.requires.0.most;
      shapes = c.requires.6;
    }

pub returns-in-Some : goal.returns-in-Some
returns-in-Some c = counts-wrong (pages c.args.img.now) (vol c.args.img.now) _ c.in-Some.ensures

pub sum_ok-requires : goal.sum_ok-requires
sum_ok-requires c = (c.requires.0, c.requires.1, reach-users c.args.img.now c.requires.0 c.requires.2 c.requires.3, c.requires.7, c.requires.5, c.requires.6, counts-right (pages c.args.img.now) (vol c.args.img.now) c.requires.6 c.in_default.ensures)

pub returns-then-not-sum_ok : goal.returns-then-not-sum_ok
returns-then-not-sum_ok c = sum-wrong (pages c.args.img.now) (vol c.args.img.now) _ c.master_place.ensures c.in_default.ensures (fails c.sum_ok.result _ c.sum_ok.ensures c.if-not-sum_ok.true-raw)

pub returns : goal.returns
returns c = sum-right (pages c.args.img.now) (vol c.args.img.now) c.in_default.ensures (holds c.sum_ok.result _ c.sum_ok.ensures c.if-not-sum_ok.false-raw)
