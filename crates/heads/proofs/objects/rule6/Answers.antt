use Rattle.page.proofs.Deciding.{told}
use Rattle.heads.proofs.Each.{decides-first}
use Rattle.heads.proofs.Heads.{users-reach, objects-reached}
use Rattle.heads.proofs.Judged.{rule6-fine, rule6-right}
use native.Mathlib.Omega.{arith}
use Rattle.heads.proofs.objects.rule6.Goals as goal

pub files_ok-requires : goal.files_ok-requires
files_ok-requires c = (
  users-reach _ (omega arith) c.requires.1 c.requires.2,
  objects-reached _ (omega arith) c.requires.1 c.requires.3 c.pointer_at-pointer.result.flags c.pointer_at-pointer.result.page c.pointer_at-pointer.ensures.flags.0 c.pointer_at-pointer.ensures.page.0,
  c.requires.4.most,
)

pub returns-else-files_ok : goal.returns-else-files_ok
returns-else-files_ok c =
    decides-first _ _ _ c.files_ok.ensures c.if-files_ok.false
    (rule6-fine c.args.img.now c.pointer_at-pointer.result.flags c.pointer_at-pointer.result.page c.args.ends c.requires.4 c.pointer_at-pointer.ensures.flags.0 c.pointer_at-pointer.ensures.page.0)

pub all_apart-requires : goal.all_apart-requires
all_apart-requires c = (objects-reached _ (omega arith) c.requires.1 c.requires.3 c.pointer_at-pointer.result.flags c.pointer_at-pointer.result.page c.pointer_at-pointer.ensures.flags.0 c.pointer_at-pointer.ensures.page.0, c.owners.ensures.0, c.requires.5)

pub returns-then-files_ok : goal.returns-then-files_ok
returns-then-files_ok c =
    rule6-right c.args.img.now c.pointer_at-pointer.result.flags c.pointer_at-pointer.result.page c.args.ends c.requires.4 c.pointer_at-pointer.ensures.flags.0 c.pointer_at-pointer.ensures.page.0 c.owners.result c.owners.ensures.0 c.owners.ensures.1
    c.all_apart.result (told c.files_ok.result _ c.files_ok.ensures c.if-files_ok.true) c.all_apart.ensures
