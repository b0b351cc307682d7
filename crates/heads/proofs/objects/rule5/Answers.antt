use native.Mathlib.Omega.{arith}
use Rattle.book.specs.Words.{vol}
use Rattle.book.specs.Image.{pages}
use Rattle.page.proofs.Deciding.{told}
use Rattle.heads.proofs.Each.{decides-first}
use Rattle.heads.proofs.Heads.{users-reach, objects-inside}
use Rattle.heads.proofs.Blocks.{rule5-index, rule5-low, rule5-sub, rule5-blocks, rule5-none}
use Rattle.heads.proofs.objects.rule5.Goals as goal

pub block_ok-requires : goal.block_ok-requires
block_ok-requires c = (record { count = c.requires.1; most = omega arith; inside = omega (arith, objects-inside _ _ c.requires.2 (omega arith), c.pointer_at-pointer.ensures.page.0) }, omega arith)

pub returns-else-block_ok : goal.returns-else-block_ok
returns-else-block_ok c = decides-first _ _ _ c.block_ok.ensures c.if-block_ok.false
    (rule5-index _ _ c.pointer_at-pointer.result.flags c.pointer_at-pointer.result.page c.pointer_at-pointer.ensures.flags.0 c.pointer_at-pointer.ensures.page.0 (omega arith))

pub low_users-requires : goal.low_users-requires
low_users-requires c = users-reach _ (omega arith) c.requires.2 c.requires.3

pub returns-then-block_ok : goal.returns-then-block_ok
returns-then-block_ok c =
    rule5-low (pages c.args.img.now) (vol c.args.img.now) c.pointer_at-pointer.result.flags c.pointer_at-pointer.result.page c.pointer_at-pointer.ensures.flags.0 c.pointer_at-pointer.ensures.page.0 c.low_users.result (omega arith)
    (omega (arith, objects-inside (pages c.args.img.now) (vol c.args.img.now) c.requires.2 (omega arith), c.pointer_at-pointer.ensures.page.0))
    (told c.block_ok.result _ c.block_ok.ensures c.if-block_ok.true) c.low_users.ensures

pub block_ok-requires-in-2 : goal.block_ok-requires-in-2
block_ok-requires-in-2 c = (record { count = c.requires.1; most = omega arith; inside = omega (arith, objects-inside _ _ c.requires.2 (omega arith), c.pointer_at-pointer.ensures.page.0) }, omega arith)

pub returns-else-block_ok-2 : goal.returns-else-block_ok-2
returns-else-block_ok-2 c = decides-first _ _ _ c.block_ok-in-2.ensures c.if-block_ok-2.false
    (rule5-sub _ _ c.pointer_at-pointer.result.flags c.pointer_at-pointer.result.page c.pointer_at-pointer.ensures.flags.0 c.pointer_at-pointer.ensures.page.0 (omega arith))

pub indexes_ok-requires : goal.indexes_ok-requires
indexes_ok-requires c = (
  record { count = c.requires.1; most = omega arith; inside = omega (arith, objects-inside _ _ c.requires.2 (omega arith), c.pointer_at-pointer.ensures.page.0) },
  told c.block_ok-in-2.result _ c.block_ok-in-2.ensures c.if-block_ok-2.true,
)

pub returns-then-block_ok-2 : goal.returns-then-block_ok-2
returns-then-block_ok-2 c =
    rule5-blocks (pages c.args.img.now) (vol c.args.img.now) c.pointer_at-pointer.result.flags c.pointer_at-pointer.result.page c.pointer_at-pointer.ensures.flags.0 c.pointer_at-pointer.ensures.page.0 c.indexes_ok.result (omega arith)
    (omega (arith, objects-inside (pages c.args.img.now) (vol c.args.img.now) c.requires.2 (omega arith), c.pointer_at-pointer.ensures.page.0))
    (told c.block_ok-in-2.result _ c.block_ok-in-2.ensures c.if-block_ok-2.true) c.indexes_ok.ensures

pub returns-in_default : goal.returns-in_default
returns-in_default c = rule5-none _ _ c.pointer_at-pointer.result.flags c.pointer_at-pointer.result.page c.pointer_at-pointer.ensures.flags.0 c.pointer_at-pointer.ensures.page.0 c.requires.2 (λ e. omega arith) (λ e. omega arith)
