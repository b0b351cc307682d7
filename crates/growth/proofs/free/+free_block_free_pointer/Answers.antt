-- `growth::free::free_block`, `growth::free::free_pointer` meet their contracts. Assumes nothing.
use mathlib.Core.Path.{refl, ◌∙◌}
use Prim.Native.Nat.{◌-◌}
use native.Mathlib.Omega.{arith}
use Rattle.book.specs.Words.{vol}
use Rattle.book.specs.Holders.{hit}
use Rattle.growth.proofs.Walks.{slots_of, apart-top, freeing-bits, freeing-next, clear-is, apart-under, slots-none, slots-more, slots_apart, pointer_none, pointer-page, pointer-block}
use Rattle.growth.proofs.free.+free_block_free_pointer.Goals as goal

pub free_block-loop-i-init : goal.free_block-loop-i-init
free_block-loop-i-init t c =
    (refl, slots-none c.args.img.now c.args.b c.requires.0 c.args.level c.args.t)

pub free_block-slot_at-d-requires : goal.free_block-slot_at-d-requires
free_block-slot_at-d-requires t c =
    (omega (arith, apart-top _ _ _ _ _ c.requires.1), c.loop-i-test.true)

pub free_block-free_pointer-requires : goal.free_block-free_pointer-requires
free_block-free_pointer-requires t c =
    let g = slots_of (vol c.args.img.now) c.args.level c.args.t c.loop-i.i in (
      omega arith,
      (
        freeing-next c.args.img.now c.args.b c.requires.0 c.loop-i.img g c.loop-i.invariant.0 c.loop-i.invariant.1,
        slots_apart c.args.img.now c.args.b c.requires.0 c.loop-i.img g c.loop-i.invariant.0 c.loop-i.invariant.1 c.args.level c.args.t c.loop-i.i c.requires.1 c.loop-i-test.true _ c.slot_at-d.ensures.0,
      ),
    )

pub free_block-loop-i-preserved : goal.free_block-loop-i-preserved
free_block-loop-i-preserved t c =
    let g = slots_of (vol c.args.img.now) c.args.level c.args.t c.loop-i.i in (
      c.free_pointer.auto.img ∙ c.loop-i.invariant.0,
      slots-more c.args.img.now c.args.b c.requires.0 c.loop-i.img g c.loop-i.invariant.0 c.loop-i.invariant.1 c.args.level c.args.t c.loop-i.i c.requires.1 c.loop-i-test.true (λ p. refl)
          c.slot_at-d.result c.slot_at-d.ensures.0 _ c.free_pointer.ensures,
    )

pub free_pointer-returns-then-t-eq0 : goal.free_pointer-returns-then-t-eq0
free_pointer-returns-then-t-eq0 t c =
    pointer_none c.args.img.now c.args.b c.requires.0 c.args.level c.args.t c.if-t-eq0.true

pub free_pointer-clear-requires : goal.free_pointer-clear-requires
free_pointer-clear-requires t c =
    omega (arith, (freeing-bits c.args.img.now c.args.b c.requires.0).fits, apart-top _ _ _ _ _ c.requires.1)

pub free_pointer-returns-then-level-eq0 : goal.free_pointer-returns-then-level-eq0
free_pointer-returns-then-level-eq0 t c =
    pointer-page c.args.img.now c.args.b c.requires.0 _ c.args.level c.args.t c.if-level-eq0.true
    (clear-is c.args.img.now c.args.b c.requires.0 _ c.args.t (omega arith) (apart-top _ _ _ _ _ c.requires.1) c.clear.ensures)

pub free_pointer-free_block-requires : goal.free_pointer-free_block-requires
free_pointer-free_block-requires t c =
    let i = clear-is c.args.img.now c.args.b c.requires.0 _ c.args.t (omega arith) (apart-top _ _ _ _ _ c.requires.1) c.clear.ensures in (
      omega arith,
      (
        freeing-next c.args.img.now c.args.b c.requires.0 _ (λ p. hit p c.args.t) c.clear.auto.img i,
        apart-under c.args.img.now c.args.b c.requires.0 _ (λ p. hit p c.args.t) c.clear.auto.img i c.args.level (c.args.level - 1) c.args.t (omega arith) c.requires.1,
      ),
    )

pub free_pointer-returns : goal.free_pointer-returns
free_pointer-returns t c =
    pointer-block c.args.img.now c.args.b c.requires.0 _ (λ p. hit p c.args.t) c.clear.auto.img
    (clear-is c.args.img.now c.args.b c.requires.0 _ c.args.t (omega arith) (apart-top _ _ _ _ _ c.requires.1) c.clear.ensures)
    c.args.level (c.args.level - 1) c.args.t (omega arith) c.requires.1 (λ p. refl) _ c.free_block.ensures
