use Rattle.places.proofs.Steps.{none₂, same₂, from-marks, from-index, root-run, root-one, root-two, root-wrong}
use Rattle.laws.specs.Tree.Positions.{root_below, run-below}
use Rattle.book.specs.Trees.{Below}
use Rattle.book.specs.Image.{pages}
use Rattle.book.specs.Words.{vol}
use Rattle.book.specs.Holders.{hit}
use native.Mathlib.Omega.{arith}
use Rattle.places.proofs.meet.meet_root.Goals as goal

pub meet_run-requires : goal.meet_run-requires
meet_run-requires c = let P = pages c.args.img.now in let v = vol c.args.img.now in
    (c.requires.0, omega (arith, c.requires.1.few, run-below v P c.args.pointer.flags c.args.pointer.page c.args.count c.requires.3 c.if-pointer-eq0.true))

pub returns-then-pointer-eq0 : goal.returns-then-pointer-eq0
returns-then-pointer-eq0 c = let P = pages c.args.img.now in let v = vol c.args.img.now in
    same₂ P v _ _ _ _ c.requires.1.size c.requires.2 _ _ (λ p. root-run v c.args.pointer.page c.args.count (hit p) c.args.pointer.flags c.if-pointer-eq0.true) _ _ _ _ (from-marks P v _ _ _ _ c.requires.1.size c.requires.2 _ _ _ c.meet_run.ensures)

pub meet_index-requires : goal.meet_index-requires
unfolding Below
meet_index-requires c = let P = pages c.args.img.now in let v = vol c.args.img.now in
    (c.requires.0, c.requires.1, (root_below v P c.args.pointer.flags c.args.pointer.page c.args.count c.requires.3 0 c.if-pointer-eq-INDEXED.true (omega arith)).0)

pub returns-then-pointer-eq-INDEXED : goal.returns-then-pointer-eq-INDEXED
returns-then-pointer-eq-INDEXED c = let P = pages c.args.img.now in let v = vol c.args.img.now in
    same₂ P v _ _ _ _ c.requires.1.size c.requires.2 _ _ (λ p. root-one v c.args.pointer.page c.args.count (hit p) c.args.pointer.flags c.if-pointer-eq-INDEXED.true) _ _ _ _ (from-index P v _ _ _ _ c.requires.1.size c.requires.2 _ _ _ _ c.meet_index.ensures)

pub meet_subindex-requires : goal.meet_subindex-requires
meet_subindex-requires c = let P = pages c.args.img.now in let v = vol c.args.img.now in
    (c.requires.0, c.requires.1, c.requires.2, root_below v P c.args.pointer.flags c.args.pointer.page c.args.count c.requires.3 1 c.if-pointer-eq-SUBINDEXED.true (omega arith))

pub returns-then-pointer-eq-SUBINDEXED : goal.returns-then-pointer-eq-SUBINDEXED
returns-then-pointer-eq-SUBINDEXED c = let P = pages c.args.img.now in let v = vol c.args.img.now in
    same₂ P v _ _ _ _ c.requires.1.size c.requires.2 _ _ (λ p. root-two v c.args.pointer.page c.args.count (hit p) c.args.pointer.flags c.if-pointer-eq-SUBINDEXED.true) _ _ _ _ c.meet_subindex.ensures

pub returns : goal.returns
returns c = let P = pages c.args.img.now in let v = vol c.args.img.now in
    none₂ P v _ _ _ _ c.requires.1.size c.requires.2 c.requires.0 _ (λ p. root-wrong v c.args.pointer.page c.args.count (hit p) c.args.pointer.flags c.if-pointer-eq0.false c.if-pointer-eq-INDEXED.false c.if-pointer-eq-SUBINDEXED.false)
