-- `who::kinds::system_from` meets its contract. Assumes nothing.
use Prim.Native.Nat.{ℕ}
use native.Mathlib.Omega.{arith}
use Rattle.book.specs.Words.{vol}
use Rattle.book.specs.Image.{pages}
use Rattle.who.specs.Turns.{positions, kind_page}
use Rattle.who.proofs.Leasts.{none_zero}
use Rattle.who.proofs.Filing.{reach-users, reach-objects, short-users, short-objects}
use Rattle.who.proofs.ByKind.{kind-bits, kind-index, kind-users, kind-objects, kind-low}
use Rattle.who.proofs.kinds.system_from.Goals as goal

pub returns-then-kind-lt2 : goal.returns-then-kind-lt2
returns-then-kind-lt2 c = let P = pages c.args.img.now in let v = vol c.args.img.now in
    (none_zero (λ (i : ℕ). kind_page P v c.args.kind i) c.args.p c.args.n positions c.requires.0.page (λ i. kind-low P v c.args.kind i c.if-kind-lt2.true), c.requires.0)

pub returns-then-kind-eq2 : goal.returns-then-kind-eq2
returns-then-kind-eq2 c = (kind-bits (pages c.args.img.now) (vol c.args.img.now) c.args.p c.args.n positions c.bits_from.result c.args.kind c.if-kind-eq2.true c.bits_from.ensures, c.requires.0)

pub returns-then-kind-eq3 : goal.returns-then-kind-eq3
returns-then-kind-eq3 c = (kind-index (pages c.args.img.now) (vol c.args.img.now) c.args.p c.args.n positions c.user_index_from.result c.args.kind c.if-kind-eq3.true c.user_index_from.ensures.0, c.user_index_from.ensures.1)

pub master_from-requires : goal.master_from-requires
master_from-requires c = (c.requires.0, omega arith, omega arith, reach-users _ c.requires.1, short-users _ c.requires.1, c.requires.3)

pub returns-then-kind-eq4 : goal.returns-then-kind-eq4
returns-then-kind-eq4 c = (kind-users (pages c.args.img.now) (vol c.args.img.now) c.args.p c.args.n positions c.master_from.result c.args.kind c.if-kind-eq4.true c.master_from.ensures.0, c.master_from.ensures.1)

pub master_from-requires-2 : goal.master_from-requires-2
master_from-requires-2 c = (c.requires.0, omega (arith, c.requires.2), omega arith, reach-objects _ c.requires.1, short-objects _ c.requires.1, c.requires.3)

pub returns : goal.returns
returns c = (kind-objects (pages c.args.img.now) (vol c.args.img.now) c.args.p c.args.n positions c.master_from-2.result c.args.kind (omega arith) c.requires.2 c.master_from-2.ensures.0, c.master_from-2.ensures.1)
