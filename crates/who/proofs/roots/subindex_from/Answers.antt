-- `who::roots::subindex_from` meets its contract. Assumes nothing.
use mathlib.Core.Path.{sym}
use Prim.Native.Nat.{ℕ}
use Rattle.book.specs.Trees.{root_by, upto}
use Rattle.who.specs.Turns.{positions, class_page}
use Rattle.who.proofs.Leasts.{least_by, none_zero}
use Rattle.who.proofs.Classes.{sub-two, sub-other}
use Rattle.who.proofs.roots.subindex_from.Goals as goal

pub returns-then-pointer-eq2 : goal.returns-then-pointer-eq2
returns-then-pointer-eq2 c = λ v m. least_by (λ (i : ℕ). upto i 1 c.args.pointer.page) (λ (i : ℕ). class_page v (root_by c.args.pointer.flags c.args.pointer.page m) 0 i) c.args.p c.args.n positions (λ i h. sym (sub-two v c.args.pointer.flags c.args.pointer.page m i c.if-pointer-eq2.true)) c.top_from.result c.top_from.ensures

pub returns : goal.returns
returns c = λ v m. none_zero (λ (i : ℕ). class_page v (root_by c.args.pointer.flags c.args.pointer.page m) 0 i) c.args.p c.args.n positions c.requires.0 (λ i. sub-other v c.args.pointer.flags c.args.pointer.page m i c.if-pointer-eq2.false)
