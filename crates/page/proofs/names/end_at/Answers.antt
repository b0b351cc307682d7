-- `page::names::end_at` meets its contract. Assumes nothing.
use mathlib.Core.Path.{sym, subst}
use Prim.Native.Nat.{ℕ, ◌<◌}
use native.Mathlib.Omega.{arith}
use Rattle.book.specs.Words.{vol}
use Rattle.book.specs.Names.{ends}
use Rattle.laws.specs.File.Stored.{end-at}
use Rattle.page.proofs.Deciding.{told}
use Rattle.page.proofs.names.end_at.Goals as goal

pub returns-then-ends_name : goal.returns-then-ends_name
returns-then-ends_name c = sym (end-at c.args.n (vol c.args.img.now c.args.p) c.args.k c.loop-i.i (omega arith) c.loop-i.invariant (λ h. subst (λ (x : ℕ). 0 < ends x) c.byte_at.ensures (told c.ends_name.result _ c.ends_name.ensures c.if-ends_name.true)))

pub returns : goal.returns
returns c = sym (end-at c.args.n (vol c.args.img.now c.args.p) c.args.k c.args.n (omega arith) (λ i h. c.loop-i.invariant i (omega arith)) (λ h. absurd (let r : ⊥ = omega arith in r)))
