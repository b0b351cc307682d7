use mathlib.Core.Path.{◌≡◌, subst}
use Prim.Native.Nat.{ℕ, ◌+◌, ◌*◌}
use native.Mathlib.Omega.{arith}
use Rattle.book.specs.Decides.{holds, fails}
use Rattle.book.specs.Entries.{entry, user}
use Rattle.book.specs.Trees.{root_by}
use Rattle.book.specs.Words.{vol}
use Rattle.heads.specs.Fine.{FileFine}
use Rattle.heads.specs.Span.{Span, span-by, span-join, span-part}
use Rattle.places.proofs.objects.each_right.Goals as goal

pub loop-i-init : goal.loop-i-init
loop-i-init c = span-by _ _ _ (λ x h l. absurd (let z : ⊥ = omega arith in z))

pub returns-then-not-page_ok : goal.returns-then-not-page_ok
returns-then-not-page_ok c = λ s. fails c.page_ok.result _ c.page_ok.ensures c.if-not-page_ok.true-raw (span-part _ c.args.base _ _ (c.args.base + 256) (omega arith) (omega arith) s)

pub loop-i-preserved : goal.loop-i-preserved
loop-i-preserved c = let v = vol c.args.img.now in let e : c.args.base + 32 * c.loop-i.i + 32 ≡ c.args.base + 32 * (c.loop-i.i + 1) = omega arith in
    subst (λ (z : ℕ). Span (FileFine (user v) (entry v (root_by c.args.pointer.flags c.args.pointer.page 0))) c.args.base z) e (span-join _ _ _ _ c.loop-i.invariant (holds c.page_ok.result _ c.page_ok.ensures c.if-not-page_ok.false-raw))
