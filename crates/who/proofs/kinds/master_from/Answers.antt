-- `who::kinds::master_from` meets its contract. Assumes nothing.
use mathlib.Core.Path.{◌≡◌, refl, sym, ◌∙◌, subst}
use Prim.Native.Nat.{ℕ}
use native.Mathlib.Omega.{arith}
use Rattle.book.specs.Words.{vol}
use Rattle.book.specs.Pointers.{page}
use Rattle.book.specs.Trees.{Root, root_at}
use Rattle.tree.proofs.Reach.{reach-same, root-read}
use Rattle.walk.proofs.Short.{short-same}
use Rattle.who.specs.Least.{Least}
use Rattle.who.specs.Turns.{positions, class_page}
use Rattle.who.proofs.Leasts.{none_zero}
use Rattle.who.proofs.Classes.{by-run, by_count, class-none}
use Rattle.who.proofs.kinds.master_from.Goals as goal

pub returns-then-flags-eq0 : goal.returns-then-flags-eq0
returns-then-flags-eq0 c = let v = vol c.args.img.now in let t = page (v 0) c.args.k in (
  none_zero (λ (i : ℕ). class_page v (root_at (v 0) c.args.k 0) c.args.class i) c.args.p c.args.n positions c.requires.0.page
      (λ i. class-none v (root_at (v 0) c.args.k 0) t c.args.class i (root-read (v 0) c.args.k 0 c.flags_at-flags.result t 0 c.flags_at-flags.ensures.0 refl refl ∙ by-run c.flags_at-flags.result t 0 c.if-flags-eq0.true)),
  c.requires.0,
)

pub class_from-requires : goal.class_from-requires
class_from-requires c = let v = vol c.args.img.now in
    let same = root-read (v 0) c.args.k 0 c.flags_at-flags.result c.page_at-top.result 0 c.flags_at-flags.ensures.0 c.page_at-top.ensures.0 refl ∙ by_count c.flags_at-flags.result c.page_at-top.result 0 c.args.count c.if-flags-eq0.false in
    (c.requires.0, c.requires.1, reach-same _ _ _ same c.requires.3, short-same v _ _ c.args.count same c.requires.4, c.requires.5, omega (arith, c.if-flags-eq0.false))

pub returns : goal.returns
returns c = let v = vol c.args.img.now in
    let same = root-read (v 0) c.args.k 0 c.flags_at-flags.result c.page_at-top.result 0 c.flags_at-flags.ensures.0 c.page_at-top.ensures.0 refl ∙ by_count c.flags_at-flags.result c.page_at-top.result 0 c.args.count c.if-flags-eq0.false in
    (subst (λ (r : Root). Least (λ (i : ℕ). class_page v r c.args.class i ≡ c.args.p) c.args.n positions c.class_from.result) (sym same) c.class_from.ensures.0, c.class_from.ensures.1)
