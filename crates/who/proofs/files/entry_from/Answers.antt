-- `who::files::entry_from` meets its contract. Assumes nothing.
use mathlib.Core.Path.{◌≡◌, sym, subst}
use Prim.Native.Nat.{ℕ}
use native.Mathlib.Omega.{arith}
use Rattle.book.specs.Words.{vol}
use Rattle.book.specs.Trees.{Root}
use Rattle.book.specs.Files.{file_at}
use Rattle.book.specs.Decides.{holds, fails}
use Rattle.laws.specs.Tree.Positions.{run-below}
use Rattle.tree.proofs.Reach.{reach-same}
use Rattle.tree.proofs.Entries.{file-in, file-in-none}
use Rattle.walk.proofs.Entries.{read_short}
use Rattle.who.specs.Least.{Least}
use Rattle.who.specs.Turns.{positions, class_page}
use Rattle.who.proofs.Leasts.{none_zero}
use Rattle.who.proofs.Classes.{class-none}
use Rattle.who.proofs.Filing.{reach-file, plain-file, run-file}
use Rattle.who.proofs.files.entry_from.Goals as goal

pub returns-then-not-may_have : goal.returns-then-not-may_have
returns-then-not-may_have c = let v = vol c.args.img.now in (
  none_zero (λ (k : ℕ). class_page v (file_at v c.args.e) c.args.class k) c.args.p c.args.n positions c.requires.0.page
      (λ k. plain-file v c.args.e c.args.q c.requires.4 c.entry_flags-flags.result c.entry_flags-flags.ensures.0 c.args.class k (fails c.may_have.result _ c.may_have.ensures c.if-not-may_have.true-raw)),
  c.requires.0,
)

pub returns-then-not-entry_used : goal.returns-then-not-entry_used
returns-then-not-entry_used c = let v = vol c.args.img.now in (
  none_zero (λ (k : ℕ). class_page v (file_at v c.args.e) c.args.class k) c.args.p c.args.n positions c.requires.0.page
      (λ k. class-none v (file_at v c.args.e) 0 c.args.class k (file-in-none v c.args.e c.args.q c.requires.4 (fails c.entry_used.result _ c.entry_used.ensures c.if-not-entry_used.true-raw))),
  c.requires.0,
)

pub run_from-requires : goal.run_from-requires
run_from-requires c =
    let v = vol c.args.img.now in
    let u = holds c.entry_used.result _ c.entry_used.ensures c.if-not-entry_used.false-raw in
    let same = file-in v c.args.e c.args.q c.requires.4 u c.entry_flags-flags.result c.entry_page-top.result c.entry_two-count.result c.entry_flags-flags.ensures.0 c.entry_page-top.ensures.0 c.entry_two-count.ensures.0 in
    (c.requires.0.page, c.requires.6, omega (arith, run-below v _ c.entry_flags-flags.result c.entry_page-top.result c.entry_two-count.result (reach-same _ _ _ same (reach-file _ c.requires.1 c.args.e c.requires.3)).below c.if-flags-eq0.true, c.requires.0.few))

pub returns-then-flags-eq0 : goal.returns-then-flags-eq0
returns-then-flags-eq0 c =
    let v = vol c.args.img.now in
    let u = holds c.entry_used.result _ c.entry_used.ensures c.if-not-entry_used.false-raw in
    let same = file-in v c.args.e c.args.q c.requires.4 u c.entry_flags-flags.result c.entry_page-top.result c.entry_two-count.result c.entry_flags-flags.ensures.0 c.entry_page-top.ensures.0 c.entry_two-count.ensures.0 in
    (run-file v c.args.e c.entry_flags-flags.result c.entry_page-top.result c.entry_two-count.result c.args.class same c.if-flags-eq0.true c.requires.2 (holds c.may_have.result _ c.may_have.ensures c.if-not-may_have.false-raw) c.args.p c.args.n c.run_from.result c.run_from.ensures, c.requires.0)

pub class_from-requires : goal.class_from-requires
class_from-requires c =
    let v = vol c.args.img.now in
    let u = holds c.entry_used.result _ c.entry_used.ensures c.if-not-entry_used.false-raw in
    let same = file-in v c.args.e c.args.q c.requires.4 u c.entry_flags-flags.result c.entry_page-top.result c.entry_two-count.result c.entry_flags-flags.ensures.0 c.entry_page-top.ensures.0 c.entry_two-count.ensures.0 in (
      c.requires.0,
      c.requires.2,
      reach-same _ _ _ same (reach-file _ c.requires.1 c.args.e c.requires.3),
      read_short v c.args.e c.args.q c.requires.4 u c.entry_flags-flags.result c.entry_page-top.result c.entry_two-count.result c.entry_flags-flags.ensures.0 c.entry_page-top.ensures.0 c.entry_two-count.ensures.0 (c.requires.1.short.files c.args.e c.requires.3),
      c.requires.6,
      omega (arith, c.if-flags-eq0.false),
    )

pub returns : goal.returns
returns c =
    let v = vol c.args.img.now in
    let u = holds c.entry_used.result _ c.entry_used.ensures c.if-not-entry_used.false-raw in
    let same = file-in v c.args.e c.args.q c.requires.4 u c.entry_flags-flags.result c.entry_page-top.result c.entry_two-count.result c.entry_flags-flags.ensures.0 c.entry_page-top.ensures.0 c.entry_two-count.ensures.0 in
    (subst (λ (r : Root). Least (λ (k : ℕ). class_page v r c.args.class k ≡ c.args.p) c.args.n positions c.class_from.result) (sym same) c.class_from.ensures.0, c.class_from.ensures.1)
