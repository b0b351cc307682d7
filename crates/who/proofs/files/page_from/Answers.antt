-- `who::files::page_from` meets its contract. Assumes nothing.
use mathlib.Core.Path.{◌≡◌, sym, ◌∙◌}
use Prim.Native.Nat.{ℕ, ◌+◌, ◌*◌, ◌/◌, ◌<◌}
use native.Mathlib.Omega.{arith}
use Rattle.book.specs.Words.{vol}
use Rattle.book.specs.Files.{file_at}
use Rattle.who.specs.Turns.{positions, class_page, file_page}
use Rattle.who.proofs.Leasts.{part_at, part_none}
use Rattle.who.proofs.Filing.{file-turn, entry-at, page-absent}
use Rattle.who.proofs.files.page_from.Goals as goal

pub returns-then-q-eq0 : goal.returns-then-q-eq0
returns-then-q-eq0 c = (page-absent (vol c.args.img.now) c.args.p c.args.class c.args.x c.args.i c.requires.0.page c.args.q c.requires.4 c.if-q-eq0.true c.requires.6, c.requires.0)

pub entry_from-requires : goal.entry_from-requires
entry_from-requires c =
    let h : c.loop-e.e / 32 ≡ c.args.i = omega (arith, c.loop-e.auto.e, c.requires.6) in
    (c.loop-e.invariant.search, c.requires.1, c.requires.2, omega (arith, c.requires.3), entry-at (vol c.args.img.now) c.args.q c.args.i c.loop-e.e c.requires.4 h, c.requires.5, omega (arith, c.loop-e.invariant.part))

pub returns-in-Some : goal.returns-in-Some
returns-in-Some c =
    let v = vol c.args.img.now in let e = c.loop-e.e in
    let into : (j : ℕ) → j < positions → file_page v c.args.class (positions * e + j) ≡ c.args.p → class_page v (file_at v e) c.args.class j ≡ c.args.p = λ j h q. sym (file-turn v c.args.class e j h) ∙ q in (
      part_at (λ (k : ℕ). file_page v c.args.class k ≡ c.args.p) (λ (k : ℕ). class_page v (file_at v e) c.args.class k ≡ c.args.p) (positions * e) c.loop-e.from positions c.args.x into
          c.in-Some.k c.loop-e.invariant.none c.in-Some.ensures.0 (8388608 * c.args.i + 8388608) c.loop-e.invariant.on (omega arith) (λ q. file-turn v c.args.class e c.in-Some.k c.in-Some.ensures.0.to ∙ q),
      c.in-Some.ensures.1,
    )

pub loop-e-preserved : goal.loop-e-preserved
loop-e-preserved c =
    let v = vol c.args.img.now in let e = c.loop-e.e in
    let into : (j : ℕ) → j < positions → file_page v c.args.class (positions * e + j) ≡ c.args.p → class_page v (file_at v e) c.args.class j ≡ c.args.p = λ j h q. sym (file-turn v c.args.class e j h) ∙ q in
    record {
      part = omega arith;
      on = omega (arith, c.loop-e.invariant.on, c.loop-e.invariant.part);
      none = part_none (λ (k : ℕ). file_page v c.args.class k ≡ c.args.p) (λ (k : ℕ). class_page v (file_at v e) c.args.class k ≡ c.args.p) (positions * e) c.loop-e.from positions c.args.x into
          (positions * (e + 1) + 0) (omega arith) c.loop-e.invariant.none c.in_default.ensures.0;
      search = c.in_default.ensures.1;
      kept = omega arith;
      kept_tops = omega arith;
    }
