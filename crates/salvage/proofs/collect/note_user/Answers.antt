use mathlib.Core.Path.{◌≡◌, sym, ap, ◌∙◌, subst}
use Prim.Native.Nat.{ℕ, ◌+◌, ◌*◌}
use native.Mathlib.Omega.{arith}
use Rattle.book.specs.Calls.{salvaged}
use Rattle.book.specs.Decides.{holds, fails}
use Rattle.book.specs.Entries.{entry_word}
use Rattle.book.specs.Salvage.{word_at}
use Rattle.salvage.specs.Row.{RowTells}
use Rattle.salvage.proofs.Collecting.{long, unused-skip, before-count, after-count, count-words}
use Rattle.salvage.proofs.collect.note_user.Goals as goal

pub returns-then-not-entry_used : goal.returns-then-not-entry_used
returns-then-not-entry_used c = unused-skip _ c.requires.0 c.args.q c.args.u c.requires.2 c.requires.3 c.requires.5 (fails c.entry_used.result _ c.entry_used.ensures c.if-not-entry_used.true-raw) _ _ c.requires.6

pub overflow_mul-q : goal.overflow_mul-q
overflow_mul-q c = omega (arith, c.requires.4, c.requires.0.good.whole.most)

pub overflow_add-q : goal.overflow_add-q
overflow_add-q c = omega (arith, c.requires.4, c.requires.0.good.whole.most, c.of-first.ensures.1)

pub overflow_add-q-2 : goal.overflow_add-q-2
overflow_add-q-2 c = omega (arith, c.requires.4, c.requires.0.good.whole.most, c.of-first.ensures.1)

pub offset_bounds-counts-u : goal.offset_bounds-counts-u
offset_bounds-counts-u c = omega (arith, c.requires.2)

pub bounds-counts-u : goal.bounds-counts-u
bounds-counts-u c = omega (arith, c.requires.2)

pub note_two-requires : goal.note_two-requires
note_two-requires c =
    let e : c.of-first.result.word ≡ entry_word c.args.u = c.of-first.ensures.1 in
    let w = count-words c.args.img.now c.requires.0 c.args.q c.args.u c.requires.2 c.requires.3 c.requires.5 (holds c.entry_used.result _ c.entry_used.ensures c.if-not-entry_used.false-raw) _ (c.requires.1.right c.args.u c.requires.2) in (
      c.requires.0,
      subst (λ (k : ℕ). RowTells c.args.img.now (1024 * c.args.q + k + 16) c.args.row.now c.args.n) (sym e) (before-count c.args.img.now c.requires.0 c.args.q c.args.u c.requires.2 c.requires.3 c.requires.5 _ _ c.requires.6),
      omega (arith, long c.args.img.now c.requires.0, c.requires.4, e),
      w.0 ∙ ap (λ (k : ℕ). word_at (salvaged c.args.img.now) (1024 * c.args.q + k + 16)) (sym e),
      w.1 ∙ ap (λ (k : ℕ). word_at (salvaged c.args.img.now) (1024 * c.args.q + k + 16 + 1)) (sym e),
    )

pub returns : goal.returns
returns c =
    after-count c.args.img.now c.requires.0 c.args.q c.args.u c.requires.2 c.requires.3 c.requires.5 _ _
    (subst (λ (k : ℕ). RowTells c.args.img.now (1024 * c.args.q + k + 16 + 2) c.note_two.new.row c.note_two.result) c.of-first.ensures.1 c.note_two.ensures)
