-- `salvage::collect::note_last` meets its contract. Assumes nothing.
use mathlib.Core.Path.{◌≡◌, sym, ap, subst}
use Prim.Native.Nat.{ℕ, ◌+◌, ◌*◌, ◌/◌}
use native.Mathlib.Omega.{arith}
use Rattle.book.specs.Image.{pages}
use Rattle.book.specs.Words.{vol}
use Rattle.salvage.specs.Facts.{BitsRight}
use Rattle.salvage.specs.Row.{RowTells}
use Rattle.salvage.proofs.Collecting.{long, bits_below, last-right, last_word, rest-skip}
use Rattle.salvage.proofs.collect.note_last.Goals as goal

pub returns-then-rest-eq0 : goal.returns-then-rest-eq0
returns-then-rest-eq0 c = rest-skip _ c.requires.0 c.args.b c.requires.3 c.args.p c.requires.4 (c.args.total / 16) (omega (arith, c.requires.2)) (omega (arith, c.requires.2, c.requires.4)) (omega (arith, c.requires.5)) _ _ c.requires.6

pub word_from-requires : goal.word_from-requires
word_from-requires c = omega (arith, long _ c.requires.0, (bits_below _ c.requires.0 c.args.b c.requires.3).1, c.requires.2)

pub bounds-marks-full : goal.bounds-marks-full
bounds-marks-full c = omega (arith, c.requires.1.room, c.requires.2, c.if-rest-eq0.false)

pub note_bit_word-requires : goal.note_bit_word-requires
note_bit_word-requires c =
    let t : c.args.total ≡ pages c.args.img.now = c.requires.2 in
    let f : c.args.total / 16 ≡ pages c.args.img.now / 16 = ap (λ (x : ℕ). x / 16) t in (
      c.requires.0,
      c.requires.3,
      omega (arith, t, c.if-rest-eq0.false),
      subst (λ (k : ℕ). BitsRight c.args.img.now c.args.b k c.joined-x.result) (sym f) (last-right _ c.requires.0 c.args.b c.requires.3 c.args.marks.now c.requires.1 c.joined-x.result
          (last_word c.args.total (pages c.args.img.now) t c.args.marks.now c.joined-x.result c.args.b (vol c.args.img.now) c.word_from.result c.word_from.ensures c.joined-x.ensures)),
      c.requires.6,
    )

pub returns : goal.returns
returns c =
    let e : 1024 * c.args.b + c.args.total / 16 + 1 ≡ 1024 * c.args.b + (c.args.total / 16 + 1) = omega arith in
    rest-skip _ c.requires.0 c.args.b c.requires.3 c.args.p c.requires.4 (c.args.total / 16 + 1) (omega (arith, c.requires.2)) (omega (arith, c.requires.2, c.requires.4)) (omega (arith, c.requires.5)) _ _
    (subst (λ (i : ℕ). RowTells c.args.img.now i c.note_bit_word.new.row c.note_bit_word.result) e c.note_bit_word.ensures)
