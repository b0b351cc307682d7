use mathlib.Core.Path.{sym, ◌∙◌}
use native.Mathlib.Omega.{arith}
use Rattle.salvage.proofs.Collecting.{long, bits_below, bit_is, bit-place}
use Rattle.salvage.proofs.collect.note_bit_word.Goals as goal

pub note_word-requires : goal.note_word-requires
note_word-requires c =
    let l = bits_below _ c.requires.0 c.args.b c.requires.1 in (
      c.requires.0,
      c.requires.4,
      omega (arith, long _ c.requires.0, l.1, c.requires.2),
      bit_is _ c.requires.0 c.args.b c.requires.1 c.args.k c.requires.2 c.args.x c.ranges.x.fits c.requires.3 ∙ sym (bit-place _ c.requires.0 c.args.b c.requires.1 c.args.k),
    )
