use mathlib.Core.Path.{ap, ◌∙◌}
use Rattle.book.specs.Image.{pages}
use Rattle.book.specs.Words.{vol}
use Rattle.book.specs.Bits.{bit_pages}
use Rattle.walk.proofs.Holding.{bits_below, walked-bits}
use Rattle.walk.proofs.volume.mark_bits.Goals as goal

pub mark_each-requires : goal.mark_each-requires
mark_each-requires c = let v = vol c.args.img.now in let P = pages c.args.img.now in
    (c.requires.0, bits_below P v c.page_at-start.result c.bit_pages.result c.page_at-start.ensures.0 (c.bit_pages.ensures ∙ ap bit_pages c.requires.2) c.requires.1.within.bits)

pub returns : goal.returns
returns c = let v = vol c.args.img.now in let P = pages c.args.img.now in
    walked-bits P v c.page_at-start.result c.bit_pages.result c.page_at-start.ensures.0 (c.bit_pages.ensures ∙ ap bit_pages c.requires.2)
    c.args.marks.now c.args.visited c.mark_each.new.marks c.mark_each.result c.mark_each.ensures
