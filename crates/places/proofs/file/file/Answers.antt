use Rattle.places.proofs.Filed.{bytes-wrong, pointer-wrong, file-found}
use Rattle.book.specs.Decides.{holds, fails}
use mathlib.Core.Path.{refl}
use Rattle.places.proofs.file.file.Goals as goal

pub returns-then-not-bytes_ok : goal.returns-then-not-bytes_ok
returns-then-not-bytes_ok c = bytes-wrong c.args.img.now c.args.total c.args.q c.args.e c.requires _ _ c.entry_two-n.result c.entry_two.result refl refl c.entry_two-n.ensures.0 c.entry_two.ensures.0 _ c.place_of.ensures (fails c.bytes_ok.result _ c.bytes_ok.ensures c.if-not-bytes_ok.true-raw)

pub returns-then-not-pointer_ok : goal.returns-then-not-pointer_ok
returns-then-not-pointer_ok c =
    pointer-wrong c.args.img.now c.args.total c.args.q c.args.e c.requires c.entry_pointer-pointer.result.flags c.entry_pointer-pointer.result.page c.entry_two-n.result c.entry_two.result c.entry_pointer-pointer.ensures.flags.0 c.entry_pointer-pointer.ensures.page.0 c.entry_two-n.ensures.0 c.entry_two.ensures.0
    (holds c.bytes_ok.result _ c.bytes_ok.ensures c.if-not-bytes_ok.false-raw) _ c.place_of-then-not-pointer_ok.ensures (fails c.pointer_ok.result _ c.pointer_ok.ensures c.if-not-pointer_ok.true-raw)

pub returns : goal.returns
returns c =
    file-found c.args.img.now c.args.total c.args.q c.args.e c.requires c.entry_pointer-pointer.result.flags c.entry_pointer-pointer.result.page c.entry_two-n.result c.entry_two.result c.entry_pointer-pointer.ensures.flags.0 c.entry_pointer-pointer.ensures.page.0 c.entry_two-n.ensures.0 c.entry_two.ensures.0
    (holds c.bytes_ok.result _ c.bytes_ok.ensures c.if-not-bytes_ok.false-raw) (holds c.pointer_ok.result _ c.pointer_ok.ensures c.if-not-pointer_ok.false-raw) c.blocks-2.result c.blocks-2.ensures
