-- `who::files::files_from` meets its contract. Assumes nothing.
use mathlib.Core.Path.{refl}
use native.Mathlib.Omega.{arith}
use Rattle.book.specs.Words.{vol}
use Rattle.book.specs.Entries.{object_file}
use Rattle.tree.proofs.Reach.{reach-same, page-read, object-root}
use Rattle.who.proofs.Filing.{reach-objects, files-end}
use Rattle.who.proofs.files.files_from.Goals as goal

pub root_page-q-requires : goal.root_page-q-requires
unfolding object_file
root_page-q-requires c = let v = vol c.args.img.now in
    reach-same _ _ _ (object-root v c.pointer_at-pointer.result.flags c.pointer_at-pointer.result.page c.pointer_at-pointer.ensures.flags.0 c.pointer_at-pointer.ensures.page.0) (reach-objects _ c.requires.1)

pub page_from-requires : goal.page_from-requires
page_from-requires c = let v = vol c.args.img.now in
    let same = object-root v c.pointer_at-pointer.result.flags c.pointer_at-pointer.result.page c.pointer_at-pointer.ensures.flags.0 c.pointer_at-pointer.ensures.page.0 in
    (c.loop-i.invariant.search, c.requires.1, c.requires.3, omega (arith, c.requires.2.most), page-read v (object_file v) _ _ _ _ same refl c.root_page-q.ensures.0, c.root_page-q.ensures.1, c.loop-i.invariant.first, c.loop-i.invariant.last)

pub returns : goal.returns
returns c = (files-end c.args.img.now c.args.ends c.args.p c.args.class c.args.x c.loop-i.from c.requires.0.page c.requires.2 (omega (arith, c.loop-i.invariant.first)) c.loop-i.invariant.none, c.loop-i.invariant.search)
