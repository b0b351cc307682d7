use Rattle.std.proofs.Common.{◌<◌, rules}
use Rattle.book.specs.Image.{pages}
use Rattle.book.specs.Words.{vol}
use Rattle.book.specs.Entries.{used}
use Rattle.tree.specs.Reach.{entry_in}
use Rattle.tree.proofs.Entries.{file-in-none}
use Rattle.walk.proofs.Entries.{read-file, read_short, walked-root, walked_empty}
use Rattle.walk.proofs.Holding.{below-same}
use Rattle.walk.proofs.files.mark_entry.Goals as goal

pub returns-then-not-entry_used : goal.returns-then-not-entry_used
returns-then-not-entry_used c = let v = vol c.args.img.now in let P = pages c.args.img.now in
    walked_empty P c.args.marks.now c.args.visited v _ (file-in-none v c.args.e c.args.q c.requires.3 (search rules))

pub mark_root-requires : goal.mark_root-requires
mark_root-requires c = let v = vol c.args.img.now in let P = pages c.args.img.now in
    let u : 0 < used (entry_in v c.args.q c.args.e) = search rules in (
      c.requires.0,
      below-same v P _ _ (read-file v c.args.e c.args.q c.requires.3 u c.entry_pointer-pointer.result.flags c.entry_pointer-pointer.result.page c.entry_two-count.result c.entry_pointer-pointer.ensures.flags.0 c.entry_pointer-pointer.ensures.page.0 c.entry_two-count.ensures.0) (c.requires.1.below c.args.e c.requires.2),
      read_short v c.args.e c.args.q c.requires.3 u c.entry_pointer-pointer.result.flags c.entry_pointer-pointer.result.page c.entry_two-count.result c.entry_pointer-pointer.ensures.flags.0 c.entry_pointer-pointer.ensures.page.0 c.entry_two-count.ensures.0 (c.requires.1.short c.args.e c.requires.2),
    )

pub returns : goal.returns
returns c = let v = vol c.args.img.now in let P = pages c.args.img.now in
    let u : 0 < used (entry_in v c.args.q c.args.e) = search rules in
    walked-root P c.args.marks.now c.args.visited v _ _ (read-file v c.args.e c.args.q c.requires.3 u c.entry_pointer-pointer.result.flags c.entry_pointer-pointer.result.page c.entry_two-count.result c.entry_pointer-pointer.ensures.flags.0 c.entry_pointer-pointer.ensures.page.0 c.entry_two-count.ensures.0) c.mark_root.new.marks c.mark_root.result c.mark_root.ensures
