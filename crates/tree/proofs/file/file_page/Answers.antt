use mathlib.Core.Path.{refl, sym, ap, ◌∙◌}
use Rattle.book.specs.Words.{vol}
use Rattle.book.specs.Decides.{holds, fails}
use Rattle.book.specs.Trees.{Root, page_at}
use Rattle.tree.proofs.Reach.{reached, reach-same, page-read, none-page}
use Rattle.tree.proofs.Entries.{file-in, file-in-none}
use Rattle.tree.proofs.file.file_page.Goals as goal

pub returns-then-not-entry_used : goal.returns-then-not-entry_used
returns-then-not-entry_used c = let v = vol c.args.img.now in
    reached _ _ c.requires.1 c.args.n _
    (sym (ap (λ (r : Root). page_at v r c.args.n) (file-in-none v c.args.e c.object_page-q.result c.object_page-q.ensures.0
    (fails c.entry_used.result _ c.entry_used.ensures c.if-not-entry_used.true-raw)) ∙ none-page v c.args.n))

pub root_page-requires : goal.root_page-requires
root_page-requires c = let v = vol c.args.img.now in
    reach-same _ _ _ (file-in v c.args.e c.object_page-q.result c.object_page-q.ensures.0
    (holds c.entry_used.result _ c.entry_used.ensures c.if-not-entry_used.false-raw) c.entry_pointer-pointer.result.flags c.entry_pointer-pointer.result.page c.entry_two-count.result
    c.entry_pointer-pointer.ensures.flags.0 c.entry_pointer-pointer.ensures.page.0 c.entry_two-count.ensures.0) c.requires.1

pub returns : goal.returns
returns c = let v = vol c.args.img.now in (
  page-read v _ _ _ _ _ (file-in v c.args.e c.object_page-q.result c.object_page-q.ensures.0
      (holds c.entry_used.result _ c.entry_used.ensures c.if-not-entry_used.false-raw) c.entry_pointer-pointer.result.flags c.entry_pointer-pointer.result.page c.entry_two-count.result
      c.entry_pointer-pointer.ensures.flags.0 c.entry_pointer-pointer.ensures.page.0 c.entry_two-count.ensures.0) refl c.root_page.ensures.0,
  c.root_page.ensures.1,
)
