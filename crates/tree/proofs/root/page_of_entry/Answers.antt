use mathlib.Core.Path.{refl}
use Rattle.book.specs.Words.{vol}
use Rattle.tree.proofs.Reach.{reach-same, root-read, page-read}
use Rattle.tree.proofs.root.page_of_entry.Goals as goal

pub root_page-requires : goal.root_page-requires
root_page-requires c =
    reach-same _ _ _ (root-read (vol c.args.img.now 0) c.args.k 0 c.pointer_at.result.flags c.pointer_at.result.page 0 c.pointer_at.ensures.flags.0 c.pointer_at.ensures.page.0 refl) c.requires.1

pub returns : goal.returns
returns c = (
  page-read (vol c.args.img.now) _ _ _ _ _ (root-read (vol c.args.img.now 0) c.args.k 0 c.pointer_at.result.flags c.pointer_at.result.page 0 c.pointer_at.ensures.flags.0 c.pointer_at.ensures.page.0 refl)
      c.of.ensures.0 c.root_page.ensures.0,
  c.root_page.ensures.1,
)
