use native.Mathlib.Omega.{arith}
use Rattle.book.specs.Entries.{object_file, object_page}
use Rattle.tree.proofs.root.object_page.Goals as goal

pub page_of_entry-requires : goal.page_of_entry-requires
unfolding object_file
page_of_entry-requires c = (omega arith, c.requires)

pub returns : goal.returns
unfolding object_page object_file
returns c = c.page_of_entry.ensures
