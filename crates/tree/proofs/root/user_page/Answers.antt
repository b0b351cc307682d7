use native.Mathlib.Omega.{arith}
use Rattle.book.specs.Entries.{user_file, user_page}
use Rattle.tree.proofs.root.user_page.Goals as goal

pub page_of_entry-requires : goal.page_of_entry-requires
unfolding user_file
page_of_entry-requires c = (omega arith, c.requires)

pub returns : goal.returns
unfolding user_page user_file
returns c = c.page_of_entry.ensures
