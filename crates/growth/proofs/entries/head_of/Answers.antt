-- `growth::entries::head_of` meets its contract. Assumes nothing.
use mathlib.Core.Path.{ap, ◌∙◌}
use Rattle.book.specs.Words.{Words, vol, two}
use Rattle.book.specs.Pointers.{flags, page}
use Rattle.book.specs.Entries.{file_entry, used_pages}
use Rattle.tree.proofs.Entries.{user-in}
use Rattle.growth.proofs.Entered.{entry-at, entry-words}
use Rattle.tree.proofs.Ready.{ready-users, ready-objects}
use Rattle.growth.proofs.entries.head_of.Goals as goal

pub user_page-owner-requires : goal.user_page-owner-requires
user_page-owner-requires c = ready-users _ c.requires.0

pub object_page-entry-requires : goal.object_page-entry-requires
object_page-entry-requires c = ready-objects _ c.requires.0

pub returns : goal.returns
unfolding used_pages
returns c =
    let w = entry-words (vol c.args.img.now) (file_entry c.args.u c.args.f) c.entry_number-e.result c.object_page-entry.result c.entry_number-e.ensures.0 c.object_page-entry.ensures.0 in
    record {
      owner_at = c.user_page-owner.ensures.0;
      owner_in = c.user_page-owner.ensures.1;
      entry_at = entry-at (vol c.args.img.now) (file_entry c.args.u c.args.f) c.entry_number-e.result c.object_page-entry.result c.entry_number-e.ensures.0 c.object_page-entry.ensures.0;
      entry_in = c.object_page-entry.ensures.1;
      bits_at = c.bit_page-bits.ensures;
      kind = c.entry_pointer-pointer.ensures.flags.0 ∙ ap (λ (x : Words). flags x 30) w;
      top_at = c.entry_pointer-pointer.ensures.page.0 ∙ ap (λ (x : Words). page x 30) w;
      length = c.entry_two-count.ensures.0 ∙ ap (λ (x : Words). two x 26) w;
      spent = c.entry_two-used.ensures.0 ∙ ap (λ (x : Words). two x 16) (user-in (vol c.args.img.now) c.args.u c.user_page-owner.result c.user_page-owner.ensures.0);
    }
