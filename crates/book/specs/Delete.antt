-- Deleting clears all 32 words of the entry; a file's pages are freed, a user's given pages go back to unreserved. Assumes nothing.
use Rattle.std.specs.Prelude.{ℕ, ◌+◌, ◌-◌}
use Rattle.book.specs.Pointers.{unreserved_count}
use Rattle.book.specs.Words.{Vol, put2, zeros}
use Rattle.book.specs.Trees.{weigh_r}
use Rattle.book.specs.Bits.{freed}
use Rattle.book.specs.Entries.{user, user_page, object_page, put_entry, given, used_pages, entry_word, file_entry, unreserved}
use Rattle.book.specs.Files.{file_at}
use Rattle.book.specs.Holders.{hit, some}

unfoldable pub delete_file : ℕ → Vol → ℕ → ℕ → Vol
delete_file P v u f =
    let e : ℕ = file_entry u f in
    freed P (put2 (put_entry v (object_page v e) e zeros) (user_page v u) (entry_word u + 16) (used_pages (user v) u - weigh_r v (file_at v e) some)) (λ p. weigh_r v (file_at v e) (hit p))

unfoldable pub delete_user : Vol → ℕ → Vol
delete_user v u = put2 (put_entry v (user_page v u) u zeros) 0 unreserved_count (unreserved v + given (user v) u)
