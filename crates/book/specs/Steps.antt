-- Steps that change few words: give, take, write a page, note an open. Assumes nothing.
use Rattle.std.specs.Prelude.{List, ℕ, ◌+◌, ◌-◌, get_or}
use Rattle.book.specs.Pointers.{unreserved_count}
use Rattle.book.specs.Words.{Vol, put, put2, put_words}
use Rattle.book.specs.Trees.{page_at}
use Rattle.book.specs.Entries.{user, object, given, unreserved, user_page, object_page, entry_word, opens, one_more}
use Rattle.book.specs.Files.{file_at}

-- user u's given pages become g, and unreserved s
unfoldable pub moved : Vol → ℕ → ℕ → ℕ → Vol
moved v u g s = put2 (put2 v (user_page v u) (entry_word u + 14) g) 0 unreserved_count s

-- give moves n pages from unreserved to the user's given pages; take moves them back
abbrev pub give_step : Vol → ℕ → ℕ → Vol
give_step v u n = moved v u (given (user v) u + n) (unreserved v - n)

abbrev pub take_step : Vol → ℕ → ℕ → Vol
take_step v u n = moved v u (given (user v) u - n) (unreserved v + n)

-- a write replaces the 1,024 words of one file page
unfoldable pub write_step : Vol → ℕ → ℕ → List ℕ → Vol
write_step v e n d = put_words v (page_at v (file_at v e) n) 0 1024 (λ k. get_or d k 0)

-- total opens of object entry e grows by one
unfoldable pub open_step : Vol → ℕ → Vol
open_step v e = put v (object_page v e) (entry_word e + 19) (one_more (opens (object v e)))
