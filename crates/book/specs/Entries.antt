-- Entries of 32 words, 32 to a page: one definition for users and objects, by entry number. Assumes nothing.
use Rattle.std.specs.Prelude.{ℕ, ◌+◌, ◌-◌, ◌*◌, ◌/◌, ◌%◌}
use Rattle.sums.specs.Search.{pick, lowest}
use Rattle.book.specs.Words.{Words, Vol, two, word, put_words}
use Rattle.book.specs.Pointers.{user_pointer, object_pointer, unreserved_count}
use Rattle.book.specs.Trees.{Root, root_at, page_at}

-- where entry n lies in its file: on this page, from this word on
abbrev pub entry_page : ℕ → ℕ
entry_page n = n / 32

abbrev pub entry_word : ℕ → ℕ
entry_word n = 32 * (n % 32)

-- word k of entry n of the file at r; an entry of an absent page has only zeros
unfoldable pub entry : Vol → Root → ℕ → Words
entry v r n k = word v (page_at v r (entry_page n)) (entry_word n + k)

-- the user file and the object file
unfoldable pub user_file : Vol → Root
user_file v = root_at (v 0) user_pointer 0

unfoldable pub object_file : Vol → Root
object_file v = root_at (v 0) object_pointer 0

-- the object file has 2,048 pages at most: 65,536 entries
abbrev pub object_pages : ℕ
object_pages = 2048

-- all entries of a file
abbrev pub Table : Type 0
Table = ℕ → Words

unfoldable pub user : Vol → Table
user v u = entry v (user_file v) u

unfoldable pub object : Vol → Table
object v e = entry v (object_file v) e

-- file f of user u has entry number 256 u + f
abbrev pub file_entry : ℕ → ℕ → ℕ
file_entry u f = 256 * u + f

-- the page of user u's entry, and of object entry e; 0 where it is absent
unfoldable pub user_page : Vol → ℕ → ℕ
user_page v u = page_at v (user_file v) (entry_page u)

unfoldable pub object_page : Vol → ℕ → ℕ
object_page v e = page_at v (object_file v) (entry_page e)

-- entry n of page q becomes w
abbrev pub put_entry : Vol → ℕ → ℕ → Words → Vol
put_entry v q n w = put_words v q (entry_word n) 32 w

-- ---- fields

-- bit 15 of word 0: 0 for an unused entry
unfoldable pub used : Words → ℕ
used w = w 0 / 32768

-- users: given pages, used pages
unfoldable pub given : Table → ℕ → ℕ
given U u = two (U u) 14

unfoldable pub used_pages : Table → ℕ → ℕ
used_pages U u = two (U u) 16

-- given pages count for used users alone
unfoldable pub grant : Table → ℕ → ℕ
grant U u = pick (used (U u)) (given U u) 0

-- given less used
unfoldable pub spare : Vol → ℕ → ℕ
spare v u = given (user v) u - used_pages (user v) u

-- objects: pages, bytes, total opens
abbrev pub page_count : Words → ℕ
page_count w = two w 26

abbrev pub byte_count : Words → ℕ
byte_count w = two w 28

abbrev pub file_pointer : ℕ
file_pointer = 30

abbrev pub opens : Words → ℕ
opens w = w 19

-- one open more, and after 65,535 comes 0
abbrev pub one_more : ℕ → ℕ
one_more x = (x + 1) % 65536

-- the lowest unused index: a user's, and a file's of user u; 256 if all are used
unfoldable pub new_user : Vol → ℕ
new_user v = lowest (λ u. 1 - used (user v u)) 256

unfoldable pub new_file : Vol → ℕ → ℕ
new_file v u = lowest (λ f. 1 - used (object v (file_entry u f))) 256

-- the pages that nobody was given
unfoldable pub unreserved : Vol → ℕ
unreserved v = two (v 0) unreserved_count
