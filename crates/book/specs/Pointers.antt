-- Pointers: two words, with the flags S and I in the highest two bits. Assumes nothing.
use Rattle.std.specs.Prelude.{◌≡◌, ℕ, suc, ◌+◌, ◌*◌, ◌/◌, ◌%◌, ◌<◌}
use Rattle.book.specs.Words.{Words, Vol, two, word, put2}

-- the flags stand above the fourteen lower bits of the first word
abbrev pub flags_above : ℕ
flags_above = 16384

-- bit 31 is S and bit 30 is I: neither, I alone, S alone; both is an error
unfoldable pub flags : Words → ℕ → ℕ
flags w k = w k / flags_above

abbrev pub plain : ℕ
plain = 0

abbrev pub indexed : ℕ
indexed = 1

abbrev pub subindexed : ℕ
subindexed = 2

abbrev pub wrong : ℕ
wrong = 3

-- the rest of the pointer: a page number
unfoldable pub page : Words → ℕ → ℕ
page w k = w k % flags_above * 65536 + w (suc k)

-- the pointer with flags x to page t
unfoldable pub pointer : ℕ → ℕ → ℕ
pointer x t = x * 1073741824 + t

-- all zero: no page
unfoldable pub Zero : Words → ℕ → Type 0
Zero w k = (w k ≡ 0) × (w (suc k) ≡ 0)

-- flags x, to a page in 1..P-1
unfoldable pub Inside : ℕ → Words → ℕ → ℕ → Type 0
Inside P w k x = (flags w k ≡ x) × (0 < page w k) × (page w k < P)

-- ---- blocks of 512 pointers, which carry no flags

-- pointer n of the block in page b
unfoldable pub slot : Vol → ℕ → ℕ → ℕ
slot v b n = two (word v b) (2 * n)

-- pointer n of the block in page b becomes d
unfoldable pub set_slot : Vol → ℕ → ℕ → ℕ → Vol
set_slot v b n d = put2 v b (2 * n) d

-- where the words of the master page's directory entry stand: the volume's name, three pointers, the unreserved pages
abbrev pub volume_name : ℕ
volume_name = 1008

abbrev pub object_pointer : ℕ
object_pointer = 1016

abbrev pub user_pointer : ℕ
user_pointer = 1018

abbrev pub bit_pointer : ℕ
bit_pointer = 1020

abbrev pub unreserved_count : ℕ
unreserved_count = 1022
