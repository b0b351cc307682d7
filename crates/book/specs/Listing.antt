-- The listing: a line for the volume, for each user and for each of his files, in bytes; or why there is none. Assumes nothing.
use Rattle.std.specs.Prelude.{◌≡◌, List, [], ◌∷◌, ◌++◌, ℕ, zero, suc, ◌+◌, ◌/◌, ◌%◌, ◌<◌, length, get_or}
use Rattle.sums.specs.Sum.{is}
use Rattle.sums.specs.Search.{pick}
use Rattle.book.specs.Words.{Words, Vol, vol}
use Rattle.book.specs.Pointers.{flags, volume_name}
use Rattle.book.specs.Bits.{reserved}
use Rattle.book.specs.Entries.{Table, user, object, used, given, used_pages, file_entry, page_count, file_pointer, unreserved}
use Rattle.book.specs.Names.{stored}
use Rattle.book.specs.Image.{pages}
use Rattle.book.specs.Answers.{Numbers}
use Rattle.book.specs.Outcome.{Outcome}
use Rattle.book.specs.Calls.{check_call}

abbrev pub Bytes : Type 0
Bytes = List ℕ

-- g 0, g 1, …, g (n - 1), one after the other
unfoldable pub joined : (ℕ → Bytes) → ℕ → Bytes
joined g zero = []
joined g (suc n) = joined g n ++ g n

-- ---- numbers

-- the last k digits of n, without zeros in front
unfoldable pub digits : ℕ → ℕ → Bytes
digits zero n = []
digits (suc k) n = pick (n / 10) (digits k (n / 10)) [] ++ ((48 + n % 10) ∷ [])

-- n in decimal: no number of an image has more than ten digits
abbrev pub decimal : ℕ → Bytes
decimal n = digits 10 n

-- ---- the words of the lines

-- "VOLUME ", " PAGES ", " RESERVED ", " UNRESERVED "
abbrev pub volume : Bytes
volume = 86 ∷ 79 ∷ 76 ∷ 85 ∷ 77 ∷ 69 ∷ 32 ∷ []

abbrev pub pages_are : Bytes
pages_are = 32 ∷ 80 ∷ 65 ∷ 71 ∷ 69 ∷ 83 ∷ 32 ∷ []

abbrev pub reserved_are : Bytes
reserved_are = 32 ∷ 82 ∷ 69 ∷ 83 ∷ 69 ∷ 82 ∷ 86 ∷ 69 ∷ 68 ∷ 32 ∷ []

abbrev pub unreserved_are : Bytes
unreserved_are = 32 ∷ 85 ∷ 78 ∷ 82 ∷ 69 ∷ 83 ∷ 69 ∷ 82 ∷ 86 ∷ 69 ∷ 68 ∷ 32 ∷ []

-- "USER ", " GIVEN ", " USED "
abbrev pub user_is : Bytes
user_is = 85 ∷ 83 ∷ 69 ∷ 82 ∷ 32 ∷ []

abbrev pub given_are : Bytes
given_are = 32 ∷ 71 ∷ 73 ∷ 86 ∷ 69 ∷ 78 ∷ 32 ∷ []

abbrev pub used_are : Bytes
used_are = 32 ∷ 85 ∷ 83 ∷ 69 ∷ 68 ∷ 32 ∷ []

-- "FILE ", " EMPTY", " INDEXED", " SUBINDEXED", " CONTIGUOUS"
abbrev pub file_is : Bytes
file_is = 70 ∷ 73 ∷ 76 ∷ 69 ∷ 32 ∷ []

abbrev pub empty : Bytes
empty = 32 ∷ 69 ∷ 77 ∷ 80 ∷ 84 ∷ 89 ∷ []

abbrev pub index : Bytes
index = 32 ∷ 73 ∷ 78 ∷ 68 ∷ 69 ∷ 88 ∷ 69 ∷ 68 ∷ []

abbrev pub subindex : Bytes
subindex = 32 ∷ 83 ∷ 85 ∷ 66 ∷ 73 ∷ 78 ∷ 68 ∷ 69 ∷ 88 ∷ 69 ∷ 68 ∷ []

abbrev pub contiguous : Bytes
contiguous = 32 ∷ 67 ∷ 79 ∷ 78 ∷ 84 ∷ 73 ∷ 71 ∷ 85 ∷ 79 ∷ 85 ∷ 83 ∷ []

-- "REFUSED ", " RULE "
abbrev pub refused_is : Bytes
refused_is = 82 ∷ 69 ∷ 70 ∷ 85 ∷ 83 ∷ 69 ∷ 68 ∷ 32 ∷ []

abbrev pub rule_is : Bytes
rule_is = 32 ∷ 82 ∷ 85 ∷ 76 ∷ 69 ∷ 32 ∷ []

-- a space, a colon, the end of a line
abbrev pub space : Bytes
space = 32 ∷ []

abbrev pub colon : Bytes
colon = 58 ∷ []

abbrev pub newline : Bytes
newline = 10 ∷ []

-- such a word, and a number
unfoldable pub field : Bytes → ℕ → Bytes
field label n = label ++ decimal n

-- ---- lines

unfoldable pub head_line : ℕ → Vol → Bytes
head_line P v = volume ++ stored 16 (v 0) volume_name ++ field pages_are P ++ field reserved_are (reserved P v) ++ field unreserved_are (unreserved v) ++ newline

unfoldable pub user_line : Table → ℕ → Bytes
user_line U u = field user_is u ++ space ++ stored 16 (U u) 1 ++ field given_are (given U u) ++ field used_are (used_pages U u) ++ newline

-- the kind of a file of n pages, by the flags of its pointer
unfoldable pub kind_of : ℕ → ℕ → Bytes
kind_of zero n = pick n contiguous empty
kind_of (suc zero) n = index
kind_of (suc (suc x)) n = subindex

-- FILE f name:type; the colon stays with an empty type
unfoldable pub file_title : ℕ → Words → Bytes
file_title f w = field file_is f ++ space ++ stored 16 w 1 ++ colon ++ stored 4 w 9

unfoldable pub file_line : ℕ → Words → Bytes
file_line f w = file_title f w ++ field pages_are (page_count w) ++ kind_of (flags w file_pointer) (page_count w) ++ newline

-- ---- the listing

-- an entry that is not used has no line
unfoldable pub file_lines : ℕ → Words → Bytes
file_lines f w = pick (used w) (file_line f w) []

-- file f of user u
unfoldable pub file_of : Vol → ℕ → ℕ → Bytes
file_of v u f = file_lines f (object v (file_entry u f))

-- each user is followed by his files, in ascending order
unfoldable pub user_lines : Vol → ℕ → Bytes
user_lines v u = pick (used (user v u)) (user_line (user v) u ++ joined (file_of v u) 256) []

unfoldable pub listing : ℕ → Vol → Bytes
listing P v = head_line P v ++ joined (user_lines v) 256

-- REFUSED n, and with 3 the rule
unfoldable pub refused_line : ℕ → ℕ → Bytes
refused_line n r = field refused_is n ++ pick (is n 3) (field rule_is r) [] ++ newline

-- by the answer of check: the listing with 0, else the refusal
unfoldable pub report : List ℕ → Numbers ℕ → Bytes
report img a = pick a.number (refused_line a.number a.broken.rule) (listing (pages img) (vol img))

-- t is the text for an image
unfoldable pub Listed : List ℕ → Bytes → Type 0
Listed img t = (a : Numbers ℕ) × Outcome (check_call img) img a img × (t ≡ report img a)

-- ---- in a lent buffer

-- a buffer that was o shows t as far as it reaches, and is else what it was; n is the whole length of t
pub record Shown (t o out : Bytes) (n : ℕ) : Type 0 where
  pub whole : n ≡ length t
  pub size : length out ≡ length o
  pub bytes : (i : ℕ) → i < length o → get_or out i 0 ≡ get_or t i (get_or o i 0)

-- the text for an image in a lent buffer
abbrev pub Reported : List ℕ → Bytes → Bytes → ℕ → Type 0
Reported img o out n = (t : Bytes) × Listed img t × Shown t o out n
