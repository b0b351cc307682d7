-- The bit file, a run of pages: page p is bit p % 16, from the right, of its word p / 16; 1 is reserved. Assumes nothing.
use Rattle.std.specs.Prelude.{ℕ, zero, suc, ◌+◌, ◌-◌, ◌*◌, ◌/◌, ◌%◌}
use Rattle.sums.specs.Sum.{sum}
use Rattle.sums.specs.Search.{every, lowest, highest}
use Rattle.book.specs.Words.{Vol, word, put, wipe}
use Rattle.book.specs.Pointers.{page, bit_pointer}
use Rattle.book.specs.Trees.{Root, run, page_at}

-- bit j of a word, from the right; and the word with that bit made x
unfoldable pub digit : ℕ → ℕ → ℕ
digit zero w = w % 2
digit (suc j) w = digit j (w / 2)

unfoldable pub to_digit : ℕ → ℕ → ℕ → ℕ
to_digit zero w x = w / 2 * 2 + x
to_digit (suc j) w x = to_digit j (w / 2) x * 2 + w % 2

-- a bit page serves 16,384 pages, 16 a word
abbrev pub page_bits : ℕ
page_bits = 16384

abbrev pub bit_page_of : ℕ → ℕ
bit_page_of p = p / page_bits

abbrev pub bit_word : ℕ → ℕ
bit_word p = p % page_bits / 16

abbrev pub bit_place : ℕ → ℕ
bit_place p = p % 16

-- how many bit pages P pages ask for: one, while P is at most 16,384
abbrev pub bit_pages : ℕ → ℕ
bit_pages P = (P + (page_bits - 1)) / page_bits

-- the bit file is a run of that many pages
unfoldable pub bit_file : ℕ → Vol → Root
bit_file P v = run (page (v 0) bit_pointer) (bit_pages P)

-- the page of p's bit, and the bit
unfoldable pub bit_page : ℕ → Vol → ℕ → ℕ
bit_page P v p = page_at v (bit_file P v) (bit_page_of p)

unfoldable pub bit : ℕ → Vol → ℕ → ℕ
bit P v p = digit (bit_place p) (word v (bit_page P v p) (bit_word p))

-- the reserved count: the number of ones below P
unfoldable pub reserved : ℕ → Vol → ℕ
reserved P v = sum P (bit P v)

-- ---- changes

-- p's bit becomes x
unfoldable pub mark : ℕ → Vol → ℕ → ℕ → Vol
mark P v p x = put v (bit_page P v p) (bit_word p) (to_digit (bit_place p) (word v (bit_page P v p) (bit_word p)) x)

-- the bits of all pages below n become those of f
unfoldable pub mark_all : ℕ → Vol → (ℕ → ℕ) → ℕ → Vol
mark_all P v f zero = v
mark_all P v f (suc n) = mark P (mark_all P v f n) n (f n)

-- a page is taken: reserved, and made zeros
unfoldable pub claim : ℕ → Vol → ℕ → Vol
claim P v d = wipe (mark P v d 1) d

-- the n pages from s on are taken
unfoldable pub claim_run : ℕ → Vol → ℕ → ℕ → Vol
claim_run P v s zero = v
claim_run P v s (suc n) = claim P (claim_run P v s n) (s + n)

-- a page is freed: it keeps its words
abbrev pub release : ℕ → Vol → ℕ → Vol
release P v d = mark P v d 0

-- the pages that g counts are freed
unfoldable pub freed : ℕ → Vol → (ℕ → ℕ) → Vol
freed P v g = mark_all P v (λ p. bit P v p - g p) P

-- ---- choices

-- the lowest free page, and P if there is none
unfoldable pub lowest_free : ℕ → Vol → ℕ
lowest_free P v = lowest (λ p. 1 - bit P v p) P

-- n free pages in a row start at s
unfoldable pub free_run : ℕ → Vol → ℕ → ℕ → ℕ
free_run P v n s = every (λ i. 1 - bit P v (s + i)) n

-- the highest start of such a run below P, and 0 if there is none
unfoldable pub highest_run : ℕ → Vol → ℕ → ℕ
highest_run P v n = highest (free_run P v n) (suc P - n)
