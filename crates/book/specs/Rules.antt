-- Sound: the ten rules. Those that speak of names, 1, 4 and 6, stand over how a name is read; what they say of bits and counts is asked, or not. Assumes nothing.
use Rattle.std.specs.Prelude.{◌≡◌, Bool, true, false, ◌⊎◌, ℕ, zero, suc, ◌+◌, ◌≤◌, ◌<◌}
use Rattle.sums.specs.Sum.{sum}
use Rattle.book.specs.Words.{Vol}
use Rattle.book.specs.Pointers.{flags, page, slot, Zero, Inside, plain, indexed, subindexed, bit_pointer, user_pointer, object_pointer, volume_name}
use Rattle.book.specs.Trees.{Below}
use Rattle.book.specs.Bits.{bit, bit_pages}
use Rattle.book.specs.Entries.{Table, user, object, used, given, used_pages, grant, file_entry, unreserved}
use Rattle.book.specs.Names.{Reading, stored, zero_filled, NameOver, TypeOver, OneName, OneFile}
use Rattle.book.specs.Files.{FileShape}
use Rattle.book.specs.Holders.{mine, holders, some, system_pages}
use Rattle.book.specs.Rows.{Rows, end, row}

-- A disk whose bits or counts are stale has good pointers still. `ten` tells which rules are judged: all ten, or those of the pointers alone, which
-- are 1 to 8 without the comparison in rule 4
abbrev pub Asked : Bool → Type 0 → Type 0
Asked true A = A
Asked false A = Unit {0}

-- 1: legal volume name; bit pointer without flags, its pages in 1..P-1
pub record Rule1Over (read : Reading) (P : ℕ) (v : Vol) : Type 0 where
  pub name : NameOver read (v 0) volume_name
  pub unflagged : flags (v 0) bit_pointer ≡ plain
  pub start : 0 < page (v 0) bit_pointer
  pub fits : page (v 0) bit_pointer + bit_pages P ≤ P

abbrev pub Rule1 : ℕ → Vol → Type 0
Rule1 = Rule1Over stored

-- 2: user pointer zero, or indexed to 1..P-1; object pointer zero exactly when the user pointer is, else indexed or subindexed to 1..P-1
unfoldable pub Rule2 : ℕ → Vol → Type 0
Rule2 P v = (Zero (v 0) user_pointer × Zero (v 0) object_pointer)
    ⊎ (Inside P (v 0) user_pointer indexed × (Inside P (v 0) object_pointer indexed ⊎ Inside P (v 0) object_pointer subindexed))

-- 3: user index: each of slots 0..7 zero or in 1..P-1, others zero
unfoldable pub Rule3 : ℕ → Vol → Type 0
Rule3 P v = (n : ℕ) → n < 512 → (slot v (page (v 0) user_pointer) n < P) × (8 ≤ n → slot v (page (v 0) user_pointer) n ≡ 0)

-- 4: used users: own index right, name legal, no two names equal, used <= given
abbrev pub UsedWithin : Table → ℕ → Type 0
UsedWithin U u = used_pages U u ≤ given U u

pub record UserOkOver (read : Reading) (ten : Bool) (U : Table) (u : ℕ) : Type 0 where
  pub own : U u 18 ≡ u
  pub name : NameOver read (U u) 1
  pub within : Asked ten (UsedWithin U u)

unfoldable pub Rule4Over : Reading → Bool → Table → Type 0
Rule4Over read ten U = ((u : ℕ) → u < 256 → 0 < used (U u) → UserOkOver read ten U u)
    × ((a b : ℕ) → a < 256 → b < 256 → 0 < used (U a) → 0 < used (U b) → OneName read (U a) (U b) → a ≡ b)

abbrev pub UserOk : Table → ℕ → Type 0
UserOk = UserOkOver stored true

abbrev pub Rule4 : Table → Type 0
Rule4 = Rule4Over stored true

-- 5: object blocks: allowed slots zero or in 1..P-1, others zero; if indexed, no used user above 63
unfoldable pub Rule5By : ℕ → Vol → ℕ → ℕ → Type 0
Rule5By P v zero t = Unit {0}
Rule5By P v (suc zero) t = Below v P 1 t × ((u : ℕ) → 63 < u → u < 256 → used (user v u) ≡ 0)
Rule5By P v (suc (suc zero)) t = Below v P 2 t × ((i : ℕ) → 4 ≤ i → i < 512 → slot v t i ≡ 0)
Rule5By P v (suc (suc (suc x))) t = ⊥

unfoldable pub Rule5 : ℕ → Vol → Type 0
Rule5 P v = Rule5By P v (flags (v 0) object_pointer) (page (v 0) object_pointer)

-- 6: used objects: owner is used, words 16 and 17 right, name and type legal, no two of a user equal
pub record FileOkOver (read : Reading) (U O : Table) (u e : ℕ) : Type 0 where
  pub owner : 0 < used (U u)
  pub whose : O e 16 ≡ u
  pub number : O e 17 ≡ e
  pub name : NameOver read (O e) 1
  pub type : TypeOver read (O e) 9

unfoldable pub Rule6Over : Reading → Table → Table → Type 0
Rule6Over read U O = ((u f : ℕ) → u < 256 → f < 256 → 0 < used (O (file_entry u f)) → FileOkOver read U O u (file_entry u f))
    × ((u a b : ℕ) → u < 256 → a < 256 → b < 256 → 0 < used (O (file_entry u a)) → 0 < used (O (file_entry u b))
    → OneFile read (O (file_entry u a)) (O (file_entry u b)) → a ≡ b)

abbrev pub FileOk : Table → Table → ℕ → ℕ → Type 0
FileOk = FileOkOver stored

abbrev pub Rule6 : Table → Table → Type 0
Rule6 = Rule6Over stored

-- 7: each file has one of the shapes, its bytes right, all pages in 1..P-1
unfoldable pub Rule7 : ℕ → Vol → Type 0
Rule7 P v = (e : ℕ) → e < 65536 → 0 < used (object v e) → FileShape P v e

-- 8: no page has two holders
unfoldable pub Rule8 : ℕ → Vol → Type 0
Rule8 P v = (p : ℕ) → p < P → holders P v p ≤ 1

-- 9: a bit is set exactly when its page has a holder
unfoldable pub Rule9 : ℕ → Vol → Type 0
Rule9 P v = (p : ℕ) → p < P → (bit P v p ≡ 1 → 0 < holders P v p) × (0 < holders P v p → bit P v p ≡ 1)

-- 10: each used count is the pages of his files; unreserved + given of all used users + system pages = P
unfoldable pub Rule10 : ℕ → Vol → Type 0
Rule10 P v = ((u : ℕ) → u < 256 → 0 < used (user v u) → used_pages (user v) u ≡ mine v u some)
    × (unreserved v + sum 256 (grant (user v)) + system_pages P v ≡ P)

pub record SoundOver (read : Reading) (ten : Bool) (P : ℕ) (v : Vol) : Type 0 where
  pub r1 : Rule1Over read P v
  pub r2 : Rule2 P v
  pub r3 : Rule3 P v
  pub r4 : Rule4Over read ten (user v)
  pub r5 : Rule5 P v
  pub r6 : Rule6Over read (user v) (object v)
  pub r7 : Rule7 P v
  pub r8 : Rule8 P v
  pub r9 : Asked ten (Rule9 P v)
  pub r10 : Asked ten (Rule10 P v)

-- the rules as they stand
abbrev pub Sound : ℕ → Vol → Type 0
Sound = SoundOver stored true

-- those of the pointers alone
abbrev pub Pointed : ℕ → Vol → Type 0
Pointed = SoundOver stored false

-- document 01's rules as they first stood, with zero-filled names
abbrev pub OldSound : ℕ → Vol → Type 0
OldSound = SoundOver zero_filled true

-- the ten as a table: the lowest broken rule is its lowest number. One that is not asked cannot be broken
unfoldable pub rules_of : Bool → ℕ → Vol → Rows
rules_of ten P v =
    row 1 (Rule1 P v) (row 2 (Rule2 P v) (row 3 (Rule3 P v) (row 4 (Rule4Over stored ten (user v)) (row 5 (Rule5 P v) (row 6 (Rule6 (user v) (object v))
    (row 7 (Rule7 P v) (row 8 (Rule8 P v) (row 9 (Asked ten (Rule9 P v)) (row 10 (Asked ten (Rule10 P v)) end)))))))))

abbrev pub rules : ℕ → Vol → Rows
rules = rules_of true
