-- Conversion (T-04): what stands behind short names, zeros or an apostrophe and then zeros, and the volume with the other of the two. Assumes nothing.
use Rattle.std.specs.Prelude.{◌≡◌, [], ◌∷◌, ℕ, zero, suc, ◌-◌, ◌/◌, ◌≤◌, ◌<◌, get_or}
use Rattle.sums.specs.Search.{pick}
use Rattle.book.specs.Words.{Words, Vol, put_words, set_words}
use Rattle.book.specs.Pointers.{volume_name}
use Rattle.book.specs.Trees.{Root, page_at}
use Rattle.book.specs.Entries.{entry, entry_page, put_entry, user_file, object_file, user, object, used}
use Rattle.book.specs.Names.{packed_by, byte_at, end_of, stored}

-- ---- of a field of n bytes from word k on

-- a short name there has exactly this fill: the byte c at its end, then zeros. A name of all n bytes has none
unfoldable pub Filled : ℕ → ℕ → Words → ℕ → Type 0
Filled c n w k = (i : ℕ) → end_of n w k ≤ i → i < n → byte_at w k i ≡ get_or (c ∷ []) (i - end_of n w k) 0

-- the name there, with this fill
unfoldable pub refilled : ℕ → ℕ → Words → ℕ → Words
refilled c n w k = set_words w k (n / 2) (packed_by c (stored n w k))

-- ---- of an entry: a user's name, an object's name and type

abbrev pub refilled_user : ℕ → Words → Words
refilled_user c w = refilled c 16 w 1

abbrev pub refilled_object : ℕ → Words → Words
refilled_object c w = refilled c 4 (refilled c 16 w 1) 9

-- ---- of a volume: its name, and the names and types of all used entries

pub record AllFilled (c : ℕ) (v : Vol) : Type 0 where
  pub volume : Filled c 16 (v 0) volume_name
  pub users : (u : ℕ) → u < 256 → 0 < used (user v u) → Filled c 16 (user v u) 1
  pub names : (e : ℕ) → e < 65536 → 0 < used (object v e) → Filled c 16 (object v e) 1
  pub types : (e : ℕ) → e < 65536 → 0 < used (object v e) → Filled c 4 (object v e) 9

-- entry n of a file of entries becomes what f makes of it, if it is used
unfoldable pub remake : (Vol → Root) → (Words → Words) → Vol → ℕ → Vol
remake file f v n = pick (used (entry v (file v) n)) (put_entry v (page_at v (file v) (entry_page n)) n (f (entry v (file v) n))) v

-- and so its first n entries, one after the other
unfoldable pub remake_all : (Vol → Root) → (Words → Words) → Vol → ℕ → Vol
remake_all file f v zero = v
remake_all file f v (suc n) = remake file f (remake_all file f v n) n

-- its name with the fill c; all used users' names; all used objects' names and types
abbrev pub convert_name : ℕ → Vol → Vol
convert_name c v = put_words v 0 volume_name 8 (packed_by c (stored 16 (v 0) volume_name))

abbrev pub convert_users : ℕ → Vol → Vol
convert_users c v = remake_all user_file (refilled_user c) v 256

abbrev pub convert_objects : ℕ → Vol → Vol
convert_objects c v = remake_all object_file (refilled_object c) v 65536

-- every name and type there with the fill c
unfoldable pub convert : ℕ → Vol → Vol
convert c v = convert_objects c (convert_users c (convert_name c v))
