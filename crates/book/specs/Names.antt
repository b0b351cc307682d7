-- Names and types: which are legal, how they are stored and read, when two are equal. Assumes nothing.
use Rattle.std.specs.Prelude.{◌≡◌, ◌⊎◌, List, [], ◌∷◌, ◌++◌, ℕ, zero, suc, ◌+◌, ◌-◌, ◌*◌, ◌/◌, ◌%◌, ◌^◌, ◌≤◌, ◌<◌, length, get_or}
use Rattle.sums.specs.Sum.{is}
use Rattle.sums.specs.Search.{lowest, every}
use Rattle.book.specs.Words.{Words}

-- A-Z, 0-9 and hyphen
unfoldable pub Letter : ℕ → Type 0
Letter b = ((65 ≤ b) × (b ≤ 90)) ⊎ (((48 ≤ b) × (b ≤ 57)) ⊎ (b ≡ 45))

-- m to n such bytes
unfoldable pub Text : ℕ → ℕ → List ℕ → Type 0
Text m n s = (m ≤ length s) × (length s ≤ n) × ((i : ℕ) → i < length s → Letter (get_or s i 0))

-- ---- as an argument: its bytes, without fill

abbrev pub NameText : List ℕ → Type 0
NameText s = Text 1 16 s

abbrev pub TypeText : List ℕ → Type 0
TypeText s = Text 0 4 s

-- ---- as written: two bytes to a word, high byte first

-- word i of the bytes s, and zeros past their end
unfoldable pub words_of : List ℕ → Words
words_of s i = get_or s (2 * i) 0 * 256 + get_or s (2 * i + 1) 0

abbrev pub apostrophe : ℕ
apostrophe = 39

-- the name, the byte c, zeros. A field of n bytes takes the first n of these: a name of n bytes leaves no room for the byte behind it
unfoldable pub packed_by : ℕ → List ℕ → Words
packed_by c s = words_of (s ++ (c ∷ []))

-- as names are written: with an apostrophe behind them
abbrev pub packed : List ℕ → Words
packed s = packed_by apostrophe s

-- ---- as read

-- byte i of the words from k on
unfoldable pub byte_at : Words → ℕ → ℕ → ℕ
byte_at w k i = w (k + i / 2) / 256 ^ (1 - i % 2) % 256

-- the first l of these bytes
unfoldable pub bytes : Words → ℕ → ℕ → List ℕ
bytes w k zero = []
bytes w k (suc l) = bytes w k l ++ (byte_at w k l ∷ [])

-- yes for an apostrophe and for a zero byte
unfoldable pub ends : ℕ → ℕ
ends b = is b apostrophe + is b 0

-- where the name in the n bytes of the words from k on ends: at the first apostrophe or zero byte, else at n
abbrev pub end_of : ℕ → Words → ℕ → ℕ
end_of n w k = lowest (λ i. ends (byte_at w k i)) n

-- how the name in a field is read, by the field's length in bytes
abbrev pub Reading : Type 0
Reading = ℕ → Words → ℕ → List ℕ

-- the bytes before the first apostrophe or zero byte, or all n
unfoldable pub stored : Reading
stored n w k = bytes w k (end_of n w k)

-- as document 01 had it, zero-filled: the bytes before the first from which on all are zeros
unfoldable pub zero_filled : Reading
zero_filled n w k = bytes w k (lowest (λ i. every (λ j. is (byte_at w k (i + j)) 0) (n - i)) n)

-- ---- legal, and equal

module _ (read : Reading) where
  -- a name of 1 to 16 letters, a type of 0 to 4, in the words from k on
  abbrev pub NameOver : Words → ℕ → Type 0
  NameOver w k = NameText (read 16 w k)

  abbrev pub TypeOver : Words → ℕ → Type 0
  TypeOver w k = TypeText (read 4 w k)

  -- two entries of one name; two of one name and one type
  abbrev pub OneName : Words → Words → Type 0
  OneName w x = read 16 w 1 ≡ read 16 x 1

  abbrev pub OneFile : Words → Words → Type 0
  OneFile w x = OneName w x × (read 4 w 9 ≡ read 4 x 9)

abbrev pub LegalName : Words → ℕ → Type 0
LegalName = NameOver stored

abbrev pub LegalType : Words → ℕ → Type 0
LegalType = TypeOver stored

abbrev pub SameName : Words → Words → Type 0
SameName = OneName stored

abbrev pub SameFile : Words → Words → Type 0
SameFile = OneFile stored

-- an entry of the name s, of the type s
abbrev pub Named : Words → List ℕ → Type 0
Named w s = stored 16 w 1 ≡ s

abbrev pub Typed : Words → List ℕ → Type 0
Typed w s = stored 4 w 9 ≡ s
