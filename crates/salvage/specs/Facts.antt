-- What the code has found out when it collects the changes. Assumes nothing.
use Rattle.std.specs.Prelude.{◌≡◌, Bool, true, false, List, ℕ, Result, Ok, Err, ◌+◌, ◌-◌, ◌*◌, ◌≤◌, ◌<◌, length, get_or}
use Rattle.book.specs.Bits.{bit_page, bit_pages, digit}
use Rattle.book.specs.Words.{Vol, vol}
use Rattle.book.specs.Entries.{user, user_file}
use Rattle.book.specs.Holders.{holders, mine, some}
use Rattle.book.specs.Image.{pages, Sixteen, Whole}
use Rattle.book.specs.Rules.{Pointed}
use Rattle.book.specs.Salvage.{Affords, spent}
use Rattle.book.specs.Trees.{page_at}
use Rattle.book.specs.declared.Refusal.{Refusal}
use Rattle.book.specs.declared.Refusal.TheVariants.{Overdrawn}
use Rattle.page.specs.Parts.{word_from}
use Rattle.bits.specs.Marks.{marked}
use Rattle.shape.specs.Counts.{pages_of, count_in}

-- 1 and 3 do not apply
pub record PastThree (img : List ℕ) : Type 0 where
  pub whole : Whole img
  pub pointed : Pointed (pages img) (vol img)

-- nor does 13
pub record Sure (img : List ℕ) : Type 0 where
  pub good : PastThree img
  pub sixteen : Sixteen img
  pub affords : Affords (pages img) (vol img)

-- each page is marked as often as it is held
pub record MarksHeld (img m : List ℕ) : Type 0 where
  pub held : (p : ℕ) → p < pages img → marked m p ≡ holders (pages img) (vol img) p
  pub room : pages img ≤ 16 * length m

-- x is word k of the bit file, which begins at page b: below P whether the page is held, and from P on what was there
unfoldable pub BitsRight : List ℕ → ℕ → ℕ → ℕ → Type 0
BitsRight img b k x = (j : ℕ) → j < 16
    → (16 * k + j < pages img → digit j x ≡ some (holders (pages img) (vol img) (16 * k + j))) × (pages img ≤ 16 * k + j → digit j x ≡ digit j (word_from (vol img) b k))

-- p is a page of the bit file of P pages, which begins at page b
abbrev pub BitPage : ℕ → ℕ → ℕ → Type 0
BitPage P b p = (b ≤ p) × (p < b + bit_pages P)

-- ---- counting, by the pages of files as their entries tell them

-- of the users below n each count is there, and no more than was given
pub record CountsBelow (v : Vol) (n : ℕ) (c : List ℕ) : Type 0 where
  pub size : length c ≡ 256
  pub right : (u : ℕ) → u < n → (get_or c u 0 ≡ pages_of v u) × (pages_of v u ≤ count_in 14 (user v u))

-- so of all, or some user holds more
abbrev pub Tallied : Vol → List ℕ → Bool → Type 0
Tallied v c true = CountsBelow v 256 c
Tallied v c false = (u : ℕ) × (u < 256) × (count_in 14 (user v u) < pages_of v u)

-- each count is what the user's files hold
pub record Counts (v : Vol) (c : List ℕ) : Type 0 where
  pub size : length c ≡ 256
  pub right : (u : ℕ) → u < 256 → get_or c u 0 ≡ mine v u some

-- 13 applies, or it does not, and so much is left as unreserved
abbrev pub Balanced : ℕ → Vol → List ℕ → Result ℕ Refusal → Type 0
Balanced P v c (Err w) = (w ≡ Overdrawn) × (Affords P v → ⊥)
Balanced P v c (Ok x) = Affords P v × Counts v c × (x ≡ P - spent P v)

-- ---- pages that have words to change

-- p has no bits and no users
pub record Other (P : ℕ) (v : Vol) (p : ℕ) : Type 0 where
  pub bits : (d : ℕ) → d < P → bit_page P v d ≡ p → ⊥
  pub users : (i : ℕ) → i < 8 → page_at v (user_file v) i ≡ p → ⊥

-- r is the next page after p that may have, or P
pub record Next (P : ℕ) (v : Vol) (p r : ℕ) : Type 0 where
  pub after : p < r
  pub most : r ≤ P
  pub between : (x : ℕ) → p < x → x < r → Other P v x
