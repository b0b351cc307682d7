-- Runs of free pages in a word of the bit file, or in two: a page is a place in the number, and free where its bit is 0. Assumes nothing.
use Rattle.std.specs.Prelude.{◌≡◌, ◌⊎◌, Option, None, Some, ℕ, suc, ◌+◌, ◌≤◌, ◌<◌}
use Rattle.book.specs.Bits.{digit}

-- the places from s on and below e are free
abbrev pub FreeIn : ℕ → ℕ → ℕ → Type 0
FreeIn w s e = (j : ℕ) → s ≤ j → j < e → digit j w ≡ 0

-- a reserved place from s on and below e
pub record Stopper (w s e : ℕ) : Type 0 where
  pub place : ℕ
  pub from : s ≤ place
  pub below : place < e
  pub one : digit place w ≡ 1

-- ---- a word and the one above it, as one number of 32 bits

-- g has a 1 exactly where k free places of x in a row start
pub record Starts (x k g : ℕ) : Type 0 where
  pub small : g < 4294967296
  pub free : (s : ℕ) → digit s g ≡ 1 → FreeIn x s (s + k)
  pub other : (s : ℕ) → s + k ≤ 32 → digit s g ≡ 0 → Stopper x s (s + k)

-- no n free places of x in a row start in its lower word from place a on
abbrev pub NoStart : ℕ → ℕ → ℕ → Type 0
NoStart x n a = (s : ℕ) → a ≤ s → s < 16 → Stopper x s (s + n)

-- r is the highest start in the lower word of n free places of x in a row
abbrev pub StartIn : ℕ → ℕ → Option ℕ → Type 0
StartIn x n None = NoStart x n 0
StartIn x n (Some t) = (t < 16) × FreeIn x t (t + n) × NoStart x n (suc t)

-- ---- a word, and what follows on it

-- no n free pages in a row start in w from place a on, n being 16 or more, where `run` free pages and then a reserved one follow on the word
abbrev pub NoRun : ℕ → ℕ → ℕ → ℕ → Type 0
NoRun w run n a = (s : ℕ) → a ≤ s → s < 16 → (16 + run < s + n) ⊎ Stopper w s 16

-- r is the highest such start
abbrev pub RunIn : ℕ → ℕ → ℕ → Option ℕ → Type 0
RunIn w run n None = NoRun w run n 0
RunIn w run n (Some t) = (t < 16) × (t + n ≡ 16 + run) × FreeIn w t 16 × NoRun w run n (suc t)

-- so many free pages are there in a row from the start of w on, where `run` follow on the word
pub record LeftIn (w run r : ℕ) : Type 0 where
  pub most : r ≤ 16 + run
  pub free : (j : ℕ) → j < r → j < 16 → digit j w ≡ 0
  pub stop : r < 16 → digit r w ≡ 1
  pub whole : 16 ≤ r → r ≡ 16 + run
