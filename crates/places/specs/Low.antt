-- The lowest page met twice. A block is opened at most twice at each level: then all that is below it has been met twice. Assumes nothing.
use Rattle.std.specs.Prelude.{◌≡◌, Bool, true, false, List, ℕ, ◌+◌, ◌*◌, ◌≤◌, ◌<◌, length}
use Rattle.sums.specs.Sum.{sum, is}
use Rattle.book.specs.Words.{Vol}
use Rattle.book.specs.Pointers.{slot}
use Rattle.book.specs.Trees.{weigh}
use Rattle.book.specs.Holders.{hit}
use Rattle.book.specs.Image.{pages, most_pages}
use Rattle.bits.specs.Marks.{marked}
use Rattle.walk.specs.Held.{Volume}

-- how often page p is among what the pointers of block t name, which are of level l, and below that
abbrev pub under : Vol → ℕ → ℕ → ℕ → ℕ
under v l t p = sum 512 (λ k. weigh v l (slot v t k) (hit p))

-- the words of the marks of the largest volume, and of two marks a page
abbrev pub marks_size : ℕ
marks_size = 8796

abbrev pub opened_size : ℕ
opened_size = 17592

-- how often block t was opened, once or twice: its two marks
abbrev pub opened : List ℕ → ℕ → ℕ
opened a t = marked a (2 * t) + marked a (2 * t + 1)

-- block t was opened once more, and no other
pub record Opens (a : List ℕ) (t : ℕ) (a' : List ℕ) : Type 0 where
  pub more : (u : ℕ) → opened a' u ≡ opened a u + is t u
  pub kept : length a' ≡ length a

-- what opening block t answers: that it is done, or that it was opened twice before and nothing is done
abbrev pub Opening : List ℕ → ℕ → List ℕ → Bool → Type 0
Opening a t a' true = Opens a t a'
Opening a t a' false = (2 ≤ opened a t) × (a' ≡ a)

-- page p was met f p times; c is the lowest met twice, or P. The marks m are right below c. a tells how often each index block was opened, b each subindex block
pub record Seen (P : ℕ) (v : Vol) (m a b : List ℕ) (c : ℕ) (f : ℕ → ℕ) : Type 0 where
  pub below : (p : ℕ) → p < c → marked m p ≡ f p
  pub twice : c < P → 2 ≤ f c
  pub index : (t p : ℕ) → t < P → opened a t * under v 0 t p ≤ f p
  pub subindex : (t p : ℕ) → t < P → opened b t * under v 1 t p ≤ f p

-- page p was met w p times more
unfoldable pub Met : ℕ → Vol → List ℕ → List ℕ → List ℕ → ℕ → (ℕ → ℕ) → List ℕ → List ℕ → List ℕ → ℕ → Type 0
Met P v m a b c w m' a' b' c' = (f : ℕ → ℕ) → Seen P v m a b c f → Seen P v m' a' b' c' (λ p. f p + w p)

-- what code that meets pages is given
pub record Room (m : List ℕ) (c : ℕ) : Type 0 where
  pub size : length m ≡ marks_size
  pub most : c ≤ most_pages

-- what it tells: of the marks alone, and with the index blocks opened, and with the subindex blocks too
pub record Meets (m : List ℕ) (c : ℕ) (w : ℕ → ℕ) (m' : List ℕ) (c' : ℕ) : Type 0 where
  pub size : length m' ≡ marks_size
  pub most : c' ≤ c
  pub met : (P : ℕ) (v : Vol) (a b : List ℕ) → Met P v m a b c w m' a b c'

pub record Meets₁ (P : ℕ) (v : Vol) (m a : List ℕ) (c : ℕ) (w : ℕ → ℕ) (m' a' : List ℕ) (c' : ℕ) : Type 0 where
  pub size : length m' ≡ marks_size
  pub index : length a' ≡ opened_size
  pub most : c' ≤ c
  pub met : (b : List ℕ) → Met P v m a b c w m' a' b c'

pub record Meets₂ (P : ℕ) (v : Vol) (m a b : List ℕ) (c : ℕ) (w : ℕ → ℕ) (m' a' b' : List ℕ) (c' : ℕ) : Type 0 where
  pub size : length m' ≡ marks_size
  pub index : length a' ≡ opened_size
  pub subindex : length b' ≡ opened_size
  pub most : c' ≤ c
  pub met : Met P v m a b c w m' a' b' c'

-- room for the opened index blocks of an image, and for the opened subindex blocks
pub record Index (img a : List ℕ) : Type 0 where
  pub size : length a ≡ opened_size
  pub few : pages img ≤ most_pages
  pub some : 0 < pages img

abbrev pub Subindex : List ℕ → Type 0
Subindex b = length b ≡ opened_size

-- no block was opened
pub record Unopened (a : List ℕ) : Type 0 where
  pub size : length a ≡ opened_size
  pub none : (t : ℕ) → opened a t ≡ 0

-- what code that goes through the volume is given
pub record Meeting (img m a b : List ℕ) (c : ℕ) : Type 0 where
  pub volume : Volume img
  pub room : Room m c
  pub index : length a ≡ opened_size
  pub subindex : length b ≡ opened_size
