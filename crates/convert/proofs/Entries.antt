-- The name and the type of an entry, read and written on its page. Assumes nothing.
use mathlib.Core.Path.{◌≡◌, refl, sym, ap, ◌∙◌}
use mathlib.Core.Bool.{Bool, true, false, not}
use mathlib.Core.List.{List}
use Prim.Native.Nat.{ℕ, ◌+◌, ◌/◌, ◌%◌, ◌≤◌, ◌<◌}
use native.Mathlib.Nat.{add_assoc}
use native.Mathlib.Omega.{arith}
use Rattle.book.specs.Words.{Words, Vol, put_words}
use Rattle.book.specs.Written.{word-pos}
use Rattle.book.specs.Names.{stored, packed_by}
use Rattle.book.specs.Entries.{entry_word, put_entry}
use Rattle.book.specs.Decides.{Decides, decides_and}
use Rattle.book.specs.Convert.{Filled, refilled}
use Rattle.laws.specs.File.Fill.{filled-words}
use Rattle.laws.specs.File.Stored.{stored-words}
use Rattle.laws.specs.Frame.Fields.{row_is, row_at, put_entry-words}
use Rattle.page.proofs.Deciding.{decides-iff, never}
use Rattle.tree.specs.Reach.{entry_in}
use Rattle.tree.proofs.Entries.{there-word}
use Rattle.convert.specs.Kinds.{FilledEntry, refilled_entry}

-- the fill of a field of entry n, on its page q from the entry's first word w
module _ (v : Vol) (q n w : ℕ) (h : 0 < q) (e : w ≡ entry_word n) where
  word-there : (k i : ℕ) → v q (w + k + i) ≡ entry_in v q n (k + i)
  word-there k i = ap (v q) (add_assoc w k i) ∙ there-word v q n w (k + i) h e

  pub there-filled : (b : Bool) (c m k : ℕ) → Decides b (Filled c m (v q) (w + k)) → Decides b (Filled c m (entry_in v q n) k)
  there-filled b c m k = decides-iff b _ _ (filled-words c m (entry_in v q n) (v q) k (w + k) (λ i l. sym (word-there k (i / 2)))) (filled-words c m (v q) (entry_in v q n) (w + k) k (λ i l. word-there k (i / 2)))

-- a user's entry has no type, and a file's has one
module _ (c : ℕ) (w : Words) where
  pub name-first : (typed : Bool) → FilledEntry typed c w → Filled c 16 w 1
  name-first true f = f.0
  name-first false f = f

  pub name-alone : (typed : Bool) → not typed ≡ true → Filled c 16 w 1 → FilledEntry typed c w
  name-alone true e f = never e
  name-alone false e f = f

  pub name-and-type : (typed b : Bool) → not typed ≡ false → Filled c 16 w 1 → Decides b (Filled c 4 w 9) → Decides b (FilledEntry typed c w)
  name-and-type true b e f d = decides_and b _ _ f d
  name-and-type false b e f d = never (sym e)

  pub refilled-name : (typed : Bool) → not typed ≡ true → refilled c 16 w 1 ≡ refilled_entry typed c w
  refilled-name true e = never e
  refilled-name false e = refl

  pub refilled-both : (typed : Bool) → not typed ≡ false → refilled c 4 (refilled c 16 w 1) 9 ≡ refilled_entry typed c w
  refilled-both true e = refl
  refilled-both false e = never (sym e)

-- an entry is what stands there
pub own-entry : (v : Vol) (q n : ℕ) → 0 < q → v ≡ put_entry v q n (entry_in v q n)
own-entry v q n h = row_is v v q (entry_word n) 32 (entry_in v q n) (λ p i a. refl) (λ i a. refl) (λ i a. refl) (λ j a. sym (word-pos v q (entry_word n + j) h))

-- a field of it is written anew
pub refill-in : (v u : Vol) (q n w k c m : ℕ) (E : Words) → w ≡ entry_word n → m % 2 ≡ 0 → k + m / 2 ≤ 32 → u ≡ put_entry v q n E
    → put_words u q (w + k) (m / 2) (packed_by c (stored m (u q) (w + k))) ≡ put_entry v q n (refilled c m E k)
unfolding refilled
refill-in v u q n w k c m E e even fits s =
    let W : Vol = put_entry v q n E in
    let t : stored m (W q) (entry_word n + k) ≡ stored m E k = stored-words m (W q) E (entry_word n + k) k (λ i l.
    ap (W q) (add_assoc (entry_word n) k (i / 2)) ∙ row_at v q (entry_word n) 32 E (k + i / 2) (omega arith)) in
    ap (λ (x : Vol). put_words x q (w + k) (m / 2) (packed_by c (stored m (x q) (w + k)))) s
    ∙ ap (λ (x : ℕ). put_words W q (x + k) (m / 2) (packed_by c (stored m (W q) (x + k)))) e
    ∙ ap (λ (x : List ℕ). put_words W q (entry_word n + k) (m / 2) (packed_by c x)) t
    ∙ put_entry-words v q (entry_word n) 32 E k (m / 2) (packed_by c (stored m E k)) fits
