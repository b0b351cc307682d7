-- Shrinking an indexed file by one page returns the set that growing took, and returns to a single index at 512. Assumes nothing.
use Rattle.std.specs.Prelude.{ℕ, ◌-◌, ◌/◌, ◌%◌}
use Rattle.book.specs.Words.{Words, Vol}
use Rattle.book.specs.Pointers.{flags, page, pointer, slot, set_slot, indexed, subindexed}
use Rattle.book.specs.Bits.{release}
use Rattle.book.specs.Entries.{user, object, used_pages, page_count, file_pointer, file_entry}
use Rattle.book.specs.Grow.{Phase, first, onward, raise, block, phase_of, index_of, entered}

module _ (P : ℕ) (v : Vol) (a f : ℕ) where
  abbrev o : Words
  o = object v (file_entry a f)

  abbrev t : ℕ
  t = page o file_pointer

  -- the last position
  abbrev pub last_of : ℕ
  last_of = page_count o - 1

  abbrev less : ℕ → ℕ
  less k = used_pages (user v) a - k

  -- a block that stays loses the slot; pages are freed after the entries are written
  unfoldable pub shrink_to : Phase → Vol
  shrink_to onward =
      let b : ℕ = index_of v (flags o file_pointer) t last_of in let k : ℕ = last_of % 512 in
      release P (entered a f v (set_slot v b k 0) last_of (pointer (flags o file_pointer) t) (less 1)) (slot v b k)
  shrink_to first = release P (release P (entered a f v v 0 0 (less 2)) (slot v t 0)) t
  shrink_to raise =
      let b : ℕ = slot v t 1 in
      release P (release P (release P (entered a f v v 512 (pointer indexed (slot v t 0)) (less 3)) (slot v b 0)) b) t
  shrink_to block =
      let b : ℕ = slot v t (last_of / 512) in
      release P (release P (entered a f v (set_slot v t (last_of / 512) 0) last_of (pointer subindexed t) (less 2)) (slot v b 0)) b

  unfoldable pub shrink : Vol
  shrink = shrink_to (phase_of last_of)
