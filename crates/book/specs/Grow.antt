-- Growing an indexed file by one page: data page, then index block if needed, then subindex block if needed. Assumes nothing.
use Rattle.std.specs.Prelude.{ℕ, zero, suc, ◌+◌, ◌/◌, ◌%◌}
use Rattle.book.specs.Words.{Words, Vol, put2}
use Rattle.book.specs.Pointers.{flags, page, pointer, slot, set_slot, indexed, subindexed}
use Rattle.book.specs.Trees.{page_at}
use Rattle.book.specs.Bits.{claim}
use Rattle.book.specs.Entries.{user, object, user_file, object_file, used_pages, entry_word, entry_page, page_count, file_pointer, file_entry}
use Rattle.book.specs.Files.{bytes_of}

-- file e in page O has n pages and this pointer, and user a in page U has used x
unfoldable pub finish : Vol → ℕ → ℕ → ℕ → ℕ → ℕ → ℕ → ℕ → Vol
finish v U O a e n ptr x =
    put2 (put2 (put2 (put2 v O (entry_word e + 26) n) O (entry_word e + 28) (bytes_of n)) O (entry_word e + 30) ptr) U (entry_word a + 16) x

-- where position n goes, by n % 512 and n / 512: into the index block at hand, the first, the second, or one more
pub data Phase : Type 0 where
  first onward raise block : Phase

unfoldable pub phase_by : ℕ → ℕ → Phase
phase_by (suc m) q = onward
phase_by zero zero = first
phase_by zero (suc zero) = raise
phase_by zero (suc (suc q)) = block

abbrev pub phase_of : ℕ → Phase
phase_of n = phase_by (n % 512) (n / 512)

-- the index block that holds position n, by the flags of the pointer
unfoldable pub index_of : Vol → ℕ → ℕ → ℕ → ℕ
index_of v zero t n = 0
index_of v (suc zero) t n = t
index_of v (suc (suc x)) t n = slot v t (n / 512)

-- the entries of file f of user a afterwards: n pages, this pointer, and x used pages
unfoldable pub entered : ℕ → ℕ → Vol → Vol → ℕ → ℕ → ℕ → Vol
entered a f w w' n ptr x = finish w' (page_at w (user_file w) (entry_page a)) (page_at w (object_file w) (entry_page (file_entry a f))) a (file_entry a f) n ptr x

module _ (choose : Vol → ℕ) (P : ℕ) (v : Vol) (a f : ℕ) where
  -- the pages taken, in order: data page, index block, subindex block
  abbrev pub taken₁ : Vol
  taken₁ = claim P v (choose v)

  abbrev pub taken₂ : Vol
  taken₂ = claim P taken₁ (choose taken₁)

  abbrev pub taken₃ : Vol
  taken₃ = claim P taken₂ (choose taken₂)

  unfoldable pub grow_to : Phase → Vol
  grow_to onward =
      let w : Vol = taken₁ in let o : Words = object w (file_entry a f) in let n : ℕ = page_count o in let t : ℕ = page o file_pointer in
      entered a f w (set_slot w (index_of w (flags o file_pointer) t n) (n % 512) (choose v)) (suc n) (pointer (flags o file_pointer) t) (used_pages (user w) a + 1)
  grow_to first =
      let w : Vol = taken₂ in
      entered a f w (set_slot w (choose taken₁) 0 (choose v)) 1 (pointer indexed (choose taken₁)) (used_pages (user w) a + 2)
  grow_to raise =
      let w : Vol = taken₃ in let t : ℕ = page (object w (file_entry a f)) file_pointer in
      entered a f w (set_slot (set_slot (set_slot w (choose taken₂) 0 t) (choose taken₂) 1 (choose taken₁)) (choose taken₁) 0 (choose v)) 513
      (pointer subindexed (choose taken₂)) (used_pages (user w) a + 3)
  grow_to block =
      let w : Vol = taken₂ in let o : Words = object w (file_entry a f) in let n : ℕ = page_count o in let t : ℕ = page o file_pointer in
      entered a f w (set_slot (set_slot w t (n / 512) (choose taken₁)) (choose taken₁) 0 (choose v)) (suc n) (pointer subindexed t) (used_pages (user w) a + 2)

  unfoldable pub grow : Vol
  grow = grow_to (phase_of (page_count (object v (file_entry a f))))
