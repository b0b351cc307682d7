-- Creating users and files: system pages in the order written, paid from unreserved; then the entry, cleared and written. Assumes nothing.
use Rattle.std.specs.Prelude.{List, ℕ, ◌+◌, ◌-◌, ◌*◌, ◌/◌, ◌%◌}
use Rattle.sums.specs.Sum.{is}
use Rattle.sums.specs.Search.{pick, at_least}
use Rattle.book.specs.Words.{Words, Vol, put2, set_word, set_two, set_words, zeros}
use Rattle.book.specs.Pointers.{flags, page, pointer, set_slot, indexed, subindexed, user_pointer, object_pointer, unreserved_count}
use Rattle.book.specs.Bits.{claim, claim_run, highest_run}
use Rattle.book.specs.Entries.{user, user_page, object_page, put_entry, used_pages, entry_page, entry_word, file_entry, new_user, new_file, unreserved}
use Rattle.book.specs.Names.{packed}
use Rattle.book.specs.Files.{bytes_of}
use Rattle.book.specs.Grow.{index_of}

-- n system pages are paid from unreserved
unfoldable pub pay : Vol → ℕ → Vol
pay v n = put2 v 0 unreserved_count (unreserved v - n)

-- 1 if user u asks for a subindex block: from user 64 on, while the object file is indexed
unfoldable pub raises : Vol → ℕ → ℕ
raises v u = is (flags (v 0) object_pointer) indexed * at_least 64 u

-- the system pages that a new user's entry asks for: three the first time ever
unfoldable pub user_need : Vol → ℕ → ℕ
user_need v u = pick (page (v 0) user_pointer) ((1 - user_page v u) + raises v u) 3

-- the object index block that holds entry e's page, 0 where it is absent
unfoldable pub object_index : Vol → ℕ → ℕ
object_index v e = index_of v (flags (v 0) object_pointer) (page (v 0) object_pointer) (entry_page e)

-- the system pages that a new file's entry asks for
unfoldable pub file_need : Vol → ℕ → ℕ
file_need v e = (1 - object_index v e) + (1 - object_page v e)

-- the words of a new user's entry, and of a new file's
unfoldable pub user_entry : ℕ → List ℕ → Words
user_entry u name = set_word (set_words (set_word zeros 0 32768) 1 8 (packed name)) 18 u

unfoldable pub object_entry : ℕ → ℕ → List ℕ → List ℕ → ℕ → ℕ → ℕ → Words
object_entry u e name type created n ptr =
    set_two (set_two (set_two (set_two (set_word (set_word (set_words (set_words (set_word zeros 0 32768)
    1 8 (packed name)) 9 2 (packed type)) 16 u) 17 e) 20 created) 26 n) 28 (bytes_of n)) 30 ptr

module _ (choose : Vol → ℕ) (P : ℕ) where
  -- a new page in slot k of block b
  unfoldable pub extend : Vol → ℕ → ℕ → Vol
  extend v b k = pay (set_slot (claim P v (choose v)) b k (choose v)) 1

  -- ---- a user's place

  -- the first ever: user index, user page, object index
  unfoldable pub started : Vol → Vol
  started v =
      let v₁ : Vol = claim P v (choose v) in let v₂ : Vol = claim P v₁ (choose v₁) in let v₃ : Vol = claim P v₂ (choose v₂) in
      pay (set_slot (put2 (put2 v₃ 0 user_pointer (pointer indexed (choose v))) 0 object_pointer (pointer indexed (choose v₂))) (choose v) 0 (choose v₁)) 3

  -- a user page if absent
  unfoldable pub with_user_page : Vol → ℕ → Vol
  with_user_page v u = pick (user_page v u) v (extend v (page (v 0) user_pointer) (entry_page u))

  -- a subindex block, whose first slot has the index block so far
  unfoldable pub raised : Vol → Vol
  raised v =
      let v₁ : Vol = claim P v (choose v) in
      pay (put2 (set_slot v₁ (choose v) 0 (page (v 0) object_pointer)) 0 object_pointer (pointer subindexed (choose v))) 1

  unfoldable pub with_subindex : Vol → ℕ → Vol
  with_subindex v u = pick (raises v u) (raised v) v

  unfoldable pub user_place : Vol → ℕ → Vol
  user_place v u = pick (page (v 0) user_pointer) (with_subindex (with_user_page v u) u) (started v)

  unfoldable pub create_user : Vol → List ℕ → Vol
  create_user v name = let u : ℕ = new_user v in let w : Vol = user_place v u in put_entry w (user_page w u) u (user_entry u name)

  -- ---- a file's place

  -- an object index block if absent, then an object page if absent
  unfoldable pub with_index : Vol → ℕ → Vol
  with_index v e = pick (object_index v e) v (extend v (page (v 0) object_pointer) (entry_page e / 512))

  unfoldable pub with_object_page : Vol → ℕ → Vol
  with_object_page v e = pick (object_page v e) v (extend v (object_index v e) (entry_page e % 512))

  unfoldable pub file_place : Vol → ℕ → Vol
  file_place v e = with_object_page (with_index v e) e

  unfoldable pub create_indexed : Vol → ℕ → List ℕ → List ℕ → ℕ → Vol
  create_indexed v u name type created =
      let e : ℕ = file_entry u (new_file v u) in let w : Vol = file_place v e in
      put_entry w (object_page w e) e (object_entry u e name type created 0 0)

  -- the run is taken after the system pages; its pages count as used
  unfoldable pub create_contiguous : Vol → ℕ → List ℕ → List ℕ → ℕ → ℕ → Vol
  create_contiguous v u name type created n =
      let e : ℕ = file_entry u (new_file v u) in let w : Vol = file_place v e in let s : ℕ = highest_run P w n in let x : Vol = claim_run P w s n in
      put2 (put_entry x (object_page w e) e (object_entry u e name type created n s)) (user_page w u) (entry_word u + 16) (used_pages (user w) u + n)
