-- What a step knows of its file before the first write. Assumes nothing.
use Rattle.std.specs.Prelude.{◌≡◌, List, ℕ, ◌≤◌, ◌<◌}
use Rattle.sums.specs.Search.{pick}
use Rattle.book.specs.Words.{Vol, vol}
use Rattle.book.specs.Pointers.{flags, page}
use Rattle.book.specs.Entries.{user, object, user_page, object_page, used, used_pages, spare, page_count, file_pointer, file_entry}
use Rattle.book.specs.Files.{cost, need}
use Rattle.book.specs.Image.{pages, Ready}
use Rattle.book.specs.Calls.{Grows, Shrinks}
use Rattle.bits.specs.File.{BitsAt}
use Rattle.growth.specs.declared.entries.Head.{Head}

-- h is what the entries of user u and of file e say, and where they are and the bit file begins
pub record HeadOf (P : ℕ) (v : Vol) (u e : ℕ) (h : Head) : Type 0 where
  pub owner_at : h.owner ≡ user_page v u
  pub owner_in : h.owner < P
  pub entry_at : h.entry ≡ object_page v e
  pub entry_in : h.entry < P
  pub bits_at : BitsAt P v h.bits
  pub kind : h.pointer.flags ≡ flags (object v e) file_pointer
  pub top_at : h.pointer.page ≡ page (object v e) file_pointer
  pub length : h.count ≡ page_count (object v e)
  pub spent : h.used ≡ used_pages (user v) u

-- file f of user u is there, on an image that is ready, and h is its head
pub record FileHead (img : List ℕ) (u f : ℕ) (h : Head) : Type 0 where
  pub ready : Ready img
  pub user : u < 256
  pub file : f < 256
  pub there : 0 < used (object (vol img) (file_entry u f))
  pub head : HeadOf (pages img) (vol img) u (file_entry u f) h

-- it can grow by a page
pub record Growing (img : List ℕ) (u f : ℕ) (h : Head) : Type 0 where
  pub at : FileHead img u f h
  pub kind : Grows (vol img) (file_entry u f)
  pub room : need (page_count (object (vol img) (file_entry u f))) ≤ spare (vol img) u

-- it can shrink by a page
pub record Shrinking (img : List ℕ) (u f : ℕ) (h : Head) : Type 0 where
  pub at : FileHead img u f h
  pub kind : Shrinks (vol img) (file_entry u f)

-- the pages that a file of n pages holds, by the flags x of its pointer: those of a run alone, or with its blocks
unfoldable pub held_by : ℕ → ℕ → ℕ
held_by x n = pick x (cost n) n
