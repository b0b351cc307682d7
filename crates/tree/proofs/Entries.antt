-- Entries on a page that is known. Assumes nothing.
use mathlib.Core.Path.{◌≡◌, sym, ap, ap₂, ◌∙◌, subst, fun_ext}
use mathlib.Core.List.{List}
use Prim.Native.Nat.{ℕ, suc, ◌+◌, ◌*◌, ◌/◌, ◌%◌, ◌<◌}
use native.Mathlib.Nat.{add_assoc}
use native.Mathlib.Omega.{arith}
use lib.ListN.{length}
use Rattle.book.specs.Words.{Words, Vol, two, word}
use Rattle.book.specs.Written.{word-pos}
use Rattle.book.specs.Pointers.{flags, page, flags_above}
use Rattle.book.specs.Trees.{run, root_by}
use Rattle.book.specs.Entries.{entry_word, entry, user, object, user_page, object_page, used}
use Rattle.book.specs.Files.{file_at}
use Rattle.book.specs.Names.{end_of, stored}
use Rattle.laws.specs.File.Stored.{stored-length, stored-words}
use Rattle.laws.specs.Tree.Pointer.{file-unused, file-used}
use Rattle.laws.specs.Tree.Slot.{word-zero}
use Rattle.tree.specs.Reach.{entry_in}
use Rattle.tree.proofs.Reach.{root-read}

-- ---- users and objects

pub user-in : (v : Vol) (u q : ℕ) → q ≡ user_page v u → entry_in v q u ≡ user v u
unfolding user user_page entry
user-in v u q e = fun_ext (λ k. ap (λ (p : ℕ). word v p (entry_word u + k)) e)

pub object-in : (v : Vol) (n q : ℕ) → q ≡ object_page v n → entry_in v q n ≡ object v n
unfolding object object_page entry
object-in v n q e = fun_ext (λ k. ap (λ (p : ℕ). word v p (entry_word n + k)) e)

-- an entry is used where its page shows it so
pub used-in : (v : Vol) (n q : ℕ) → q ≡ object_page v n → used (entry_in v q n) ≡ used (object v n)
used-in v n q e = ap used (object-in v n q e)

-- the file in object entry n, from the entry's page q
module _ (v : Vol) (n q : ℕ) (at : q ≡ object_page v n) where
  pub file-in : 0 < used (entry_in v q n) → (x t m : ℕ) → x ≡ flags (entry_in v q n) 30 → t ≡ page (entry_in v q n) 30 → m ≡ two (entry_in v q n) 26 → file_at v n ≡ root_by x t m
  file-in h x t m a b c =
      let o : entry_in v q n ≡ object v n = object-in v n q at in
      file-used v n (subst (λ (w : Words). 0 < used w) o h)
      ∙ root-read (object v n) 30 (two (object v n) 26) x t m (a ∙ ap (λ (w : Words). flags w 30) o) (b ∙ ap (λ (w : Words). page w 30) o) (c ∙ ap (λ (w : Words). two w 26) o)

  pub file-in-none : (0 < used (entry_in v q n) → ⊥) → file_at v n ≡ run 0 0
  file-in-none h = file-unused v n (let u : used (entry_in v q n) ≡ used (object v n) = used-in v n q at in omega arith)

-- ---- as code reads an entry

-- on an absent page
module _ (v : Vol) (q n k : ℕ) (z : q ≡ 0) where
  pub absent-word : entry_in v q n k ≡ 0
  absent-word = ap (λ (p : ℕ). word v p (entry_word n + k)) z ∙ word-zero v (entry_word n + k)

module _ (v : Vol) (q n k : ℕ) (z : q ≡ 0) where
  pub absent-two : two (entry_in v q n) k ≡ 0
  unfolding two
  absent-two = omega (arith, absent-word v q n k z, absent-word v q n (suc k) z)

  pub absent-page : page (entry_in v q n) k ≡ 0
  unfolding page
  absent-page = omega (arith, absent-word v q n k z, absent-word v q n (suc k) z)

  pub absent-flags : flags (entry_in v q n) k ≡ 0
  unfolding flags
  absent-flags = omega (arith, absent-word v q n k z)

-- on a page that is there, from the entry's first word w
module _ (v : Vol) (q n w k : ℕ) (h : 0 < q) (e : w ≡ entry_word n) where
  pub there-word : v q (w + k) ≡ entry_in v q n k
  there-word = ap (λ (j : ℕ). v q (j + k)) e ∙ sym (word-pos v q (entry_word n + k) h)

  there-next : v q (suc (w + k)) ≡ entry_in v q n (suc k)
  there-next =
      let s : suc (w + k) ≡ entry_word n + suc k = omega arith in
      ap (v q) s ∙ sym (word-pos v q (entry_word n + suc k) h)

  pub there-two : two (v q) (w + k) ≡ two (entry_in v q n) k
  unfolding two
  there-two = ap₂ (λ (x y : ℕ). x * 65536 + y) there-word there-next

  pub there-page : page (v q) (w + k) ≡ page (entry_in v q n) k
  unfolding page
  there-page = ap₂ (λ (x y : ℕ). x % flags_above * 65536 + y) there-word there-next

  pub there-flags : flags (v q) (w + k) ≡ flags (entry_in v q n) k
  unfolding flags
  there-flags = ap (λ (x : ℕ). x / flags_above) there-word

-- so it stores the name that stands there
pub there-stored : (v : Vol) (q e w k n : ℕ) → 0 < q → w ≡ entry_word e → stored n (v q) (w + k) ≡ stored n (entry_in v q e) k
there-stored v q e w k n h a = stored-words n (v q) (entry_in v q e) (w + k) k (λ i l. ap (v q) (add_assoc w k (i / 2)) ∙ there-word v q e w (k + i / 2) h a)

pub there-end : (v : Vol) (q e w k n : ℕ) → 0 < q → w ≡ entry_word e → end_of n (v q) (w + k) ≡ end_of n (entry_in v q e) k
there-end v q e w k n h a = sym (stored-length n (v q) (w + k)) ∙ ap (λ (s : List ℕ). length s) (there-stored v q e w k n h a) ∙ stored-length n (entry_in v q e) k
