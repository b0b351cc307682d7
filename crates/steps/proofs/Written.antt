-- Each step as the code writes it: the numbers that it read, then its words one write after the other. Assumes nothing.
use Rattle.std.proofs.Common.{◌≡◌, ℕ, ◌+◌, ◌-◌, List, get_or, ap, ◌∙◌, ap₂}
use Rattle.book.specs.Words.{Words, Vol, put, put2, put_words, zeros}
use Rattle.book.specs.Trees.{page_at}
use Rattle.book.specs.Entries.{user, given, unreserved, user_page, object_page, entry_word, one_more}
use Rattle.book.specs.Files.{file_at}
use Rattle.book.specs.Steps.{moved, give_step, take_step, write_step, open_step}
use Rattle.book.specs.Delete.{delete_user}
use Rattle.book.specs.Pointers.{unreserved_count}
use Rattle.tree.specs.Reach.{entry_in}
use Rattle.tree.proofs.Entries.{object-in}

-- ---- counts, of user u whose entry is at word k of page q

module _ (v v₁ v₂ : Vol) (u q k : ℕ) (page : q ≡ user_page v u) (place : k ≡ entry_word u) where
  pub moved-is : (g s : ℕ) → v₁ ≡ put2 v q (k + 14) g → v₂ ≡ put2 v₁ 0 unreserved_count s → v₂ ≡ moved v u g s
  unfolding moved
  moved-is g s a b = b ∙ ap (λ (w : Vol). put2 w 0 unreserved_count s) (a ∙ ap₂ (λ (p j : ℕ). put2 v p (j + 14) g) page place)

  pub deleted-is : (g s : ℕ) → g ≡ given (user v) u → s ≡ unreserved v → v₁ ≡ put_words v q k 32 zeros → v₂ ≡ put2 v₁ 0 unreserved_count (s + g) → v₂ ≡ delete_user v u
  unfolding delete_user
  deleted-is g s eg es a b =
      b ∙ ap₂ (λ (x y : ℕ). put2 v₁ 0 unreserved_count (x + y)) es eg
      ∙ ap (λ (w : Vol). put2 w 0 unreserved_count (unreserved v + given (user v) u)) (a ∙ ap₂ (λ (p j : ℕ). put_words v p j 32 zeros) page place)

-- ---- files

-- object entry e is at word k of page q; x opens become y
pub opened-is : (v w : Vol) (e q k x y : ℕ) → q ≡ object_page v e → k ≡ entry_word e → x ≡ entry_in v q e 19 → y ≡ one_more x → w ≡ put v q (k + 19) y → w ≡ open_step v e
unfolding open_step
opened-is v w e q k x y eq ek ex ey ew =
    ew ∙ ap₂ (λ (p j : ℕ). put v p (j + 19) y) eq ek
    ∙ ap (put v (object_page v e) (entry_word e + 19)) (ey ∙ ap one_more (ex ∙ ap (λ (f : Words). f 19) (object-in v e q eq)))

-- position n is page p
pub written_is : (v w : Vol) (e n p : ℕ) (d : List ℕ) → p ≡ page_at v (file_at v e) n → w ≡ put_words v p 0 1024 (λ k. get_or d k 0) → w ≡ write_step v e n d
unfolding write_step
written_is v w e n p d ep ew = ew ∙ ap (λ (q : ℕ). put_words v q 0 1024 (λ k. get_or d k 0)) ep
