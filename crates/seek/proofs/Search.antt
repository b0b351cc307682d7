-- Searches through the entries of a file, page by page. Assumes nothing.
use mathlib.Core.Path.{◌≡◌, sym, ap, ap₂, ◌∙◌, subst, fun_ext}
use mathlib.Core.List.{List}
use lib.ListN.{length}
use mathlib.Core.Bool.{Bool, true, false}
use Prim.Native.Nat.{ℕ, ◌+◌, ◌-◌, ◌*◌, ◌/◌, ◌%◌, ◌≤◌, ◌<◌}
use native.Mathlib.Nat.{zero-add}
use native.Mathlib.Decide.{dec_lt}
use native.Mathlib.Omega.{arith}
use Rattle.std.specs.Prelude.{Option, Some, None, MatchOption, unwrap_or}
use Rattle.std.specs.Bool.{MatchBool}
use Rattle.std.specs.List.{AllWithin, HoldsAt, range_with_len}
use Rattle.std.proofs.lemmas.List.FromFn.{get_or-range_with_len, length-range_with_len}
use Rattle.sums.specs.Search.{lowest, lowest-at, lowest-none}
use Rattle.book.specs.Words.{Words, Vol, word}
use Rattle.book.specs.Trees.{Root, page_at}
use Rattle.book.specs.Entries.{entry, used, user, object, user_file, object_file, file_entry}
use Rattle.book.specs.Decides.{Decides}
use Rattle.book.specs.Calls.{IsUser, IsFile}
use Rattle.tree.specs.Reach.{entry_in}
use Rattle.tree.proofs.Entries.{absent-word}
use Rattle.seek.specs.Search.{FoundBy, Fits}

-- ---- answers

-- a search for one thing is a search for every thing that says the same
pub found-iff : (A B : ℕ → Type 0) (r : Option ℕ) → ((i : ℕ) → A i → B i) → ((i : ℕ) → B i → A i) → FoundBy A r → FoundBy B r
found-iff A B (Some i) f g d = f i d
found-iff A B None f g d = λ i b. d i (g i b)

-- where the answer is known
pub found_at : (A : ℕ → Type 0) (r : Option ℕ) (i : ℕ) → r ≡ Some i → FoundBy A r → A i
found_at A r i e d = subst (λ (x : Option ℕ). FoundBy A x) e d

pub found_none : (A : ℕ → Type 0) (r : Option ℕ) → r ≡ None → FoundBy A r → (i : ℕ) → A i → ⊥
found_none A r e d = subst (λ (x : Option ℕ). FoundBy A x) e d

-- ---- searches through the numbers below n, as std's methods on a range answer them

-- `find` answers one of which A holds
pub first-found : (A : ℕ → Type 0) (n : ℕ) (r : Option ℕ) → MatchOption r ((k : ℕ) → 0 ≤ k → k < n → A k → ⊥) (λ i. (0 ≤ i) × (i < n) × A i × ((k : ℕ) → 0 ≤ k → k < i → A k → ⊥))
    → FoundBy (λ (k : ℕ). (k < n) × A k) r
first-found A n (Some i) d = (d.1, d.2)
first-found A n None d = λ i h. d i (omega arith) h.0 h.1

-- the first where f is 0, or n, is the lowest of the book
pub first-lowest : (f : ℕ → ℕ) (n : ℕ) (r : Option ℕ) → MatchOption r ((k : ℕ) → 0 ≤ k → k < n → 0 < f k) (λ i. (0 ≤ i) × (i < n) × (f i ≡ 0) × ((k : ℕ) → 0 ≤ k → k < i → 0 < f k))
    → (unwrap_or r n ≡ lowest (λ i. 1 - f i) n) × (unwrap_or r n ≤ n)
first-lowest f n (Some i) d = (sym (lowest-at (λ j. 1 - f j) n i d.1 (omega (arith, d.2)) (λ j h. omega (arith, d.3 j (omega arith) h))), omega (arith, d.1))
first-lowest f n None d = (sym (lowest-none (λ j. 1 - f j) n (λ j h. omega (arith, d j (omega arith) h))), omega arith)

-- `all` decides whether A holds of each
pub all-range : (A : ℕ → Type 0) (n : ℕ) (b : Bool)
    → MatchBool b (AllWithin A (range_with_len 0 n) 0 (length (range_with_len 0 n))) ((k : ℕ) × (k < length (range_with_len 0 n)) × HoldsAt (λ x. A x → ⊥) (range_with_len 0 n) k)
    → Decides b ((k : ℕ) → k < n → A k)
all-range A n true d = λ k h. subst A (get_or-range_with_len 0 n k 0 h ∙ zero-add k) (d k 0 (omega arith) (omega (arith, length-range_with_len 0 n)))
all-range A n false d = λ h. let l : d.0 < n = omega (arith, d.1, length-range_with_len 0 n) in
    d.2 0 (subst A (sym (get_or-range_with_len 0 n d.0 0 l ∙ zero-add d.0)) (h d.0 l))

-- ---- tests

-- two of three hold, and the third is decided
pub decides-last : (b : Bool) (A B C : Type 0) → A → B → Decides b C → Decides b (A × B × C)
decides-last true A B C x y d = (x, y, d)
decides-last false A B C x y d = λ h. d h.2

-- ---- entries on a page

-- none is used on an absent page
pub absent-used : (v : Vol) (q k : ℕ) → q ≡ 0 → used (entry_in v q k) ≡ 0
unfolding used
absent-used v q k z = ap (λ (x : ℕ). x / 32768) (absent-word v q k 0 z)

-- entry k of page i from page b on is entry n from that page on
module _ (v : Vol) (r : Root) (b i q : ℕ) (at : q ≡ page_at v r (b + i)) where
  pub entry-on : (k n : ℕ) → k < 32 → n ≡ 32 * i + k → entry_in v q k ≡ entry v r (32 * b + n)
  unfolding entry
  entry-on k n h e =
      let p : b + i ≡ (32 * b + n) / 32 = omega arith in
      let w : 32 * (k % 32) ≡ 32 * ((32 * b + n) % 32) = omega arith in
      fun_ext (λ j. ap₂ (λ (x y : ℕ). word v x (y + j)) (at ∙ ap (page_at v r) p) w)

  -- found on the page
  pub found-on : (F : Words → Type 0) (k n : ℕ) → i < 8 → n ≡ 32 * i + k → (k < 32) × F (entry_in v q k) → (n < 256) × F (entry v r (32 * b + n))
  found-on F k n h e d = (omega arith, subst F (entry-on k n d.0 e) d.1)

  -- not on the pages before, and not on this one
  pub none-on : (F : Words → Type 0) → ((n : ℕ) → n < 32 * i → F (entry v r (32 * b + n)) → ⊥) → ((k : ℕ) → (k < 32) × F (entry_in v q k) → ⊥)
      → (n : ℕ) → n < 32 * (i + 1) → F (entry v r (32 * b + n)) → ⊥
  none-on F before here n h d = elim (dec_lt n (32 * i)) [
    | yes l ↦ before n l d
    | no l ↦
        let k : ℕ = n - 32 * i in
        let e : n ≡ 32 * i + k = omega arith in
        let s : k < 32 = omega arith in
        here k (s, subst F (sym (entry-on k n s e)) d)
  ]

-- ---- users and files: the entries from page b of the file at r on

pub users-found : (v : Vol) (r : Root) (name : List ℕ) (x : Option ℕ) → user_file v ≡ r → FoundBy (λ (n : ℕ). (n < 256) × Fits name None (entry v r (32 * 0 + n))) x → FoundBy (IsUser v name) x
unfolding user
users-found v r name x e = found-iff _ _ x
    (λ n h. let d = subst (Fits name None) (at n) h.1 in (h.0, d.0, d.1))
    (λ n h. (h.0, subst (Fits name None) (sym (at n)) (h.1, h.2, tt)))
  where
    at : (n : ℕ) → entry v r (32 * 0 + n) ≡ user v n
    at n = ap₂ (entry v) (sym e) (zero-add n)

pub files-found : (v : Vol) (r : Root) (u : ℕ) (name type : List ℕ) (x : Option ℕ) → object_file v ≡ r → FoundBy (λ (n : ℕ). (n < 256) × Fits name (Some type) (entry v r (32 * (8 * u) + n))) x → FoundBy (IsFile v u name type) x
unfolding object
files-found v r u name type x e = found-iff _ _ x
    (λ n h. let d = subst (Fits name (Some type)) (at n) h.1 in (h.0, d.0, d.1, d.2))
    (λ n h. (h.0, subst (Fits name (Some type)) (sym (at n)) (h.1, h.2, h.3)))
  where
    at : (n : ℕ) → entry v r (32 * (8 * u) + n) ≡ object v (file_entry u n)
    at n = let s : 32 * (8 * u) + n ≡ file_entry u n = omega arith in ap₂ (entry v) (sym e) s
