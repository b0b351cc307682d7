-- The parts of the listing, as code goes through them. Assumes nothing.
use mathlib.Core.Path.{◌≡◌, refl, sym, ap, ap₂, ◌∙◌}
use mathlib.Core.List.{[], ◌∷◌, ◌++◌, append_assoc, append-nil}
use Prim.Native.Nat.{ℕ, zero, suc, ◌+◌, ◌-◌, ◌*◌, ◌/◌, ◌%◌, ◌≤◌, ◌<◌}
use mathlib.Core.Logic.{inl, inr}
use native.Mathlib.Nat.{add-zero, add-suc, eq-zero-or-pos}
use native.Mathlib.Numerals.{add-one}
use native.Mathlib.Omega.{arith}
use Rattle.sums.specs.Search.{pick_yes, pick_no}
use Rattle.book.specs.Words.{Words, Vol}
use Rattle.book.specs.Entries.{used, user, user_page, object_page, object_file, file_entry}
use Rattle.book.specs.Trees.{page_at}
use Rattle.tree.specs.Reach.{entry_in}
use Rattle.tree.proofs.Entries.{user-in, object-in}
use Rattle.seek.proofs.Search.{absent-used}
use Rattle.book.specs.Listing.{Bytes, joined, digits, empty, index, subindex, contiguous, kind_of, file_line, file_lines, file_of, user_line, user_lines}

-- ---- rows

pub joined-zero : (g : ℕ → Bytes) → [] ≡ joined g 0
unfolding joined
joined-zero g = refl

pub joined-one : (g : ℕ → Bytes) (n : ℕ) → joined g n ++ g n ≡ joined g (n + 1)
unfolding joined
joined-one g n = ap (joined g) (sym (add-one n))

-- n rows, and m more
pub joined-add : (g : ℕ → Bytes) (n m : ℕ) → joined g n ++ joined (λ k. g (n + k)) m ≡ joined g (n + m)
unfolding joined
joined-add g n zero = append-nil (joined g n) ∙ ap (joined g) (sym (add-zero n))
joined-add g n (suc m) =
    sym (append_assoc (joined g n) (joined (λ k. g (n + k)) m) (g (n + m)))
    ∙ ap (λ (t : Bytes). t ++ g (n + m)) (joined-add g n m) ∙ ap (joined g) (sym (add-suc n m))

pub joined-ext : (g h : ℕ → Bytes) (n : ℕ) → ((i : ℕ) → i < n → g i ≡ h i) → joined g n ≡ joined h n
unfolding joined
joined-ext g h zero e = refl
joined-ext g h (suc n) e = ap₂ (λ (a b : Bytes). a ++ b) (joined-ext g h n (λ i l. e i (omega arith))) (e n (omega arith))

pub joined-none : (g : ℕ → Bytes) (n : ℕ) → ((i : ℕ) → i < n → g i ≡ []) → [] ≡ joined g n
unfolding joined
joined-none g zero e = refl
joined-none g (suc n) e = ap₂ (λ (a b : Bytes). a ++ b) (joined-none g n (λ i l. e i (omega arith))) (sym (e n (omega arith)))

-- ---- digits

pub digits-none : (k n : ℕ) → k ≡ 0 → [] ≡ digits k n
unfolding digits
digits-none k n e = ap (λ (x : ℕ). digits x n) (sym e)

pub digits_last : (k n : ℕ) → (k ≡ 0 → ⊥) → n < 10 → (48 + n) ∷ [] ≡ digits k n
unfolding digits
digits_last zero n h l = absurd (h refl)
digits_last (suc k) n h l =
    let z : n / 10 ≡ 0 = omega arith in
    let m : n ≡ n % 10 = omega arith in
    ap (λ (x : ℕ). (48 + x) ∷ []) m ∙ ap (λ (t : Bytes). t ++ ((48 + n % 10) ∷ [])) (sym (pick_no (n / 10) (digits k (n / 10)) [] z))

pub digits_more : (k n : ℕ) → (k ≡ 0 → ⊥) → 10 ≤ n → digits (k - 1) (n / 10) ++ ((48 + n % 10) ∷ []) ≡ digits k n
unfolding digits
digits_more zero n h l = absurd (h refl)
digits_more (suc k) n h l =
    let s : suc k - 1 ≡ k = omega arith in
    ap (λ (x : ℕ). digits x (n / 10) ++ ((48 + n % 10) ∷ [])) s
    ∙ ap (λ (t : Bytes). t ++ ((48 + n % 10) ∷ [])) (sym (pick_yes (n / 10) (digits k (n / 10)) [] (omega arith)))

-- ---- kinds

pub kind-index : (x n : ℕ) → x ≡ 1 → index ≡ kind_of x n
unfolding kind_of
kind-index x n e = ap (λ (y : ℕ). kind_of y n) (sym e)

pub kind-subindex : (x n : ℕ) → (x ≡ 1 → ⊥) → (x ≡ 0 → ⊥) → subindex ≡ kind_of x n
unfolding kind_of
kind-subindex zero n a b = absurd (b refl)
kind-subindex (suc zero) n a b = absurd (a refl)
kind-subindex (suc (suc x)) n a b = refl

pub kind-empty : (x n : ℕ) → x ≡ 0 → n ≡ 0 → empty ≡ kind_of x n
unfolding kind_of
kind-empty x n e z = sym (pick_no n contiguous empty z) ∙ ap (λ (y : ℕ). kind_of y n) (sym e)

pub kind-contiguous : (x n : ℕ) → x ≡ 0 → (n ≡ 0 → ⊥) → contiguous ≡ kind_of x n
unfolding kind_of
kind-contiguous x n e h = sym (pick_yes n contiguous empty (omega arith)) ∙ ap (λ (y : ℕ). kind_of y n) (sym e)

-- ---- entries

pub lines_none : (f : ℕ) (w : Words) → (0 < used w → ⊥) → [] ≡ file_lines f w
unfolding file_lines
lines_none f w h = sym (pick_no (used w) (file_line f w) [] (omega arith))

pub lines-one : (f : ℕ) (w : Words) → 0 < used w → file_line f w ≡ file_lines f w
unfolding file_lines
lines-one f w h = sym (pick_yes (used w) (file_line f w) [] h)

-- a user who is there has a page
pub user-there : (v : Vol) (u q : ℕ) → q ≡ user_page v u → 0 < used (user v u) → 0 < q
user-there v u q e h = elim (eq-zero-or-pos q) [
  | inl z ↦ let r : ⊥ = omega (arith, h, absent-used v q u z, ap used (user-in v u q e)) in absurd r
  | inr p ↦ p
]

-- ---- the files on a page: page i of user u's 8 is page q of the volume

module _ (v : Vol) (u i q : ℕ) (at : q ≡ object_page v (256 * u + 32 * i)) where
  pub file-on : (k : ℕ) → k < 32 → file_lines (32 * i + k) (entry_in v q (256 * u + 32 * i + k)) ≡ file_of v u (32 * i + k)
  unfolding file_of object_page
  file-on k h =
      let s : 256 * u + 32 * i + k ≡ file_entry u (32 * i + k) = omega arith in
      let p : (256 * u + 32 * i) / 32 ≡ file_entry u (32 * i + k) / 32 = omega arith in
      ap (λ (n : ℕ). file_lines (32 * i + k) (entry_in v q n)) s
      ∙ ap (file_lines (32 * i + k)) (object-in v (file_entry u (32 * i + k)) q (at ∙ ap (page_at v (object_file v)) p))

  -- an absent page has no lines
  pub page-none : q ≡ 0 → [] ≡ joined (λ k. file_of v u (32 * i + k)) 32
  page-none z = joined-none (λ k. file_of v u (32 * i + k)) 32 (λ k h.
      sym (file-on k h) ∙ sym (lines_none _ _ (λ p. let r : ⊥ = omega (arith, p, absent-used v q (256 * u + 32 * i + k) z) in r)))

-- ---- users

pub user-none : (v : Vol) (u : ℕ) → (0 < used (user v u) → ⊥) → [] ≡ user_lines v u
unfolding user_lines
user-none v u h = sym (pick_no (used (user v u)) (user_line (user v) u ++ joined (file_of v u) 256) [] (omega arith))

pub user-one : (v : Vol) (u : ℕ) → 0 < used (user v u) → user_line (user v) u ++ joined (file_of v u) 256 ≡ user_lines v u
unfolding user_lines
user-one v u h = sym (pick_yes (used (user v u)) (user_line (user v) u ++ joined (file_of v u) 256) [] h)
