-- Blocks as parts of 1,024 words. Assumes nothing.
use mathlib.Core.Path.{◌≡◌, refl, sym, ap, ◌∙◌, subst}
use mathlib.Core.Bool.{Bool}
use mathlib.Core.List.{List}
use Prim.Native.Nat.{ℕ, suc, ◌+◌, ◌-◌, ◌*◌, ◌/◌, ◌≤◌, ◌<◌}
use native.Mathlib.Nat.{add-sub_cancel_left}
use native.Mathlib.Numerals.{add-one}
use native.Mathlib.Decide.{dec_lt}
use native.Mathlib.Omega.{arith}
use lib.Bits.{bit_or, or_add_and, and_le_l, and_le_r}
use lib.ListN.{length, get_or, take, drop, length-drop}
use lib.Seq.{length-take-le, get_or-take, get_or-drop}
use Rattle.book.specs.Decides.{Decides}
use Rattle.book.specs.Pointers.{slot}
use Rattle.book.specs.Words.{vol, two, zeros}
use Rattle.page.specs.Parts.{Begins}
use Rattle.page.proofs.Deciding.{decides-iff}
use Rattle.page.proofs.Slots.{slot-two}
use Rattle.tree.specs.Blocks.{Either, pointer_in, Wrong, Unlinked, End}

pub either_is : (a b : ℕ) → Either a b (bit_or a b)
either_is a b = record {
  none = λ e f. omega (arith, or_add_and a b);
  both = λ e. (omega (arith, or_add_and a b, and_le_l a b, and_le_r a b), omega (arith, or_add_and a b, and_le_l a b, and_le_r a b));
}

-- ---- a pointer

-- as code reads it
pub pointer_read : (block : List ℕ) (i r : ℕ) → r ≡ get_or block (2 * i) 0 * 65536 + get_or block (2 * i + 1) 0 → r ≡ pointer_in block i
unfolding two
pointer_read block i r e = e ∙ ap (λ (k : ℕ). get_or block (2 * i) 0 * 65536 + get_or block k 0) (add-one (2 * i))

pub wrong-at : (block : List ℕ) (i least P r : ℕ) → Wrong (get_or block (2 * i) 0 * 65536 + get_or block (2 * i + 1) 0) least P r → Wrong (pointer_in block i) least P r
wrong-at block i least P r w = subst (λ (p : ℕ). Wrong p least P r) (pointer_read block i _ refl) w

-- it is zero where its words are
pointer-zero : (block : List ℕ) (i : ℕ) → get_or block (2 * i) 0 ≡ 0 → get_or block (suc (2 * i)) 0 ≡ 0 → pointer_in block i ≡ 0
unfolding two
pointer-zero block i a b = omega arith

zero-pointer : (block : List ℕ) (i : ℕ) → pointer_in block i ≡ 0 → (get_or block (2 * i) 0 ≡ 0) × (get_or block (suc (2 * i)) 0 ≡ 0)
unfolding two
zero-pointer block i e = (omega arith, omega arith)

-- ---- the part of an image that code lends for page b

abbrev pub part_of : List ℕ → ℕ → List ℕ
part_of img b = take (1024 * b + 1024 - 1024 * b) (drop (1024 * b) img)

pub part-slot : (img : List ℕ) (b : ℕ) → 0 < b → (i : ℕ) → pointer_in (part_of img b) i ≡ slot (vol img) b i
unfolding vol
part-slot img b h i =
    ap (λ (n : ℕ). pointer_in (take n (drop (1024 * b) img)) i) (add-sub_cancel_left (1024 * b) 1024) ∙ sym (slot-two (vol img) b i h)

-- ---- pointers n to z - 1 as a part of their block

module _ (block : List ℕ) (n z : ℕ) (room : 2 * z ≤ length block) (order : n ≤ z) where
  abbrev row : List ℕ
  row = take (2 * z - 2 * n) (drop (2 * n) block)

  row_at : (i j : ℕ) → j ≡ 2 * n + i → i < 2 * z - 2 * n → get_or row i 0 ≡ get_or block j 0
  row_at i j e h = get_or-take (2 * z - 2 * n) (drop (2 * n) block) i 0 h ∙ get_or-drop (2 * n) block i 0 ∙ ap (λ (k : ℕ). get_or block k 0) (sym e)

  row-length : length row ≡ 2 * z - 2 * n
  row-length = length-take-le (2 * z - 2 * n) (drop (2 * n) block) (omega (arith, length-drop (2 * n) block))

  row-blank : Begins (length row) row zeros → Unlinked block n z
  row-blank b i h l =
      let m = row-length in
      pointer-zero block i
      (sym (row_at (2 * i - 2 * n) (2 * i) (omega arith) (omega arith)) ∙ b (2 * i - 2 * n) (omega arith))
      (sym (row_at (2 * i + 1 - 2 * n) (suc (2 * i)) (omega arith) (omega arith)) ∙ b (2 * i + 1 - 2 * n) (omega arith))

  blank-row : Unlinked block n z → Begins (length row) row zeros
  blank-row u j h =
      let m = row-length in
      row_at j (2 * n + j) (omega arith) (omega arith) ∙ word_of (2 * n + j) (omega arith) (omega arith)
    where
      word_of : (k : ℕ) → k < 2 * z → 2 * n ≤ k → get_or block k 0 ≡ 0
      word_of k h l = let p = zero-pointer block (k / 2) (u (k / 2) (omega arith) (omega arith)) in elim (dec_lt (2 * (k / 2)) k) [
        | yes i ↦ ap (λ (m : ℕ). get_or block m 0) (let e : k ≡ suc (2 * (k / 2)) = omega arith in e) ∙ p.1
        | no i ↦ ap (λ (m : ℕ). get_or block m 0) (let e : k ≡ 2 * (k / 2) = omega arith in e) ∙ p.0
      ]

  pub decides-row : (r : Bool) → Decides r (Begins (length row) row zeros) → Decides r (Unlinked block n z)
  decides-row r = decides-iff r _ _ row-blank blank-row

-- ---- the end of a block

module _ (block : List ℕ) where
  pub end-all : End block 512
  end-all = record { most = omega arith; none = λ i h l. absurd (let z : ⊥ = omega arith in z) }

  -- earlier, where the pointers between are zero
  pub end-less : (m n : ℕ) → m ≤ n → End block n → Unlinked block m n → End block m
  end-less m n h d u = record {
    most = omega (arith, d.most);
    none = λ i j l. elim (dec_lt i n) [
      | yes k ↦ u i k l
      | no k ↦ d.none i j (omega arith)
    ];
  }

  -- one slot earlier
  pub end_before : (n : ℕ) → 0 < n → End block n → pointer_in block (n - 1) ≡ 0 → End block (n - 1)
  end_before n h d e = end-less (n - 1) n (omega arith) d (λ i j l. ap (pointer_in block) (let q : i ≡ n - 1 = omega arith in q) ∙ e)
