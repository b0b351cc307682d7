-- The number that a call comes back with: 0 is done, another one is the lowest that applies. Assumes nothing.
use Rattle.std.specs.Prelude.{◌≡◌, ◌↔◌, ◌⊎◌, List, ℕ, ◌<◌}
use Rattle.std.proofs.Math.Path.{subst}
use Rattle.std.proofs.Common.{inl, inr, arith}
use Rattle.book.specs.Answers.{Numbers}
use Rattle.book.specs.Outcome.{Call, Outcome, DoneAs, RefusedAs}
use Rattle.book.specs.Rows.{Clear, Counted, lowest-applies, lowest-counted, clear_none, Rows, end, row, Applies, Lowest, lowest-one}

-- no refusal has number 0
pub done : {A : Type 0} (C : Call A) (img : List ℕ) (r : Numbers A) (img' : List ℕ) → Counted C.table → Outcome C img r img' → r.number ≡ 0 → DoneAs C img r img'
unfolding Outcome
done C img r img' a (inl x) z = absurd (let h : 0 < r.number = lowest-counted C.table r.number a x.number in omega arith)
done C img r img' a (inr x) z = x

pub clear-done : {A : Type 0} (C : Call A) (img : List ℕ) (r : Numbers A) (img' : List ℕ) → Clear C.table → Outcome C img r img' → DoneAs C img r img'
unfolding Outcome
clear-done C img r img' c (inl x) = absurd (clear_none C.table c r.number (lowest-applies C.table r.number x.number))
clear-done C img r img' c (inr x) = x

-- all that number n asks for
unfoldable pub Asks : Rows → ℕ → Type 0
Asks end n = Unit {0}
Asks (row k A t) n = (n ≡ k → A) × Asks t n

-- where it holds, n does not apply
pub asks_none : (t : Rows) (n : ℕ) → Asks t n → Applies t n → ⊥
unfolding Asks Applies
asks_none (row k A t) n a (inl x) = x.1 (a.0 x.0)
asks_none (row k A t) n a (inr x) = asks_none t n a.1 x
asks_none end n a x'' = elim x'' [ ]

module _ {A : Type 0} (C : Call A) (img : List ℕ) (r : Numbers A) (img' : List ℕ) (o : Outcome C img r img') (n : ℕ) (some : 0 < n) where
  -- a refusal has number n exactly if n is the lowest that applies
  pub number-lowest : (r.number ≡ n) ↔ Lowest C.table n
  unfolding Outcome
  number-lowest = ((λ q. there q o), (λ l. back l o))
    where
      there : r.number ≡ n → (RefusedAs C img r img' ⊎ DoneAs C img r img') → Lowest C.table n
      there q (inl x) = subst (Lowest C.table) q x.number
      there q (inr x) = absurd (let z : ⊥ = omega (arith, x.number) in z)

      back : Lowest C.table n → (RefusedAs C img r img' ⊎ DoneAs C img r img') → r.number ≡ n
      back l (inl x) = lowest-one C.table r.number n x.number l
      back l (inr x) = absurd (clear_none C.table x.clear n (lowest-applies C.table n l))

  -- where n asks for B, and F is that B fails: n comes back exactly if F
  pub number-exact : (B F : Type 0) → (B ⊎ F) → (F → Lowest C.table n) → (B → Asks C.table n) → (r.number ≡ n) ↔ F
  number-exact B F d low ask = ((λ q. elim d [ inl b ↦ absurd (asks_none C.table n (ask b) (lowest-applies C.table n (number-lowest.0 q))) | inr f ↦ f ]), (λ f. number-lowest.1 (low f)))
