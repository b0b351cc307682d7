-- The writing pass: the changes of the row are stored into the image one after the other, which then is the mended one. Assumes nothing.
use mathlib.Core.Path.{◌≡◌, refl, sym, ap, ap₂, ◌∙◌}
use mathlib.Core.Logic.{inl, inr}
use mathlib.Core.List.{List}
use Prim.Native.Nat.{ℕ, zero, suc, ◌+◌, ◌*◌, ◌/◌, ◌%◌, ◌≤◌, ◌<◌}
use native.Mathlib.Nat.{eq-zero-or-pos}
use native.Mathlib.Omega.{arith}
use lib.ListN.{length, get_or, set, length-set}
use Rattle.book.specs.Words.{Vol, vol, put}
use Rattle.book.specs.Written.{vol-set}
use Rattle.laws.specs.Salvage.Changes.{changed-zero, changed-suc, differ-le, agrees}
use Rattle.book.specs.Salvage.{word_at, differ, changed}
use Rattle.salvage.specs.Applied.{packed_place, packed_new, applied}
use Rattle.salvage.proofs.Sweep.{mix, Alike, mix-none, mix-step, mix-skip}

pub applied-none : (img row : List ℕ) → applied img row 0 ≡ img
unfolding applied
applied-none img row = refl

pub applied-more : (img row : List ℕ) (n p x : ℕ) → p ≡ packed_place (get_or row n 0) → x ≡ packed_new (get_or row n 0) → set (applied img row n) p x ≡ applied img row (n + 1)
unfolding applied
applied-more img row n p x e f = let m : suc n ≡ n + 1 = omega arith in ap₂ (set (applied img row n)) e f ∙ ap (applied img row) m

pub applied-length : (img row : List ℕ) (n : ℕ) → length (applied img row n) ≡ length img
unfolding applied
applied-length img row zero = refl
applied-length img row (suc n) = length-set (applied img row n) _ _ ∙ applied-length img row n

module _ (v w : Vol) where
  -- a row that starts with the changes below M: after those below m are stored, the image is swept up to m
  module _ (a : Alike v w) (img row : List ℕ) (e : vol img ≡ v) (M : ℕ) (big : M ≤ length img)
      (told : (j : ℕ) → j < M → 0 < differ v w j → (packed_place (get_or row (changed v w j) 0) ≡ j) × (packed_new (get_or row (changed v w j) 0) ≡ word_at w j)) where
    pub applied-mix : (m : ℕ) → m ≤ M → vol (applied img row (changed v w m)) ≡ mix v w m
    unfolding applied
    applied-mix zero h = ap (λ (n : ℕ). vol (applied img row n)) (changed-zero v w) ∙ e ∙ sym (mix-none v w)
    applied-mix (suc m) h = elim (eq-zero-or-pos (differ v w m)) [
      | inl z ↦
          let c : changed v w (suc m) ≡ changed v w m = omega (arith, changed-suc v w m, z) in
          ap (λ (n : ℕ). vol (applied img row n)) c ∙ applied-mix m (omega arith)
          ∙ mix-skip v w a m (suc m) (omega arith) (λ p k hk l g. let i : 1024 * p + k ≡ m = omega arith in let ip : p ≡ m / 1024 = omega arith in let ik : k ≡ m % 1024 = omega arith in
          ap₂ w ip ik ∙ sym (agrees v w m z) ∙ sym (ap₂ v ip ik))
      | inr d ↦
          let c : changed v w (suc m) ≡ suc (changed v w m) = omega (arith, changed-suc v w m, d, differ-le v w m) in
          let t = told m (omega arith) d in
          let p : packed_place (get_or row (changed v w m) 0) ≡ 1024 * (m / 1024) + m % 1024 = omega (arith, t.0) in
          ap (λ (n : ℕ). vol (applied img row n)) c
          ∙ ap₂ (λ (i y : ℕ). vol (set (applied img row (changed v w m)) i y)) p t.1
          ∙ vol-set (applied img row (changed v w m)) (m / 1024) (m % 1024) (word_at w m) (omega arith) (omega (arith, applied-length img row (changed v w m), big, h))
          ∙ ap (λ (y : Vol). put y (m / 1024) (m % 1024) (word_at w m)) (applied-mix m (omega arith)) ∙ mix-step v w a m
    ]
