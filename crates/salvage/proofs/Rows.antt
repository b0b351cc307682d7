-- The row of the first pass: one word noted, a gap, the end; unpacked, it is the list of changes. Assumes nothing.
use mathlib.Core.Path.{◌≡◌, refl, sym, ap, ap₂, ◌∙◌}
use mathlib.Core.Logic.{◌≢◌}
use mathlib.Core.List.{List, [], ◌∷◌, ◌++◌, map, map-append}
use Prim.Native.Nat.{ℕ, suc, ◌+◌, ◌/◌, ◌%◌, ◌≤◌, ◌<◌}
use native.Mathlib.Decide.{ℕ_discrete}
use native.Mathlib.Omega.{arith}
use lib.ListN.{length, get_or, take, set, length-set, get_or-map}
use lib.Seq.{take-suc-set, get_or-take}
use Rattle.book.specs.Words.{Vol, vol}
use Rattle.book.specs.Calls.{salvaged}
use Rattle.book.specs.Salvage.{word_at, differ, change, changed}
use Rattle.book.specs.declared.Change.{Change}
use Rattle.laws.specs.Salvage.Changes.{blank, changed-zero, changed-suc, changed-lt, changes-none, changes-yes, changes-no, changes-at, differ-yes, differ-no}
use Rattle.salvage.specs.Row.{packed_change, unpacked, row_size, RowTells, Noted}
use Rattle.salvage.specs.Applied.{packed_place, packed_new}
use Rattle.salvage.proofs.Sweep.{changes-skip}

-- ---- one change as a number

pub unpack : (i old new : ℕ) → old < 65536 → new < 65536 → unpacked (packed_change i old new) ≡ record { page = i / 1024; word = i % 1024; old = old; new = new }
unfolding unpacked
unpack i old new ho hn =
    let a : packed_change i old new / 4398046511104 ≡ i / 1024 = omega arith in
    let b : packed_change i old new / 4294967296 % 1024 ≡ i % 1024 = omega arith in
    let c : packed_change i old new / 65536 % 65536 ≡ old = omega arith in
    let d : packed_change i old new % 65536 ≡ new = omega arith in
    ap (λ (x : ℕ). mk x (packed_change i old new / 4294967296 % 1024) (packed_change i old new / 65536 % 65536) (packed_change i old new % 65536)) a
    ∙ ap (λ (x : ℕ). mk (i / 1024) x (packed_change i old new / 65536 % 65536) (packed_change i old new % 65536)) b
    ∙ ap (λ (x : ℕ). mk (i / 1024) (i % 1024) x (packed_change i old new % 65536)) c ∙ ap (λ (x : ℕ). mk (i / 1024) (i % 1024) old x) d
  where
    mk : ℕ → ℕ → ℕ → ℕ → Change
    mk x y z t = record { page = x; word = y; old = z; new = t }

-- ---- a word noted, or not

module _ (row : List ℕ) (i old x n : ℕ) where
  pub noted-same : old ≡ x → Noted row i old x n row n
  noted-same e = record { same = λ h. (refl, refl); told = λ h. absurd (h e) }

  pub noted-told : (y : ℕ) → old ≢ x → y ≡ packed_change i old x → Noted row i old x n (set row n y) (n + 1)
  noted-told y ne e = record { same = λ h. absurd (ne h); told = λ h. (ap (set row n) e, omega arith) }

-- ---- the row at place i

module _ (img : List ℕ) where
  abbrev v : Vol
  v = vol img

  abbrev w : Vol
  w = salvaged img

  pub told-start : (row : List ℕ) → length row ≡ row_size → RowTells img 0 row 0
  told-start row l = record { begins = sym (changes-none v w); count = sym (changed-zero v w); size = l }

  -- places that do not change are passed over
  pub told-skip : (i m : ℕ) → i ≤ m → ((j : ℕ) → i ≤ j → j < m → word_at w j ≡ word_at v j) → (row : List ℕ) (n : ℕ) → RowTells img i row n → RowTells img m row n
  told-skip i m h f row n s = let e = changes-skip v w i m h f in record { begins = s.begins ∙ sym e.0; count = s.count ∙ sym e.1; size = s.size }

  -- one word is noted
  pub told-step : (i : ℕ) (row : List ℕ) (n : ℕ) → RowTells img i row n → n < row_size → word_at v i < 65536 → word_at w i < 65536
      → (row' : List ℕ) (r : ℕ) → Noted row i (word_at v i) (word_at w i) n row' r → RowTells img (suc i) row' r
  told-step i row n s hr ho hn row' r A = elim (ℕ_discrete (word_at v i) (word_at w i)) [
    | yes e ↦ let z : differ v w i ≡ 0 = differ-no v w i e in let q = A.same e in record {
      begins = first q.1 q.0 ∙ s.begins ∙ sym (changes-no v w i z);
      count = q.1 ∙ omega (arith, s.count, changed-suc v w i, z);
      size = ap length q.0 ∙ s.size;
    }
    | no ne ↦ let d : 0 < differ v w i = omega (arith, differ-yes v w i ne) in let q = A.told ne in let x : ℕ = packed_change i (word_at v i) (word_at w i) in record {
      begins = first q.1 q.0 ∙ ap (map unpacked) (take-suc-set row n x (omega (arith, s.size, hr))) ∙ map-append unpacked (take n row) (x ∷ [])
          ∙ ap₂ (λ (l : List Change) (c : Change). l ++ (c ∷ [])) s.begins (unpack i (word_at v i) (word_at w i) ho hn) ∙ sym (changes-yes v w i d);
      count = q.1 ∙ omega (arith, s.count, changed-suc v w i, differ-yes v w i ne);
      size = ap length q.0 ∙ length-set row n _ ∙ s.size;
    }
  ]
    where
      first : {a b : ℕ} {l m : List ℕ} → a ≡ b → l ≡ m → map unpacked (take a l) ≡ map unpacked (take b m)
      first e f = ap₂ (λ (k : ℕ) (l : List ℕ). map unpacked (take k l)) e f

  -- the row tells of each place that differs: where it is, and the new value
  pub told_at : (i : ℕ) (row : List ℕ) (n : ℕ) → RowTells img i row n → (j : ℕ) → j < i → 0 < differ v w j
      → (packed_place (get_or row (changed v w j) 0) ≡ j) × (packed_new (get_or row (changed v w j) 0) ≡ word_at w j)
  unfolding unpacked
  told_at i row n s j h d =
      let k : ℕ = changed v w j in
      let x : ℕ = get_or row k 0 in
      let t : unpacked x ≡ change v w j = ap unpacked (sym (get_or-take n row k 0 (omega (arith, s.count, changed-lt v w j i h d))))
      ∙ sym (get_or-map unpacked (take n row) k 0) ∙ ap (λ (l : List Change). get_or l k blank) s.begins ∙ changes-at v w i j h d in
      let a : x / 4398046511104 ≡ j / 1024 = ap (λ (c : Change). c.page) t in
      let b : x / 4294967296 % 1024 ≡ j % 1024 = ap (λ (c : Change). c.word) t in
      (omega (arith, a, b), ap (λ (c : Change). c.new) t)
