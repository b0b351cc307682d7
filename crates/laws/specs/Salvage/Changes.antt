-- The list of changes: exactly the words that differ, in ascending place, each once; no other list is so. Assumes nothing.
use Rattle.std.specs.Prelude.{◌≡◌, ◌≢◌, get_or, take}
use Rattle.std.proofs.Math.Path.{refl, ap}
use Rattle.std.proofs.Common.{sym, ◌∙◌, subst, not-suc-le-zero, eq-zero-or-pos, take-suc, take_all, length-take-le, get_or-take}
use Rattle.std.proofs.Math.Logic.{inl, inr}
use mathlib.Core.List.{List, [], ◌∷◌, ◌++◌, append-nil}
use Prim.Native.Nat.{ℕ, zero, suc, ◌+◌, ◌*◌, ◌≤◌, ◌<◌}
use Rattle.std.proofs.Math.Decide.{ℕ_discrete, dec_lt}
use native.Mathlib.Omega.{arith}
use Rattle.std.proofs.Math.ListN.{length, length-append, get_or-append}
use Rattle.std.proofs.lemmas.List.{get_or_at}
use Rattle.sums.specs.Search.{pick_yes, pick_no}
use Rattle.sums.specs.Sum.{sum, is, is_same, is-other, is_eq, is_le}
use Rattle.book.specs.Words.{Vol}
use Rattle.book.specs.declared.Change.{Change}
use Rattle.book.specs.Salvage.{word_at, differ, change, changes, changed}

-- the record's place, and a record that stands for none
abbrev pub place : Change → ℕ
place c = 1024 * c.page + c.word

abbrev pub blank : Change
blank = record { page = 0; word = 0; old = 0; new = 0 }

pub record Lists (v w : Vol) (n : ℕ) (l : List Change) : Type 0 where
  -- each record tells of a word that differs
  pub right : (i : ℕ) → i < length l → (j : ℕ) × (j < n) × (word_at v j ≢ word_at w j) × (get_or l i blank ≡ change v w j)
  -- in ascending place
  pub ascends : (i k : ℕ) → i < k → k < length l → place (get_or l i blank) < place (get_or l k blank)
  -- and each word that differs is told of
  pub whole : (j : ℕ) → j < n → word_at v j ≢ word_at w j → (i : ℕ) × (i < length l) × (get_or l i blank ≡ change v w j)

module _ (v w : Vol) where
  pub differ-le : (j : ℕ) → differ v w j ≤ 1
  unfolding differ
  differ-le j = omega arith

  pub differ-yes : (j : ℕ) → word_at v j ≢ word_at w j → differ v w j ≡ 1
  unfolding differ
  differ-yes j n = omega (arith, is-other (word_at v j) (word_at w j) n)

  pub differ-no : (j : ℕ) → word_at v j ≡ word_at w j → differ v w j ≡ 0
  unfolding differ
  differ-no j e = omega (arith, ap (is (word_at v j)) e, is_same (word_at v j))

  pub differs : (j : ℕ) → 0 < differ v w j → word_at v j ≢ word_at w j
  differs j h e = let r : ⊥ = omega (arith, h, differ-no j e) in r

  pub agrees : (j : ℕ) → differ v w j ≡ 0 → word_at v j ≡ word_at w j
  unfolding differ
  agrees j z = is_eq (word_at v j) (word_at w j) (omega (arith, z, is_le (word_at v j) (word_at w j)))

  place_is : (j : ℕ) → place (change v w j) ≡ j
  place_is j = omega arith

  -- ---- the number of changes below a place is the index of the record for that place

  pub changed-zero : changed v w 0 ≡ 0
  unfolding changed sum
  changed-zero = refl

  pub changed-suc : (n : ℕ) → changed v w (suc n) ≡ changed v w n + differ v w n
  unfolding changed sum
  changed-suc n = refl

  pub changed-le : (j n : ℕ) → j ≤ n → changed v w j ≤ changed v w n
  changed-le j zero h = let e : j ≡ 0 = omega arith in omega (arith, ap (changed v w) e)
  changed-le j (suc n) h = elim (ℕ_discrete j (suc n)) [
    | yes e ↦ omega (arith, ap (changed v w) e)
    | no m ↦ omega (arith, changed-le j n (omega arith), changed-suc n)
  ]

  pub changed-lt : (j n : ℕ) → j < n → 0 < differ v w j → changed v w j < changed v w n
  changed-lt j n h d = omega (arith, changed-suc j, changed-le (suc j) n h)

  -- the place of change i
  pub changed-find : (n i : ℕ) → i < changed v w n → (j : ℕ) × (j < n) × (0 < differ v w j) × (changed v w j ≡ i)
  changed-find zero i h = absurd (let r : ⊥ = omega (arith, h, changed-zero) in r)
  changed-find (suc n) i h = elim (dec_lt i (changed v w n)) [
    | yes l ↦ let r = changed-find n i l in (r.0, omega (arith, r.1), r.2, r.3)
    | no l ↦ (n, omega arith, omega (arith, h, changed-suc n, l), omega (arith, h, changed-suc n, l, differ-le n))
  ]

  pub changes-yes : (n : ℕ) → 0 < differ v w n → changes v w (suc n) ≡ changes v w n ++ (change v w n ∷ [])
  unfolding changes
  changes-yes n h = ap (λ (l : List Change). changes v w n ++ l) (pick_yes (differ v w n) (change v w n ∷ []) [] h)

  pub changes-no : (n : ℕ) → differ v w n ≡ 0 → changes v w (suc n) ≡ changes v w n
  unfolding changes
  changes-no n h = ap (λ (l : List Change). changes v w n ++ l) (pick_no (differ v w n) (change v w n ∷ []) [] h) ∙ append-nil (changes v w n)

  pub changes-none : changes v w 0 ≡ []
  unfolding changes
  changes-none = refl

  -- as many as differ
  pub changes-length : (n : ℕ) → length (changes v w n) ≡ changed v w n
  unfolding changes changed sum
  changes-length zero = refl
  changes-length (suc n) = elim (eq-zero-or-pos (differ v w n)) [
    | inl z ↦ ap length (changes-no n z) ∙ omega (arith, changes-length n, changed-suc n, z)
    | inr h ↦ ap length (changes-yes n h) ∙ length-append (changes v w n) (change v w n ∷ []) ∙ omega (arith, changes-length n, changed-suc n, h, differ-le n)
  ]

  -- the record of place j
  pub changes-at : (n j : ℕ) → j < n → 0 < differ v w j → get_or (changes v w n) (changed v w j) blank ≡ change v w j
  changes-at zero j h d = absurd (not-suc-le-zero h)
  changes-at (suc n) j h d = elim (ℕ_discrete j n) [
    | yes e ↦ subst (λ (x : ℕ). get_or (changes v w (suc n)) (changed v w x) blank ≡ change v w x) (sym e)
        (ap (λ (l : List Change). get_or l (changed v w n) blank) (changes-yes n (subst (λ (x : ℕ). 0 < differ v w x) e d))
        ∙ get_or_at (changes v w n) (change v w n) [] blank (changed v w n) (changes-length n))
    | no ne ↦ elim (eq-zero-or-pos (differ v w n)) [
      | inl z ↦ ap (λ (l : List Change). get_or l (changed v w j) blank) (changes-no n z) ∙ changes-at n j (omega arith) d
      | inr q ↦ ap (λ (l : List Change). get_or l (changed v w j) blank) (changes-yes n q)
          ∙ get_or-append (changes v w n) (change v w n ∷ []) blank (changed v w j) (omega (arith, changes-length n, changed-lt j n (omega arith) d))
          ∙ changes-at n j (omega arith) d
    ]
  ]

  -- ---- it is the list, and no other is

  pub changes-lists : (n : ℕ) → Lists v w n (changes v w n)
  changes-lists n = record {
    right = λ i h. let f = find i h in (f.0, f.1, differs f.0 f.2, told i h);
    ascends = λ i k l h. let f = find i (omega arith) in let g = find k h in
        let a : place (get_or (changes v w n) i blank) ≡ f.0 = ap place (told i (omega arith)) ∙ place_is f.0 in
        let c : place (get_or (changes v w n) k blank) ≡ g.0 = ap place (told k h) ∙ place_is g.0 in
        let lt : f.0 < g.0 = elim (dec_lt f.0 g.0) [ yes y ↦ y | no y ↦ absurd (let r : ⊥ = omega (arith, changed-le g.0 f.0 (omega (arith, y)), f.3, g.3, l) in r) ] in
        omega (arith, a, c, lt);
    whole = λ j h ne. let d : 0 < differ v w j = omega (arith, differ-yes j ne) in
        (changed v w j, omega (arith, changes-length n, changed-lt j n h d), changes-at n j h d);
  }
    where
      find : (i : ℕ) → i < length (changes v w n) → (j : ℕ) × (j < n) × (0 < differ v w j) × (changed v w j ≡ i)
      find i h = changed-find n i (omega (arith, h, changes-length n))

      told : (i : ℕ) (h : i < length (changes v w n)) → get_or (changes v w n) i blank ≡ change v w (find i h).0
      told i h = let f = find i h in ap (λ (x : ℕ). get_or (changes v w n) x blank) (sym f.3) ∙ changes-at n f.0 f.1 f.2

  nil : (l : List Change) → ((i : ℕ) → i < length l → ⊥) → l ≡ []
  nil [] h = refl
  nil (x ∷ xs) h = absurd (h 0 (omega arith))

  last : (n : ℕ) (l : List Change) → Lists v w (suc n) l → ((m : List Change) → Lists v w n m → m ≡ changes v w n) → 0 < differ v w n → (i : ℕ) × (i < length l) × (get_or l i blank ≡ change v w n) → l ≡ changes v w (suc n)
  last n l L before q (i, h, e) =
      sym (take_all (suc i) l (omega (arith, end))) ∙ take-suc l i blank h
      ∙ ap (λ (c : Change). take i l ++ (c ∷ [])) e ∙ ap (λ (m : List Change). m ++ (change v w n ∷ [])) (before (take i l) less) ∙ sym (changes-yes n q)
    where
      at_i : place (get_or l i blank) ≡ n
      at_i = ap place e ∙ place_is n

      end : suc i ≡ length l
      end = elim (dec_lt (suc i) (length l)) [
        | yes m ↦ let r = L.right (suc i) m in
            absurd (let z : ⊥ = omega (arith, L.ascends i (suc i) (omega arith) m, at_i, ap place r.3 ∙ place_is r.0, r.1) in z)
        | no m ↦ omega (arith, h, m)
      ]

      size : length (take i l) ≡ i
      size = length-take-le i l (omega (arith, h))

      in-l : (m : ℕ) → m < length (take i l) → get_or (take i l) m blank ≡ get_or l m blank
      in-l m k = get_or-take i l m blank (omega (arith, k, size))

      less : Lists v w n (take i l)
      less = record {
        right = λ m k. let r = L.right m (omega (arith, k, size, h)) in
            (r.0, omega (arith, L.ascends m i (omega (arith, k, size)) h, at_i, ap place r.3 ∙ place_is r.0), r.2, in-l m k ∙ r.3);
        ascends = λ m k o p. omega (arith, L.ascends m k o (omega (arith, p, size, h)), ap place (in-l m (omega (arith, o, p))), ap place (in-l k p));
        whole = λ j k ne. let r = L.whole j (omega (arith, k)) ne in
            let o : r.0 < i = elim (ℕ_discrete r.0 i) [
              | yes x ↦ absurd (let z : ⊥ = omega (arith, k, at_i, ap (λ (y : ℕ). place (get_or l y blank)) x, ap place r.2 ∙ place_is j) in z)
              | no x ↦ omega (arith, r.1, end, x)
            ] in
            (r.0, omega (arith, o, size), in-l r.0 (omega (arith, o, size)) ∙ r.2);
      }

  pub lists-one : (n : ℕ) (l : List Change) → Lists v w n l → l ≡ changes v w n
  lists-one zero l L = nil l (λ i h. not-suc-le-zero (L.right i h).1) ∙ sym changes-none
  lists-one (suc n) l L = elim (eq-zero-or-pos (differ v w n)) [
    | inl z ↦ lists-one n l record {
      right = λ i h. let r = L.right i h in
          (r.0, elim (ℕ_discrete r.0 n) [ yes e ↦ absurd (r.2 (agrees r.0 (ap (differ v w) e ∙ z))) | no ne ↦ omega (arith, r.1, ne) ], r.2, r.3);
      ascends = L.ascends;
      whole = λ j h ne. L.whole j (omega (arith, h)) ne;
    } ∙ sym (changes-no n z)
    | inr q ↦ last n l L (λ m M. lists-one n m M) q (L.whole n (omega arith) (differs n q))
  ]

-- equal volumes: nothing is listed
pub same_lists : (v w : Vol) → w ≡ v → (n : ℕ) → (changed v w n ≡ 0) × (changes v w n ≡ [])
same_lists v w e n = (z n, zero-list n)
  where
    d : (j : ℕ) → differ v w j ≡ 0
    d j = differ-no v w j (sym (ap (λ (x : Vol). word_at x j) e))

    z : (n : ℕ) → changed v w n ≡ 0
    z zero = changed-zero v w
    z (suc n) = omega (arith, changed-suc v w n, z n, d n)

    zero-list : (n : ℕ) → changes v w n ≡ []
    zero-list zero = changes-none v w
    zero-list (suc n) = changes-no v w n (d n) ∙ zero-list n
