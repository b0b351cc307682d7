-- decimal n is the one text of digits, without zeros in front, that stands for n. Assumes nothing.
use Rattle.std.specs.Prelude.{◌≡◌, refl, [], ◌∷◌, ◌++◌, ℕ, zero, suc, ◌+◌, ◌-◌, ◌*◌, ◌/◌, ◌%◌, ◌^◌, ◌≤◌, ◌<◌, length, get_or}
use Rattle.std.proofs.Common.{sym, ap, ap₂, subst, ◌∙◌, inl, inr, le_refl, le_trans, not-suc-le-zero, eq-zero-or-pos, pow-suc, arith, length-append}
use Rattle.std.proofs.Math.Decide.{dec_lt}
use Rattle.std.proofs.Math.ListN.{get_or-append}
use Rattle.std.proofs.Math.Seq.{get_or-append_seam}
use Rattle.sums.specs.Search.{pick, pick_yes, pick_no}
use Rattle.book.specs.Listing.{Bytes, digits, decimal}
use Rattle.book.specs.Decimal.{read_on, value, Digit, Digits, Numeral}

-- ---- decimal n stands for n

read-last : (n : ℕ) (s : Bytes) (b : ℕ) → read_on n (s ++ (b ∷ [])) ≡ read_on n s * 10 + (b - 48)
unfolding read_on
read-last n [] b = refl
read-last n (a ∷ s) b = read-last (n * 10 + (a - 48)) s b

digits-back : (k n : ℕ) → n < 10 ^ k → value (digits k n) ≡ n
unfolding digits read_on
digits-back zero n h = let l : n < 1 = h in omega (arith, l)
digits-back (suc k) n h =
    let rest : value (digits k (n / 10)) ≡ n / 10 = digits-back k (n / 10) (omega (arith, h, pow-suc 10 k)) in
    let front : value (pick (n / 10) (digits k (n / 10)) []) ≡ n / 10 = elim (eq-zero-or-pos (n / 10)) [
      | inl z ↦ ap (read_on 0) (pick_no (n / 10) (digits k (n / 10)) [] z) ∙ sym z
      | inr p ↦ ap (read_on 0) (pick_yes (n / 10) (digits k (n / 10)) [] p) ∙ rest
    ] in
    read-last 0 (pick (n / 10) (digits k (n / 10)) []) _ ∙ omega (arith, front)

pub decimal-back : (n : ℕ) → n < 10000000000 → value (decimal n) ≡ n
decimal-back n h = digits-back 10 n h

-- ---- and is a numeral

digits_last : (l : Bytes) (b : ℕ) → Digits l → Digit b → Digits (l ++ (b ∷ []))
digits_last l b a d i h = elim (dec_lt i (length l)) [
  | yes j ↦ subst Digit (sym (get_or-append l (b ∷ []) 0 i j)) (a i j)
  | no j ↦ subst (λ (x : ℕ). Digit (get_or (l ++ (b ∷ [])) x 0)) (let e : length l ≡ i = omega (arith, length-append l (b ∷ [])) in e)
      (subst Digit (sym (get_or-append_seam l b [] 0)) d)
]

digits-pick : (x : ℕ) (l : Bytes) → Digits l → Digits (pick x l [])
unfolding pick
digits-pick zero l a i h = absurd (not-suc-le-zero h)
digits-pick (suc x) l a i h = a i h

digits-all : (k n : ℕ) → Digits (digits k n)
unfolding digits
digits-all zero n i h = absurd (not-suc-le-zero h)
digits-all (suc k) n i h =
    digits_last (pick (n / 10) (digits k (n / 10)) []) (48 + n % 10) (digits-pick (n / 10) (digits k (n / 10)) (digits-all k (n / 10))) (omega arith, omega arith) i h

first_of : (l t : Bytes) → 48 < get_or l 0 0 → 48 < get_or (l ++ t) 0 0
first_of [] t h = absurd (let r : ⊥ = omega (arith, h) in r)
first_of (b ∷ l) t h = h

digits-first : (k n : ℕ) → 0 < n → n < 10 ^ k → 48 < get_or (digits k n) 0 0
unfolding digits
digits-first zero n p h = absurd (let l : n < 1 = h in let r : ⊥ = omega (arith, l, p) in r)
digits-first (suc k) n p h = elim (eq-zero-or-pos (n / 10)) [
  | inl z ↦ subst (λ (l : Bytes). 48 < get_or (l ++ ((48 + n % 10) ∷ [])) 0 0) (sym (pick_no (n / 10) (digits k (n / 10)) [] z)) (omega (arith, z, p))
  | inr q ↦ subst (λ (l : Bytes). 48 < get_or (l ++ ((48 + n % 10) ∷ [])) 0 0) (sym (pick_yes (n / 10) (digits k (n / 10)) [] q))
      (first_of (digits k (n / 10)) ((48 + n % 10) ∷ []) (digits-first k (n / 10) q (omega (arith, h, pow-suc 10 k))))
]

digits-any : (k n : ℕ) → 0 < length (digits (suc k) n)
unfolding digits
digits-any k n = omega (arith, length-append (pick (n / 10) (digits k (n / 10)) []) ((48 + n % 10) ∷ []))

zero-alone : (k n : ℕ) → n ≡ 0 → length (digits (suc k) n) ≡ 1
unfolding digits pick
zero-alone k n z = ap (λ (x : ℕ). length (digits (suc k) x)) z

pub decimal-numeral : (n : ℕ) → n < 10000000000 → Numeral (decimal n)
decimal-numeral n h = record {
  any = digits-any 9 n;
  all = digits-all 10 n;
  first = λ l. elim (eq-zero-or-pos n) [
    | inl z ↦ absurd (let r : ⊥ = omega (arith, l, zero-alone 9 n z) in r)
    | inr p ↦ digits-first 10 n p h
  ];
}

-- ---- no other numeral stands for n

read_more : (n : ℕ) (t : Bytes) → n ≤ read_on n t
unfolding read_on
read_more n [] = le_refl n
read_more n (b ∷ t) = le_trans (let l : n ≤ n * 10 + (b - 48) = omega arith in l) (read_more (n * 10 + (b - 48)) t)

-- a text that is not empty has a last byte
last_of : (a : ℕ) (l : Bytes) → (s : Bytes) × (b : ℕ) × (a ∷ l ≡ s ++ (b ∷ []))
last_of a [] = ([], a, refl)
last_of a (c ∷ l) = let r = last_of c l in (a ∷ r.0, r.1, ap (λ (t : Bytes). a ∷ t) r.2)

last_byte : (t : Bytes) → 0 < length t → (s : Bytes) × (b : ℕ) × (t ≡ s ++ (b ∷ []))
last_byte [] h = absurd (not-suc-le-zero h)
last_byte (a ∷ l) h = last_of a l

module _ (s : Bytes) (b : ℕ) (N : Numeral (s ++ (b ∷ []))) where
  last-digit : Digit b
  last-digit = subst Digit (get_or-append_seam s b [] 0) (N.all (length s) (omega (arith, length-append s (b ∷ []))))

  front-all : Digits s
  front-all i h = subst Digit (get_or-append s (b ∷ []) 0 i h) (N.all i (omega (arith, length-append s (b ∷ []))))

-- the front of a numeral is one too, or is empty
front-digits : (k : ℕ) (s : Bytes) (b : ℕ) → Numeral (s ++ (b ∷ [])) → (Numeral s → digits k (value s) ≡ s) → pick (value s) (digits k (value s)) [] ≡ s
unfolding read_on
front-digits k [] b N same = pick_no 0 (digits k 0) [] refl
front-digits k (c ∷ s) b N same =
    let f : 48 < c = N.first (omega (arith, length-append (c ∷ s) (b ∷ []))) in
    pick_yes (value (c ∷ s)) (digits k (value (c ∷ s))) [] (omega (arith, f, read_more (0 * 10 + (c - 48)) s))
    ∙ same (record { any = omega arith; all = front-all (c ∷ s) b N; first = λ l. f })

digits-snoc : (k : ℕ) (s : Bytes) (b : ℕ) → Numeral (s ++ (b ∷ [])) → (Numeral s → digits k (value s) ≡ s) → digits (suc k) (value (s ++ (b ∷ []))) ≡ s ++ (b ∷ [])
unfolding digits
digits-snoc k s b N same =
    let v : value (s ++ (b ∷ [])) ≡ value s * 10 + (b - 48) = read-last 0 s b in
    let d : Digit b = last-digit s b N in
    let front : value (s ++ (b ∷ [])) / 10 ≡ value s = omega (arith, v, d.0, d.1) in
    let last : 48 + value (s ++ (b ∷ [])) % 10 ≡ b = omega (arith, v, d.0, d.1) in
    ap₂ (λ (x y : ℕ). pick x (digits k x) [] ++ (y ∷ [])) front last ∙ ap (λ (l : Bytes). l ++ (b ∷ [])) (front-digits k s b N same)

digits_of : (k : ℕ) (t : Bytes) → length t ≤ k → Numeral t → digits k (value t) ≡ t
digits_of zero t h N = absurd (let r : ⊥ = omega (arith, h, N.any) in r)
digits_of (suc k) t h N =
    let r = last_byte t N.any in
    let e : t ≡ r.0 ++ (r.1 ∷ []) = r.2 in
    subst (λ (x : Bytes). digits (suc k) (value x) ≡ x) (sym e)
    (digits-snoc k r.0 r.1 (subst Numeral e N) (digits_of k r.0 (omega (arith, h, ap length e, length-append r.0 (r.1 ∷ [])))))

pub decimal-one : (n : ℕ) (t : Bytes) → Numeral t → length t ≤ 10 → value t ≡ n → t ≡ decimal n
decimal-one n t N h e = sym (digits_of 10 t h N) ∙ ap (digits 10) e
