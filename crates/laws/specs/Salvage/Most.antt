-- How many words salvage changes at most: two for unreserved, a word for each 16 pages, two for each user. Assumes nothing.
use Rattle.std.specs.Prelude.{◌≡◌}
use Rattle.std.proofs.Common.{sym, ◌∙◌, inl, inr, eq-zero-or-pos}
use Rattle.std.proofs.Math.Path.{ap}
use Prim.Native.Nat.{ℕ, suc, ◌+◌, ◌-◌, ◌*◌, ◌/◌, ◌%◌, ◌≤◌, ◌<◌}
use Rattle.std.proofs.Math.Decide.{dec_lt, ℕ_discrete}
use native.Mathlib.Omega.{arith}
use Rattle.sums.specs.Sum.{sum, is, is_same, is_le, is-other, sum-at, sum-add, sum-le, sum-const, sum-swap, sum-only, sum-none}
use Rattle.book.specs.Bits.{bit_file, bit_page, bit_word}
use Rattle.book.specs.Trees.{page_at}
use Rattle.book.specs.Entries.{user_page, entry_word}
use Rattle.book.specs.Words.{Vol}
use Rattle.laws.specs.Salvage.Changes.{differ-le, differ-no}
use Rattle.laws.specs.Salvage.Mended.{mended-only}
use Rattle.book.specs.Rules.{Pointed}
use Rattle.book.specs.Salvage.{mended, differ, changed}

-- n places: among the places below M they are met at most n times
places-le : (M n : ℕ) (f : ℕ → ℕ) → sum M (λ i. sum n (λ c. is i (f c))) ≤ n
places-le M n f = omega (arith, sum-swap M n (λ i c. is i (f c)), sum-le n (λ c. sum M (λ i. is i (f c))) (λ c. 1) (λ c h. once (f c)), sum-const n 1)
  where
    once : (x : ℕ) → sum M (λ i. is i x) ≤ 1
    once x = elim (dec_lt x M) [
      | yes h ↦ omega (arith, sum-only M (λ i. is i x) x h (λ j l ne. is-other j x ne), is_le x x)
      | no h ↦ omega (arith, sum-none M (λ i. is i x) (λ j l. is-other j x (omega arith)))
    ]

module _ (P : ℕ) (v : Vol) (S : Pointed P v) (pos : 0 < P) where
  abbrev words : ℕ
  words = (P + 15) / 16

  abbrev left : ℕ → ℕ
  left c = 1022 + c

  abbrev bits : ℕ → ℕ
  bits m = 1024 * bit_page P v (16 * m) + bit_word (16 * m)

  abbrev count : ℕ → ℕ
  count u = 1024 * user_page v u + (entry_word u + 16)

  abbrev met : ℕ → ℕ
  met i = sum 2 (λ c. is i (left c)) + sum words (λ m. is i (bits m)) + (sum 256 (λ u. is i (count u)) + sum 256 (λ u. is i (suc (count u))))

  hit : (i x : ℕ) → i ≡ x → is i x ≡ 1
  hit i x e = ap (is i) (sym e) ∙ is_same i

  bit-same : (d : ℕ) → bit_page P v (16 * (d / 16)) ≡ bit_page P v d
  unfolding bit_page
  bit-same d = let e : 16 * (d / 16) / 16384 ≡ d / 16384 = omega arith in ap (page_at v (bit_file P v)) e

  differ-met : (i : ℕ) → differ v (mended P v) i ≤ met i
  differ-met i = elim (eq-zero-or-pos (met i)) [
    | inr h ↦ omega (arith, h, differ-le v (mended P v) i)
    | inl z ↦ omega (
      arith,
      differ-no v (mended P v) i (sym (mended-only P v S pos (i / 1024) (i % 1024) (λ a. elim a [
        | inl c ↦ let e : i ≡ bits (c.0 / 16) = (let q : 16 * (c.0 / 16) % 16384 / 16 ≡ c.0 % 16384 / 16 = omega arith in omega (arith, c.2, q, bit-same c.0)) in
            let r : ⊥ = omega (arith, z, sum-at words (λ m. is i (bits m)) (c.0 / 16) (omega (arith, c.1)), hit i (bits (c.0 / 16)) e) in r
        | inr b ↦ elim b [
          | inl c ↦ elim (ℕ_discrete (i % 1024) (entry_word c.0 + 16)) [
            | yes q ↦ let e : i ≡ count c.0 = omega (arith, c.3.0, q) in
                let r : ⊥ = omega (arith, z, sum-at 256 (λ u. is i (count u)) c.0 c.1, hit i (count c.0) e) in r
            | no q ↦ let e : i ≡ suc (count c.0) = omega (arith, c.3.0, c.3.1, c.3.2, q) in
                let r : ⊥ = omega (arith, z, sum-at 256 (λ u. is i (suc (count u))) c.0 c.1, hit i (suc (count c.0)) e) in r
          ]
          | inr c ↦ let e : i ≡ left (i % 1024 - 1022) = omega (arith, c.0, c.1) in
              let r : ⊥ = omega (arith, z, sum-at 2 (λ x. is i (left x)) (i % 1024 - 1022) (omega (arith, c.1, c.2)), hit i (left (i % 1024 - 1022)) e) in r
        ]
      ]))),
    )
  ]

  pub changed-most : (M : ℕ) → changed v (mended P v) M ≤ 2 + (P + 15) / 16 + 512
  unfolding changed
  changed-most M = omega (
    arith,
    sum-le M (differ v (mended P v)) met (λ i h. differ-met i),
    sum-add M (λ i. sum 2 (λ c. is i (left c)) + sum words (λ m. is i (bits m))) (λ i. sum 256 (λ u. is i (count u)) + sum 256 (λ u. is i (suc (count u)))),
    sum-add M (λ i. sum 2 (λ c. is i (left c))) (λ i. sum words (λ m. is i (bits m))),
    sum-add M (λ i. sum 256 (λ u. is i (count u))) (λ i. sum 256 (λ u. is i (suc (count u)))),
    places-le M 2 left,
    places-le M words bits,
    places-le M 256 count,
    places-le M 256 (λ u. suc (count u)),
  )
