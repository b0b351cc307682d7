-- A volume of up to 16,384 pages has one bit page, and the rules say of it what document 01 says: each rule that speaks of the bit file holds
-- exactly where it holds of one page. So it is judged as before the bit file became a run. Assumes nothing.
use Rattle.std.specs.Prelude.{◌≡◌, ℕ, ◌+◌, ◌/◌, ◌%◌, ◌≤◌, ◌<◌}
use Rattle.std.proofs.Math.Path.{sym, ap, subst}
use Rattle.std.proofs.Common.{ap₂, ◌∙◌, inl, inr}
use native.Mathlib.Omega.{arith}
use Rattle.sums.specs.Sum.{sum, is}
use Rattle.book.specs.Words.{Vol, word}
use Rattle.book.specs.Pointers.{flags, page, plain, bit_pointer, volume_name}
use Rattle.book.specs.Trees.{Root, run, page_at, weigh_r}
use Rattle.book.specs.Bits.{page_bits, bit_word, bit_pages, bit_file, bit_page, bit, digit}
use Rattle.book.specs.Entries.{user, used, used_pages, grant, user_file, object_file, object, unreserved}
use Rattle.book.specs.Holders.{hit, some, mine, system, all, holders, system_pages}
use Rattle.book.specs.Names.{LegalName}
use Rattle.book.specs.Rules.{Rule1, Rule2, Rule3, Rule4, Rule5, Rule6, Rule7, Rule8, Rule9, Rule10, Sound, rules_of, rules}
use Rattle.book.specs.Rows.{Rows, end, row, Lowest}
use Rattle.laws.specs.Frame.Roots.{upto-in}

-- ---- document 01's words: the bit file is page b, and page p is bit p % 16 of its word p / 16

abbrev pub one_bit : Vol → ℕ → ℕ
one_bit v p = digit (p % 16) (word v (page (v 0) bit_pointer) (p / 16))

-- how many hold page p, and the system pages, with f for the bit file
abbrev pub held_with : Root → Vol → ℕ → ℕ
held_with f v p = is p 0 + (weigh_r v f (hit p) + weigh_r v (user_file v) (hit p) + weigh_r v (object_file v) (hit p) + sum 256 (λ u. mine v u (hit p)))

abbrev pub system_with : Root → Vol → ℕ
system_with f v = 1 + (weigh_r v f some + weigh_r v (user_file v) some + weigh_r v (object_file v) some)

-- the four rules that speak of it
pub record Rule1One (P : ℕ) (v : Vol) : Type 0 where
  pub name : LegalName (v 0) volume_name
  pub unflagged : flags (v 0) bit_pointer ≡ plain
  pub start : 0 < page (v 0) bit_pointer
  pub below : page (v 0) bit_pointer < P

abbrev pub Rule8With : Root → ℕ → Vol → Type 0
Rule8With f P v = (p : ℕ) → p < P → held_with f v p ≤ 1

abbrev pub Rule9With : Root → (ℕ → ℕ) → ℕ → Vol → Type 0
Rule9With f t P v = (p : ℕ) → p < P → (t p ≡ 1 → 0 < held_with f v p) × (0 < held_with f v p → t p ≡ 1)

abbrev pub Rule10With : Root → ℕ → Vol → Type 0
Rule10With f P v = ((u : ℕ) → u < 256 → 0 < used (user v u) → used_pages (user v) u ≡ mine v u some)
    × (unreserved v + sum 256 (grant (user v)) + system_with f v ≡ P)

abbrev pub one_file : Vol → Root
one_file v = run (page (v 0) bit_pointer) 1

-- all ten
pub record SoundOne (P : ℕ) (v : Vol) : Type 0 where
  pub r1 : Rule1One P v
  pub r2 : Rule2 P v
  pub r3 : Rule3 P v
  pub r4 : Rule4 (user v)
  pub r5 : Rule5 P v
  pub r6 : Rule6 (user v) (object v)
  pub r7 : Rule7 P v
  pub r8 : Rule8With (one_file v) P v
  pub r9 : Rule9With (one_file v) (one_bit v) P v
  pub r10 : Rule10With (one_file v) P v

-- and as a table
unfoldable pub rules_one : ℕ → Vol → Rows
rules_one P v =
    row 1 (Rule1One P v) (row 2 (Rule2 P v) (row 3 (Rule3 P v) (row 4 (Rule4 (user v)) (row 5 (Rule5 P v) (row 6 (Rule6 (user v) (object v))
    (row 7 (Rule7 P v) (row 8 (Rule8With (one_file v) P v) (row 9 (Rule9With (one_file v) (one_bit v) P v) (row 10 (Rule10With (one_file v) P v) end)))))))))

-- one row that asks for the same, and what follows on it
row-alike : (k : ℕ) (A B : Type 0) (t u : Rows) (n : ℕ) → (A → B) → (B → A) → (Lowest t n → Lowest u n) → Lowest (row k A t) n → Lowest (row k B u) n
unfolding Lowest
row-alike k A B t u n f g h (inl e) = inl (e.0, λ b. e.1 (g b))
row-alike k A B t u n f g h (inr r) = inr (f r.0, h r.1)

row_same : (k : ℕ) (A : Type 0) (t u : Rows) (n : ℕ) → (Lowest t n → Lowest u n) → Lowest (row k A t) n → Lowest (row k A u) n
row_same k A t u n = row-alike k A A t u n (λ a. a) (λ a. a)

-- ---- rule by rule

module _ (P : ℕ) (v : Vol) (pos : 0 < P) (few : P ≤ page_bits) where
  pub one-file : bit_file P v ≡ one_file v
  unfolding bit_file
  one-file = ap (run (page (v 0) bit_pointer)) (let e : bit_pages P ≡ 1 = omega arith in e)

  pub one-page : (p : ℕ) → p < P → bit_page P v p ≡ page (v 0) bit_pointer
  unfolding bit_page bit_file page_at
  one-page p h = upto-in (p / page_bits) (bit_pages P) (page (v 0) bit_pointer + p / page_bits) (omega arith) ∙ omega arith

  pub one_bit_lem : (p : ℕ) → p < P → bit P v p ≡ one_bit v p
  unfolding bit
  one_bit_lem p h = ap (digit (p % 16)) (ap₂ (word v) (one-page p h) (let e : bit_word p ≡ p / 16 = omega arith in e))

  pub one-1 : Rule1 P v → Rule1One P v
  one-1 r = record { name = r.name; unflagged = r.unflagged; start = r.start; below = omega (arith, r.fits) }

  pub run-1 : Rule1One P v → Rule1 P v
  run-1 r = record { name = r.name; unflagged = r.unflagged; start = r.start; fits = omega (arith, r.below) }

  pub one-8 : Rule8 P v → Rule8With (one_file v) P v
  unfolding Rule8 holders all system
  one-8 r = subst (λ (f : Root). Rule8With f P v) one-file r

  pub run-8 : Rule8With (one_file v) P v → Rule8 P v
  unfolding Rule8 holders all system
  run-8 r = subst (λ (f : Root). Rule8With f P v) (sym one-file) r

  pub one-9 : Rule9 P v → Rule9With (one_file v) (one_bit v) P v
  unfolding Rule9 holders all system
  one-9 r = subst (λ (f : Root). Rule9With f (one_bit v) P v) one-file (λ p h. ((λ e. (r p h).0 (one_bit_lem p h ∙ e)), λ q. sym (one_bit_lem p h) ∙ (r p h).1 q))

  pub run-9 : Rule9With (one_file v) (one_bit v) P v → Rule9 P v
  unfolding Rule9 holders all system
  run-9 r = let s : Rule9With (bit_file P v) (one_bit v) P v = subst (λ (f : Root). Rule9With f (one_bit v) P v) (sym one-file) r in
      λ p h. ((λ e. (s p h).0 (sym (one_bit_lem p h) ∙ e)), λ q. one_bit_lem p h ∙ (s p h).1 q)

  pub one-10 : Rule10 P v → Rule10With (one_file v) P v
  unfolding Rule10 system_pages system
  one-10 r = subst (λ (f : Root). Rule10With f P v) one-file r

  pub run-10 : Rule10With (one_file v) P v → Rule10 P v
  unfolding Rule10 system_pages system
  run-10 r = subst (λ (f : Root). Rule10With f P v) (sym one-file) r

  -- ---- the verdict

  pub one-sound : Sound P v → SoundOne P v
  one-sound S = record { r1 = one-1 S.r1; r2 = S.r2; r3 = S.r3; r4 = S.r4; r5 = S.r5; r6 = S.r6; r7 = S.r7; r8 = one-8 S.r8; r9 = one-9 S.r9; r10 = one-10 S.r10 }

  pub run_sound : SoundOne P v → Sound P v
  run_sound S = record { r1 = run-1 S.r1; r2 = S.r2; r3 = S.r3; r4 = S.r4; r5 = S.r5; r6 = S.r6; r7 = S.r7; r8 = run-8 S.r8; r9 = run-9 S.r9; r10 = run-10 S.r10 }

  -- the lowest broken rule is the same
  pub one-lowest : (n : ℕ) → Lowest (rules P v) n → Lowest (rules_one P v) n
  unfolding rules_of rules_one
  one-lowest n =
      row-alike 1 _ _ _ _ n one-1 run-1 (row_same 2 _ _ _ n (row_same 3 _ _ _ n (row_same 4 _ _ _ n (row_same 5 _ _ _ n (row_same 6 _ _ _ n (row_same 7 _ _ _ n
      (row-alike 8 _ _ _ _ n one-8 run-8 (row-alike 9 _ _ _ _ n one-9 run-9 (row-alike 10 _ _ end end n one-10 run-10 (λ x. x))))))))))

  pub run-lowest : (n : ℕ) → Lowest (rules_one P v) n → Lowest (rules P v) n
  unfolding rules_of rules_one
  run-lowest n =
      row-alike 1 _ _ _ _ n run-1 one-1 (row_same 2 _ _ _ n (row_same 3 _ _ _ n (row_same 4 _ _ _ n (row_same 5 _ _ _ n (row_same 6 _ _ _ n (row_same 7 _ _ _ n
      (row-alike 8 _ _ _ _ n run-8 one-8 (row-alike 9 _ _ _ _ n run-9 one-9 (row-alike 10 _ _ end end n run-10 one-10 (λ x. x))))))))))
