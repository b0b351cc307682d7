-- Space: growing is refused for want of pages exactly by the owner's allowance, and never for want of a free page. Assumes nothing.
use Rattle.std.specs.Prelude.{◌≡◌, refl, ◌↔◌, ◌⊎◌, List, ℕ, ◌+◌, ◌≤◌, ◌<◌}
use Rattle.std.proofs.Common.{subst}
use Rattle.std.proofs.Math.Logic.{inl, inr}
use Rattle.std.proofs.Math.Decide.{dec_lt}
use native.Mathlib.Omega.{arith}
use Rattle.book.specs.Answers.{Numbers}
use Rattle.book.specs.Bits.{bit, lowest_free}
use Rattle.book.specs.Calls.{grow_call, HasFile, Grows}
use Rattle.book.specs.Entries.{user, object, spare, given, used_pages, page_count, file_entry}
use Rattle.book.specs.Files.{need}
use Rattle.book.specs.Grow.{taken₁, taken₂}
use Rattle.book.specs.Image.{pages, Whole, IndexArg}
use Rattle.book.specs.Outcome.{Outcome, RefusedAs, DoneAs, call, asking, judged}
use Rattle.book.specs.Pointers.{flags}
use Rattle.book.specs.Rows.{Lowest, Clear, lowest-one, clear_none, lowest-applies}
use Rattle.book.specs.Rules.{Rule4Over, Sound}
use Rattle.book.specs.Words.{Vol, vol}
use Rattle.laws.specs.Bits.Choose.{Stock, lowest-stock}
use Rattle.laws.specs.Call.Done.{clear-done}
use Rattle.laws.specs.Count.Good.{free}
use Rattle.laws.specs.File.Kinds.{grows-kind}
use Rattle.laws.specs.Grow.Step.{rooms, d_ok, b_ok, s_ok}

-- the choice finds a page, and it is free
abbrev pub Finds : ℕ → Vol → Type 0
Finds P v = (lowest_free P v < P) × (bit P v (lowest_free P v) ≡ 0)

-- an existing file that can grow, on a sound volume
module _ (img : List ℕ) (u f : ℕ) (W : Whole img) (A : IndexArg u × IndexArg f) (S : Sound (pages img) (vol img)) (H : HasFile (vol img) u f) (K : Grows (vol img) (file_entry u f)) where
  abbrev P : ℕ
  P = pages img

  abbrev v : Vol
  v = vol img

  abbrev n : ℕ
  n = page_count (object v (file_entry u f))

  pub space : Lowest (grow_call img u f).table 9 ↔ (spare v u < need n)
  unfolding grow_call call asking judged Lowest
  space = (there, back)
    where
      there : Lowest (grow_call img u f).table 9 → spare v u < need n
      there (inr (w, inr (a, inr (s, inr (h, inr (k, inl (q, l))))))) = elim (dec_lt (spare v u) (need n)) [
        | yes i ↦ i
        | no i ↦ absurd (l (omega arith))
      ]
      there (inl (q, l)) = absurd (let r : ⊥ = omega arith in r)
      there (inr (w, inl (q, l))) = absurd (let r : ⊥ = omega arith in r)
      there (inr (w, inr (a, inl (q, l)))) = absurd (let r : ⊥ = omega arith in r)
      there (inr (w, inr (a, inr (s, inl (q, l))))) = absurd (let r : ⊥ = omega arith in r)
      there (inr (w, inr (a, inr (s, inr (h, inl (q, l)))))) = absurd (let r : ⊥ = omega arith in r)
      there (inr (w, inr (a, inr (s, inr (h, inr (k, inr z)))))) = absurd z.1

      back : spare v u < need n → Lowest (grow_call img u f).table 9
      back i = inr (W, inr (A, inr (S, inr (H, inr (K, inl (refl, λ l. omega arith))))))

  -- the number that comes back
  module _ (r : Numbers ℕ) (img' : List ℕ) (o : Outcome (grow_call img u f) img r img') where
    pub space-refused : (r.number ≡ 9) ↔ (spare v u < need n)
    unfolding Outcome
    space-refused = ((λ q. there q o), (λ i. back i o))
      where
        there : r.number ≡ 9 → (RefusedAs (grow_call img u f) img r img' ⊎ DoneAs (grow_call img u f) img r img') → spare v u < need n
        there q (inl x) = space.0 (subst (Lowest (grow_call img u f).table) q x.number)
        there q (inr x) = absurd (let z : ⊥ = omega (arith, x.number) in z)

        back : spare v u < need n → (RefusedAs (grow_call img u f) img r img' ⊎ DoneAs (grow_call img u f) img r img') → r.number ≡ 9
        back i (inl x) = lowest-one (grow_call img u f).table r.number 9 x.number (space.1 i)
        back i (inr x) = absurd (clear_none (grow_call img u f).table x.clear 9 (lowest-applies (grow_call img u f).table 9 (space.1 i)))

    pub space-done : need n ≤ spare v u → r.number ≡ 0
    unfolding grow_call call asking judged Clear
    space-done l = (clear-done (grow_call img u f) img r img' (W, (A, (S, (H, (K, (l, tt)))))) o).number

  -- with the allowance there are as many free pages as are needed, and each choice finds one
  module _ (l : need n ≤ spare v u) where
    hu : u < 256
    hu = omega (arith, A.0)

    hf : f < 256
    hf = omega (arith, A.1)

    le : used_pages (user v) u + need n ≤ given (user v) u
    unfolding Rule4Over spare
    le = omega (arith, l, (S.r4.0 u hu H.0).within)

    stock : Stock (lowest_free P) P v
    stock = lowest-stock S (omega (arith, W.least))

    big : P < 262144
    big = omega (arith, W.most)

    kind : flags (object v (file_entry u f)) 30 ≡ 0 → n ≡ 0
    kind = grows-kind (flags (object v (file_entry u f)) 30) n K

    pub space-room : need n ≤ free P v
    space-room = rooms stock big u f hu hf H.1 kind le

    pub space-data : Finds P v
    space-data = d_ok stock big u f hu hf H.1 kind le

    pub space-index : 2 ≤ need n → Finds P (taken₁ (lowest_free P) P v u f)
    space-index = b_ok stock big u f hu hf H.1 kind le

    pub space-subindex : 3 ≤ need n → Finds P (taken₂ (lowest_free P) P v u f)
    space-subindex h = s_ok stock big u f hu hf H.1 kind le (omega arith) h
