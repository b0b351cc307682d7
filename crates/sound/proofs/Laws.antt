-- From each rule's test to the verdict. Assumes nothing.
use mathlib.Core.Path.{◌≡◌, refl, sym, subst, subst₂}
use mathlib.Core.Logic.{inl, inr}
use mathlib.Core.Bool.{Bool, true}
use mathlib.Core.List.{List}
use Prim.Native.Nat.{ℕ, ◌<◌}
use Rattle.std.specs.Prelude.{Result, Ok, Err}
use Rattle.book.specs.Words.{Vol, vol}
use Rattle.book.specs.Bits.{bit}
use Rattle.book.specs.Pointers.{page, bit_pointer}
use Rattle.book.specs.Gate.{Judged}
use Rattle.book.specs.declared.BrokenRule.{BrokenRule}
use Rattle.book.specs.Entries.{user, object}
use Rattle.book.specs.Rows.{Lowest}
use Rattle.book.specs.Rules.{Rule1, Rule2, Rule3, Rule4Over, Rule5, Rule6, Rule7, Rule8, Rule9, Rule10, Sound, rules_of}
use Rattle.book.specs.Names.{stored}
use Rattle.book.specs.Image.{pages}
use Rattle.laws.specs.Count.Reach.{Within, rules-within}
use Rattle.bits.specs.File.{BitsAt}
use Rattle.bits.proofs.Places.{bits_at}
use Rattle.bits.specs.Marks.{marked}
use Rattle.walk.specs.Held.{HeldOn}
use Rattle.walk.specs.Short.{Shorts}
use Rattle.walk.proofs.Short.{rules-short}
use Rattle.walk.proofs.Judged.{same-rule9, rule9-same}
use Rattle.tree.specs.Ends.{Ends}
use Rattle.sound.specs.Late.{Early, Late, late_rules, JudgedEarly, JudgedLate}

-- the trees are within the volume
pub early-within : {ten : Bool} (P : ℕ) (v : Vol) → Early ten P v → Within P v
early-within P v E = rules-within P v E.r1 E.r2 E.r3 E.r5 E.r7

-- and none is longer than it may be
pub early-short : {ten : Bool} (P : ℕ) (v : Vol) → Early ten P v → Shorts v
early-short P v E = rules-short P v E.r2 E.r3 E.r5 E.r7

-- the verdicts of the late rules
module _ (P : ℕ) (v : Vol) where
  pub late-8 : (Rule8 P v → ⊥) → Lowest (late_rules P v) 8
  unfolding late_rules Lowest
  late-8 n = inl (refl, n)

  pub late-9 : Rule8 P v → (Rule9 P v → ⊥) → Lowest (late_rules P v) 9
  unfolding late_rules Lowest
  late-9 a n = inr (a, inl (refl, n))

  pub late-10 : Rule8 P v → Rule9 P v → (Rule10 P v → ⊥) → Lowest (late_rules P v) 10
  unfolding late_rules Lowest
  late-10 a b n = inr (a, inr (b, inl (refl, n)))

-- and of the rules judged
module _ (ten : Bool) (P : ℕ) (v : Vol) where
  pub low-1 : (Rule1 P v → ⊥) → Lowest (rules_of ten P v) 1
  unfolding rules_of Lowest
  low-1 n = inl (refl, n)

  module _ (a : Rule1 P v) where
    pub low-2 : (Rule2 P v → ⊥) → Lowest (rules_of ten P v) 2
    unfolding rules_of Lowest
    low-2 n = inr (a, inl (refl, n))

    module _ (b : Rule2 P v) where
      pub low-3 : (Rule3 P v → ⊥) → Lowest (rules_of ten P v) 3
      unfolding rules_of Lowest
      low-3 n = inr (a, inr (b, inl (refl, n)))

      module _ (c : Rule3 P v) where
        pub low-4 : (Rule4Over stored ten (user v) → ⊥) → Lowest (rules_of ten P v) 4
        unfolding rules_of Lowest
        low-4 n = inr (a, inr (b, inr (c, inl (refl, n))))

        module _ (d : Rule4Over stored ten (user v)) where
          pub low-5 : (Rule5 P v → ⊥) → Lowest (rules_of ten P v) 5
          unfolding rules_of Lowest
          low-5 n = inr (a, inr (b, inr (c, inr (d, inl (refl, n)))))

          module _ (e : Rule5 P v) where
            pub low-6 : (Rule6 (user v) (object v) → ⊥) → Lowest (rules_of ten P v) 6
            unfolding rules_of Lowest
            low-6 n = inr (a, inr (b, inr (c, inr (d, inr (e, inl (refl, n))))))

            module _ (f : Rule6 (user v) (object v)) where
              pub low-7 : (Rule7 P v → ⊥) → Lowest (rules_of ten P v) 7
              unfolding rules_of Lowest
              low-7 n = inr (a, inr (b, inr (c, inr (d, inr (e, inr (f, inl (refl, n)))))))

  pub low-8 : Early ten P v → (Rule8 P v → ⊥) → Lowest (rules_of ten P v) 8
  unfolding rules_of Lowest
  low-8 E n = inr (E.r1, inr (E.r2, inr (E.r3, inr (E.r4, inr (E.r5, inr (E.r6, inr (E.r7, inl (refl, n))))))))

module _ (P : ℕ) (v : Vol) where
  pub early-low : Early true P v → (r : ℕ) → Lowest (late_rules P v) r → Lowest (rules_of true P v) r
  unfolding rules_of Lowest late_rules
  early-low E r l = inr (E.r1, inr (E.r2, inr (E.r3, inr (E.r4, inr (E.r5, inr (E.r6, inr (E.r7, l)))))))

  pub all-ten : Early true P v → Late P v → Sound P v
  all-ten E L = record { r1 = E.r1; r2 = E.r2; r3 = E.r3; r4 = E.r4; r5 = E.r5; r6 = E.r6; r7 = E.r7; r8 = L.r8; r9 = L.r9; r10 = L.r10 }

-- ---- what the early rules say

module _ (img : List ℕ) (ten : Bool) (x : Result ℕ BrokenRule) (j : JudgedEarly img ten x) where
  pub early-whole : (n : ℕ) → x ≡ Ok n → Early ten (pages img) (vol img) × Ends img n
  early-whole n e = subst (λ (y : Result ℕ BrokenRule). JudgedEarly img ten y) e j

-- ---- the verdict of the late rules makes the verdict of all

pub late-judged : (P : ℕ) (v : Vol) → Early true P v → (r : Result ℕ BrokenRule) → JudgedLate P v r → Judged true P v r
late-judged P v E (Ok n) j = (all-ten P v E j.0, j.1)
late-judged P v E (Err b) j = early-low P v E b.rule j

-- ---- the bits against the marks; T is the number of pages, as the code has it

module _ (P : ℕ) (v : Vol) (m : List ℕ) (x : ℕ) (k : HeldOn P v m x) (T : ℕ) (t : T ≡ P) where
  pub bits-nine : ((p : ℕ) → p < T → bit T v p ≡ marked m p) → Rule9 P v
  bits-nine b = same-rule9 P v m x k (subst (λ (y : ℕ). (q : ℕ) → q < y → bit y v q ≡ marked m q) t b)

  pub nine-bits : Rule9 P v → (p : ℕ) → p < T → bit T v p ≡ marked m p
  nine-bits r = subst (λ (y : ℕ). (q : ℕ) → q < y → bit y v q ≡ marked m q) (sym t) (rule9-same P v m x k r)

-- where the bit file is
pub bits-here : (P : ℕ) (v : Vol) (T b : ℕ) → T ≡ P → Rule1 P v → b ≡ page (v 0) bit_pointer → BitsAt T v b
bits-here P v T b t r e = subst₂ (λ (x y : ℕ). BitsAt x v y) (sym t) (sym e) (bits_at P v r)
