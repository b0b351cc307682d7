-- What the top functions cite: that the pointers are good, a refusal in its order, and done where the row is applied. Assumes nothing.
use mathlib.Core.Path.{◌≡◌, refl, ap, ◌∙◌}
use mathlib.Core.Logic.{◌≢◌, inl, inr}
use mathlib.Core.Bool.{false}
use mathlib.Core.List.{List}
use Rattle.std.proofs.Common.{Ok, Err}
use Prim.Native.Nat.{ℕ, ◌*◌, ◌≤◌, ◌<◌}
use native.Mathlib.Omega.{arith}
use lib.ListN.{length, get_or}
use Rattle.book.specs.Answers.{number_of, broken_of, unbroken}
use Rattle.book.specs.Broken.{BrokenBy}
use Rattle.book.specs.Calls.{salvage_call, salvaged, repaired}
use Rattle.book.specs.Coincide.{broken-unsound}
use Rattle.book.specs.Image.{pages, Whole}
use Rattle.book.specs.Outcome.{Outcome, BrokenFor}
use Rattle.book.specs.Rows.{Lowest, Clear}
use Rattle.book.specs.Rules.{Rule8, Pointed}
use Rattle.book.specs.Salvage.{Affords}
use Rattle.book.specs.Words.{Vol, vol}
use Rattle.book.specs.declared.Break.{Break}
use Rattle.book.specs.declared.Refusal.{Refusal}
use Rattle.book.specs.declared.Refusal.TheVariants.{Size, Unsound, Overdrawn, ShortList}
use Rattle.laws.specs.Salvage.Changes.{changed-find}
use Rattle.sound.specs.Late.{Early}
use Rattle.salvage.specs.Applied.{packed_place, applied}
use Rattle.salvage.specs.Facts.{Sure}
use Rattle.salvage.specs.Mending.{Mends}
use Rattle.salvage.specs.Row.{row_size, RowTells}
use Rattle.salvage.proofs.Rows.{told_at}
use Rattle.salvage.proofs.Stored.{applied-length, applied-mix}
use Rattle.salvage.proofs.Words.{sweep-all, mended-alike}

-- the first seven rules and rule 8 are those of the pointers
pub early-pointed : (P : ℕ) (v : Vol) → Early false P v → Rule8 P v → Pointed P v
early-pointed P v E r = record { r1 = E.r1; r2 = E.r2; r3 = E.r3; r4 = E.r4; r5 = E.r5; r6 = E.r6; r7 = E.r7; r8 = r; r9 = tt; r10 = tt }

-- ---- refused: the image is as it was

module _ (img row : List ℕ) (room : ℕ) (l : length row ≡ row_size) where
  refused : (w : Refusal) → number_of w ≢ 0 → Lowest (salvage_call img room).table (number_of w) → BrokenFor false img (number_of w) (broken_of w) → Mends img room (Err w) img row
  unfolding Outcome salvage_call
  refused w ne n b = record { outcome = inl record { number = n; value = refl; broken = b; image = refl }; told = λ z. absurd (ne z); size = l }

  untold : (n : ℕ) → n ≢ 3 → BrokenFor false img n unbroken
  unfolding BrokenFor
  untold n h = ((λ e. absurd (h e)), λ e. refl)

  pub refused-1 : (Whole img → ⊥) → Mends img room (Err Size) img row
  unfolding salvage_call Lowest
  refused-1 h = refused Size (λ z. omega (arith, z)) (inl (refl, h)) (untold 1 (λ z. omega (arith, z)))

  module _ (W : Whole img) where
    pub refused-3 : (b : Break) → BrokenBy false (pages img) (vol img) b → Mends img room (Err (Unsound b)) img row
    unfolding salvage_call Lowest BrokenFor
    refused-3 b B = refused (Unsound b) (λ z. omega (arith, z)) (inr (W, inl (refl, broken-unsound false (pages img) (vol img) b.rule B.rule))) ((λ z. B), λ z. absurd (z refl))

    module _ (S : Pointed (pages img) (vol img)) where
      pub refused-13 : (Affords (pages img) (vol img) → ⊥) → Mends img room (Err Overdrawn) img row
      unfolding salvage_call Lowest
      refused-13 h = refused Overdrawn (λ z. omega (arith, z)) (inr (W, inr (S, inl (refl, h)))) (untold 13 (λ z. omega (arith, z)))

      pub refused-14 : Affords (pages img) (vol img) → room < repaired img → Mends img room (Err ShortList) img row
      unfolding salvage_call Lowest
      refused-14 A h = refused ShortList (λ z. omega (arith, z)) (inr (W, inr (S, inr (A, inl (refl, λ e. omega (arith, e, h)))))) (untold 14 (λ z. omega (arith, z)))

-- ---- done: the row that tells of all changes is applied

module _ (img : List ℕ) (K : Sure img) where
  abbrev P : ℕ
  P = pages img

  abbrev v : Vol
  v = vol img

  module _ (row : List ℕ) (n : ℕ) (s : RowTells img (1024 * P) row n) where
    pub told-within : (k : ℕ) → k < n → packed_place (get_or row k 0) < length img
    told-within k h =
        let j = changed-find v (salvaged img) (1024 * P) k (omega (arith, h, s.count)) in
        let e = ap (λ (i : ℕ). get_or row i 0) j.3 in
        omega (arith, e, (told_at img (1024 * P) row n s j.0 j.1 j.2).0, j.1)

    pub done : (room : ℕ) (img' : List ℕ) → n ≤ room → img' ≡ applied img row n → Mends img room (Ok n) img' row
    unfolding Outcome salvage_call Clear
    done room img' h z = record {
      outcome = inr record {
        number = refl;
        clear = (K.good.whole, (K.good.pointed, (K.affords, (omega (arith, h, s.count), tt))));
        value = s.count;
        broken = refl;
        image = ap vol z ∙ ap (λ (k : ℕ). vol (applied img row k)) s.count
            ∙ applied-mix v (salvaged img) (mended-alike P v K.good.pointed pos) img row refl (1024 * P) (omega arith) (told_at img (1024 * P) row n s) (1024 * P) (omega arith)
            ∙ sweep-all P v K.good.pointed pos;
        size = ap length z ∙ applied-length img row n;
      };
      told = λ x. s.begins;
      size = s.size;
    }
      where
        pos : 0 < P
        pos = omega (arith, K.good.whole.least)
