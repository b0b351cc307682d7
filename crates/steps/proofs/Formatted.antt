-- Format as the code writes it: the directory entry, then the bit file from page b on. Assumes nothing.
use Rattle.std.proofs.Common.{◌≡◌, ℕ, zero, suc, ◌+◌, ◌-◌, ◌/◌, ◌%◌, ◌<◌, ◌≤◌, List, sym, ap, ◌∙◌, subst, ap₂, inl, arith}
use Rattle.book.specs.Words.{Vol, put2, put_words}
use Rattle.book.specs.Written.{put2-hi, put2-lo, put2-word}
use Rattle.book.specs.Pointers.{page, pointer, bit_pointer, object_pointer, unreserved_count, user_pointer, volume_name}
use Rattle.book.specs.Bits.{bit_pages, mark}
use Rattle.book.specs.Names.{packed}
use Rattle.book.specs.Image.{most_pages, BitArg}
use Rattle.book.specs.Format.{wipe_run, mark_run, directory, format}
use Rattle.laws.specs.Format.Volume.{wipe_run-out}
use Rattle.bits.specs.File.{BitsAt}
use Rattle.bits.proofs.Places.{bits-kept, bits-mark}

-- the bit file stays where it is while a run of pages is made zeros, and while the bits of one are set
bits-wipes : (P : ℕ) (v : Vol) (b s n : ℕ) → 0 < s → BitsAt P v b → BitsAt P (wipe_run v s n) b
bits-wipes P v b s n h f = bits-kept P v (wipe_run v s n) b (wipe_run-out v s n 0 bit_pointer (inl h)) (wipe_run-out v s n 0 (suc bit_pointer) (inl h)) f

pub bits-marks : (P : ℕ) (v : Vol) (b s n : ℕ) → s + n ≤ P → BitsAt P v b → BitsAt P (mark_run P v s n) b
unfolding mark_run
bits-marks P v b s zero l f = f
bits-marks P v b s (suc n) l f = bits-mark P (mark_run P v s n) b (s + n) 1 (omega arith) (bits-marks P v b s n (omega arith) f)

module _ (P : ℕ) (most : P ≤ most_pages) (b : ℕ) (A : BitArg P b) (v : Vol) (name : List ℕ) where
  -- the directory entry, field by field
  pub directory-is : (v₁ v₂ v₃ v₄ w : Vol) (rest : ℕ) → rest ≡ P - 1 - bit_pages P
      → v₁ ≡ put_words v 0 volume_name 8 (packed name) → v₂ ≡ put2 v₁ 0 object_pointer 0 → v₃ ≡ put2 v₂ 0 user_pointer 0 → v₄ ≡ put2 v₃ 0 bit_pointer b → w ≡ put2 v₄ 0 unreserved_count rest
      → w ≡ directory P v name b
  unfolding directory pointer
  directory-is v₁ v₂ v₃ v₄ w rest er e₁ e₂ e₃ e₄ e₅ =
      let p : b ≡ pointer 0 b = omega arith in
      e₅ ∙ ap₂ (λ (x : Vol) (y : ℕ). put2 x 0 unreserved_count y)
      (e₄ ∙ ap₂ (λ (x : Vol) (y : ℕ). put2 x 0 bit_pointer y) (e₃ ∙ ap (λ (x : Vol). put2 x 0 user_pointer 0) (e₂ ∙ ap (λ (x : Vol). put2 x 0 object_pointer 0) e₁)) p) er

  -- it names page b
  new-bits : BitsAt P (directory P v name b) b
  unfolding directory pointer page
  new-bits =
      let hi : directory P v name b 0 bit_pointer ≡ b / 65536 = put2-word _ 0 unreserved_count (P - 1 - bit_pages P) 0 bit_pointer (omega arith) (omega arith) ∙ put2-hi _ 0 bit_pointer (pointer 0 b) ∙ omega arith in
      let lo : directory P v name b 0 (suc bit_pointer) ≡ b % 65536 = put2-word _ 0 unreserved_count (P - 1 - bit_pages P) 0 (suc bit_pointer) (omega arith) (omega arith) ∙ put2-lo _ 0 bit_pointer (pointer 0 b) ∙ omega arith in
      record { at = omega (arith, A.1, most, hi, lo); some = A.0; fits = A.1 }

  -- then the n pages of the bit file, and the bits of page 0 and of each of them
  pub format-is : (n : ℕ) (v₁ v₂ v₃ w : Vol) → n ≡ bit_pages P → v₁ ≡ directory P v name b → v₂ ≡ wipe_run v₁ b n
      → (BitsAt P v₂ b → 0 < P → v₃ ≡ mark P v₂ 0 1) → (BitsAt P v₃ b → b + n ≤ P → w ≡ mark_run P v₃ b n)
      → w ≡ format P v name b
  unfolding format
  format-is n v₁ v₂ v₃ w en e₁ e₂ e₃ e₄ =
      let d : BitsAt P v₁ b = subst (λ (x : Vol). BitsAt P x b) (sym e₁) new-bits in
      let d₂ : BitsAt P v₂ b = subst (λ (x : Vol). BitsAt P x b) (sym e₂) (bits-wipes P v₁ b b n A.0 d) in
      let q₃ : v₃ ≡ mark P v₂ 0 1 = e₃ d₂ (omega (arith, A.0, A.1)) in
      let d₃ : BitsAt P v₃ b = subst (λ (x : Vol). BitsAt P x b) (sym q₃) (bits-mark P v₂ b 0 1 (omega (arith, A.0, A.1)) d₂) in
      e₄ d₃ (omega (arith, A.1, en)) ∙ ap (λ (x : Vol). mark_run P x b n) (q₃ ∙ ap (λ (x : Vol). mark P x 0 1) (e₂ ∙ ap (λ (x : Vol). wipe_run x b n) e₁))
      ∙ ap (λ (m : ℕ). mark_run P (mark P (wipe_run (directory P v name b) b m) 0 1) b m) en
