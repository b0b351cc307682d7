-- Volumes in each fill: a new volume has an apostrophe behind a short name and not zeros; leftovers are refused both ways. Assumes nothing.
use Rattle.std.specs.Prelude.{◌≡◌, List, [], ◌∷◌, ℕ, ◌-◌, ◌/◌, ◌<◌, length, get_or}
use Rattle.std.proofs.Common.{sym, ap, ◌∙◌, arith}
use Rattle.sums.specs.Sum.{is}
use Rattle.sums.specs.Search.{pick}
use Rattle.book.specs.Words.{Vol, put}
use Rattle.book.specs.Pointers.{volume_name}
use Rattle.book.specs.Image.{BitArg}
use Rattle.book.specs.Names.{NameText, apostrophe, byte_at, end_of}
use Rattle.book.specs.Format.{format}
use Rattle.book.specs.Convert.{Filled, AllFilled}
use Rattle.laws.specs.Convert.Back.{both-full}
use Rattle.laws.specs.Example.Broken.{yard_name}
use Rattle.laws.specs.Example.Leftovers.{leftovers, leftovers-name}
use Rattle.laws.specs.Example.Sparse.{volume}
use Rattle.laws.specs.File.Fill.{packed-filled}
use Rattle.laws.specs.File.Stored.{ends-apostrophe, stored-length}
use Rattle.laws.specs.Format.Formatted.{user-none, object-none}
use Rattle.laws.specs.Format.Volume.{format-entry}

-- ---- a new volume, for every size, name and bit page

module _ (P : ℕ) (v : Vol) (name : List ℕ) (b : ℕ) (T : NameText name) (A : BitArg P b) (small : P < 1073741824) (pos : 0 < P) where
  pub formatted-filled : AllFilled apostrophe (format P v name b)
  formatted-filled = let e = format-entry P v name b T A small pos in let w : Vol = format P v name b in record {
    volume = packed-filled apostrophe 1 16 ends-apostrophe name T (w 0) volume_name (λ i h. e.0 (i / 2) (omega arith));
    users = λ u h i. absurd (let z : ⊥ = omega (arith, i, user-none w e.3 e.2 u) in z);
    names = λ x h i. absurd (let z : ⊥ = omega (arith, i, object-none w e.3 e.2 x) in z);
    types = λ x h i. absurd (let z : ⊥ = omega (arith, i, object-none w e.3 e.2 x) in z);
  }

  pub formatted-unfilled : length name < 16 → AllFilled 0 (format P v name b) → ⊥
  formatted-unfilled h F =
      let e = format-entry P v name b T A small pos in let w : Vol = format P v name b in
      omega (arith, (both-full 0 apostrophe w (omega arith) F formatted-filled).volume, stored-length 16 (w 0) volume_name, ap length e.1, h)

-- ---- YARD, an apostrophe, and then Old

ends-four : end_of 16 (volume leftovers 0) volume_name ≡ 4
unfolding yard_name
ends-four = sym (stored-length 16 (volume leftovers 0) volume_name) ∙ ap length leftovers-name

pub leftovers-zeros : AllFilled 0 (volume leftovers) → ⊥
unfolding Filled byte_at volume put pick is
leftovers-zeros F = let e = F.volume 4 (omega (arith, ends-four)) (omega arith) in omega (arith, e, ap (λ (n : ℕ). get_or {A = ℕ} (0 ∷ []) (4 - n) 0) ends-four)

pub leftovers-apostrophe : AllFilled apostrophe (volume leftovers) → ⊥
unfolding Filled byte_at volume put pick is
leftovers-apostrophe F = let e = F.volume 5 (omega (arith, ends-four)) (omega arith) in omega (arith, e, ap (λ (n : ℕ). get_or (apostrophe ∷ []) (5 - n) 0) ends-four)
