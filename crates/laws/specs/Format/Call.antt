-- Format leaves a sound volume, whatever was there, and changes the directory entry and the bit file alone. Assumes nothing.
use Rattle.std.specs.Prelude.{◌≡◌, ◌⊎◌, ℕ, ◌/◌}
use Rattle.std.proofs.Common.{sym, ◌∙◌, inl, inr, arith}
use Rattle.std.proofs.Math.Path.{ap, subst}
use mathlib.Core.List.{List}
use Rattle.book.specs.Pointers.{volume_name}
use Rattle.book.specs.Words.{Vol, vol}
use Rattle.book.specs.Bits.{bit_pages}
use Rattle.book.specs.Rows.{Lowest, Clear}
use Rattle.book.specs.Rules.{Sound}
use Rattle.book.specs.Image.{pages, Whole}
use Rattle.book.specs.Answers.{Numbers}
use Rattle.book.specs.Outcome.{Outcome, RefusedAs, DoneAs, Single}
use Rattle.book.specs.Calls.{format_call}
use Rattle.laws.specs.Format.Volume.{formatted-sound, format-only}
use Rattle.laws.specs.Frame.Places.{WordsOf, RunOf, Either, OnlyAt}

pub single-format : (img name : List ℕ) (b : ℕ) → Single (format_call img name b)
unfolding Single format_call
single-format img name b c x y p q = p ∙ sym q

-- a refused format has no number 0
lowest-not : (img name : List ℕ) (b n : ℕ) → Lowest (format_call img name b).table n → n ≡ 0 → ⊥
unfolding format_call Lowest
lowest-not img name b n (inl e) z = omega (arith, e.0)
lowest-not img name b n (inr (w, inl e)) z = omega (arith, e.0)
lowest-not img name b n (inr (w, inr e)) z = e.1

module _ (img name : List ℕ) (b : ℕ) (r : Numbers ℕ) (img' : List ℕ) (o : Outcome (format_call img name b) img r img') where
  done-sound : DoneAs (format_call img name b) img r img' → Sound (pages img') (vol img')
  unfolding format_call Clear
  done-sound x =
      let c = x.clear in let W : Whole img = c.0 in
      subst (λ (l : ℕ). Sound (l / 1024) (vol img')) (sym x.size)
      (subst (λ (w : Vol). Sound (pages img) w) (sym x.image) (formatted-sound (pages img) (vol img) name b c.1.0.0 c.1.0.1 (omega arith) (omega arith)))

  -- any volume is sound after a format that is done
  pub format-new : r.number ≡ 0 → Sound (pages img') (vol img')
  unfolding Outcome
  format-new z = go o
    where
      go : (RefusedAs (format_call img name b) img r img' ⊎ DoneAs (format_call img name b) img r img') → Sound (pages img') (vol img')
      go (inl x) = absurd (low x.number)
        where
          low : Lowest (format_call img name b).table r.number → ⊥
          low l = lowest-not img name b r.number l z
      go (inr x) = done-sound x

  pub kept-format : Sound (pages img) (vol img) → Sound (pages img') (vol img')
  unfolding Outcome
  kept-format S = go o
    where
      go : (RefusedAs (format_call img name b) img r img' ⊎ DoneAs (format_call img name b) img r img') → Sound (pages img') (vol img')
      go (inl x) = subst (λ (i : List ℕ). Sound (pages i) (vol i)) (sym x.image) S
      go (inr x) = done-sound x

  pub frame-format : OnlyAt (Either (WordsOf 0 volume_name 16) (RunOf b (bit_pages (pages img)))) (vol img) (vol img')
  unfolding Outcome format_call Clear
  frame-format p k a = go o
    where
      go : (RefusedAs (format_call img name b) img r img' ⊎ DoneAs (format_call img name b) img r img') → vol img' p k ≡ vol img p k
      go (inl x) = ap (λ (i : List ℕ). vol i p k) x.image
      go (inr x) =
          let c = x.clear in let W : Whole img = c.0 in
          ap (λ (w : Vol). w p k) x.image ∙ format-only (pages img) (vol img) name b c.1.0.0 c.1.0.1 (omega arith) (omega arith) p k a
