-- An image that is ready is so again after a step that leaves its volume sound. Assumes nothing.
use mathlib.Core.Path.{◌≡◌, sym, ap, subst}
use mathlib.Core.List.{List}
use Prim.Native.Nat.{ℕ, ◌/◌}
use native.Mathlib.Omega.{arith}
use lib.ListN.{length}
use Rattle.book.specs.Words.{Vol, vol}
use Rattle.book.specs.Image.{pages, Ready}
use Rattle.book.specs.Rules.{Sound}
use Rattle.bits.specs.File.{BitsAt}

pub bits-pages : (P P' : ℕ) (v : Vol) (b : ℕ) → BitsAt P' v b → P' ≡ P → BitsAt P v b
bits-pages P P' v b B e = subst (λ (n : ℕ). BitsAt n v b) e B

pub same-pages : (img img' : List ℕ) → length img' ≡ length img → pages img' ≡ pages img
same-pages img img' e = ap (λ (n : ℕ). n / 1024) e

pub ready-next : (img img' : List ℕ) → Ready img → (w : Vol) → vol img' ≡ w → Sound (pages img) w → length img' ≡ length img → Ready img'
ready-next img img' d w q s e = record {
  whole = record { even = omega (arith, e, d.whole.even); least = omega (arith, e, d.whole.least); most = omega (arith, e, d.whole.most) };
  sound = subst (λ (n : ℕ). Sound n (vol img')) (sym (same-pages img img' e)) (subst (Sound (pages img)) (sym q) s);
}
