-- Equal holders are told alike. Assumes nothing.
use mathlib.Core.Path.{◌≡◌, sym, subst}
use Prim.Native.Nat.{ℕ}
use Rattle.book.specs.Answers.{role_numbers, holder_numbers}
use Rattle.book.specs.declared.Role.{Role}
use Rattle.book.specs.declared.Holder.{Holder}
use Rattle.sound.specs.Told.{Tells}
use Rattle.sound.specs.declared.numbers.HolderNumbers.{HolderNumbers}

pub tells-role : (u f : ℕ) (x y : Role) (r : HolderNumbers) → x ≡ y → Tells r (role_numbers u f y) → Tells r (role_numbers u f x)
tells-role u f x y r e h = subst (λ (z : Role). Tells r (role_numbers u f z)) (sym e) h

pub tells-holder : (x y : Holder) (r : HolderNumbers) → x ≡ y → Tells r (holder_numbers y) → Tells r (holder_numbers x)
tells-holder x y r e h = subst (λ (z : Holder). Tells r (holder_numbers z)) (sym e) h
