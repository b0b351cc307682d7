-- What `all` over a range tells of each number in it. Assumes nothing.
use mathlib.Core.Path.{◌≡◌, refl, sym, ◌∙◌, subst}
use mathlib.Core.Bool.{Bool, true, false}
use Prim.Native.Nat.{ℕ, ◌+◌, ◌-◌, ◌<◌, ◌≤◌}
use native.Mathlib.Omega.{arith}
use denote.Param.Members.{Called, Mut}
use lib.ListN.{length}
use Rattle.std.specs.declared.ops.Range.{Range}
use Rattle.std.specs.Bool.{MatchBool}
use Rattle.std.specs.Iterator.{ChecksAll}
use Rattle.std.specs.List.{AllWithin, HoldsAt, range_with_len}
use Rattle.std.proofs.iter.Yields.{nat_range_steps}
use Rattle.std.proofs.lemmas.Bool.Decides.{when_true}
use Rattle.std.proofs.lemmas.Iterator.{cases_from_all, YieldsList-from_range}
use Rattle.std.proofs.lemmas.List.FromFn.{length-range_with_len, get_or-range_with_len}
use Rattle.book.specs.Decides.{Decides}

-- Q holds of each number from a on below z
abbrev Each : (ℕ → Type 0) → ℕ → ℕ → Type 0
Each Q a z = (x : ℕ) → x < z → a ≤ x → Q x

-- it does if it holds of the list of the range
all-listed : (Q : ℕ → Type 0) (a n z : ℕ) → a + n ≡ z → AllWithin Q (range_with_len a n) 0 (length (range_with_len a n)) → Each Q a z
all-listed Q a n z e m x l h =
    let q : a + (x - a) ≡ x = omega arith in
    subst Q (get_or-range_with_len a n (x - a) 0 (omega arith) ∙ q) (m (x - a) 0 (omega arith) (omega (arith, length-range_with_len a n)))

by-list : (Q : ℕ → Type 0) (a n z : ℕ) → a + n ≡ z → (r : Bool) → MatchBool r (AllWithin Q (range_with_len a n) 0 (length (range_with_len a n))) ((k : ℕ) × (k < length (range_with_len a n)) × HoldsAt (λ x. Q x → ⊥) (range_with_len a n) k) → Decides r (Each Q a z)
by-list Q a n z e true m = all-listed Q a n z e m
by-list Q a n z e false m = λ s. let l : m.0 < n = omega (arith, m.1, length-range_with_len a n) in
    m.2 0 (subst Q (sym (get_or-range_with_len a n m.0 0 l)) (s (a + m.0) (omega arith) (omega arith)))

-- f was asked of each number from a on below z, in turn
module _ {F : Type 0} {g : Mut F (ℕ × Unit {0}) Bool} {u : Range ℕ} {f : F} (Q : ℕ → Type 0) (a z : ℕ) (h : a ≤ z) (r : Bool) where
  -- its answers decide
  pub each-all : ChecksAll nat_range_steps g (record { start = a; end = z }) f r u → ((x : ℕ) (t : Bool) (q : F) → Called g f (x, tt) t q → (q ≡ f) × Decides t (Q x)) → Decides r (Each Q a z)
  each-all ran each = by-list Q a (z - a) z (omega arith) r (cases_from_all u f r Q (λ x. Q x → ⊥) ran (YieldsList-from_range a z (z - a) refl refl) (λ x q k. each x true q k) (λ x q k. (each x false q k).1))

  -- only `true` tells something
  pub each-true : ChecksAll nat_range_steps g (record { start = a; end = z }) f r u → ((x : ℕ) (t : Bool) (q : F) → Called g f (x, tt) t q → (q ≡ f) × (t ≡ true → Q x)) → r ≡ true → Each Q a z
  each-true ran each e =
      all-listed Q a (z - a) z (omega arith)
      (when_true _ _ e (cases_from_all u f r Q (λ x. Unit {0}) ran (YieldsList-from_range a z (z - a) refl refl) (λ x q k. let w = each x true q k in (w.0, w.1 refl)) (λ x q k. tt)))
