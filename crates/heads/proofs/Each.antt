-- A test of each number of a range, by `all`, decides what holds of a span. Assumes nothing.
use mathlib.Core.Path.{◌≡◌, refl, sym, ◌∙◌, subst}
use mathlib.Core.Bool.{Bool, true, false, not}
use Prim.Native.Nat.{ℕ, ◌+◌, ◌-◌, ◌*◌, ◌/◌, ◌<◌, ◌≤◌}
use native.Mathlib.Omega.{arith}
use denote.Param.Members.{Called, Mut}
use lib.ListN.{length}
use Rattle.std.specs.declared.ops.Range.{Range}
use Rattle.std.specs.Bool.{MatchBool}
use Rattle.std.specs.Iterator.{ChecksAll}
use Rattle.std.specs.List.{AllWithin, HoldsAt, range_with_len}
use Rattle.std.proofs.iter.Yields.{nat_range_steps}
use Rattle.std.proofs.lemmas.Iterator.{cases_from_all, YieldsList-from_range}
use Rattle.std.proofs.lemmas.List.FromFn.{length-range_with_len, get_or-range_with_len}
use Rattle.book.specs.Decides.{Decides}
use Rattle.page.proofs.Deciding.{decides-iff, never}
use Rattle.heads.specs.Span.{Span}

-- a test turned round decides that the fact does not hold
pub decides-not : (b : Bool) (A : Type 0) → Decides b A → Decides (not b) (A → ⊥)
decides-not true A d = λ f. f d
decides-not false A d = d

pub decides-none : (b : Bool) (n : ℕ) → Decides b (0 < n) → Decides (not b) (n ≡ 0)
decides-none true n d = λ e. omega arith
decides-none false n d = omega arith

-- the first test of `first && ..` fails, and decides the whole
pub decides-first : (b : Bool) (A B : Type 0) → Decides b A → b ≡ false → (B → A) → Decides b B
decides-first true A B d e f = never (sym e)
decides-first false A B d e f = λ y. d (f y)

-- the first test of `first || ..` holds, and decides the whole
pub decides-one : (b : Bool) (A B : Type 0) → Decides b A → b ≡ true → (A → B) → Decides b B
decides-one true A B d e f = f d
decides-one false A B d e f = never e

-- by what was found of the list of the range
by-list : (Q : ℕ → Type 0) (a n z : ℕ) → a + n ≡ z → (r : Bool) → MatchBool r (AllWithin Q (range_with_len a n) 0 (length (range_with_len a n))) ((k : ℕ) × (k < length (range_with_len a n)) × HoldsAt (λ x. Q x → ⊥) (range_with_len a n) k) → Decides r (Span Q a z)
unfolding Span
by-list Q a n z e true m = λ x h l. let q : a + (x - a) ≡ x = omega arith in subst Q (get_or-range_with_len a n (x - a) 0 (omega arith) ∙ q) (m (x - a) 0 (omega arith) (omega (arith, length-range_with_len a n)))
by-list Q a n z e false m = λ s. let l : m.0 < n = omega (arith, m.1, length-range_with_len a n) in
    m.2 0 (subst Q (sym (get_or-range_with_len a n m.0 0 l)) (s (a + m.0) (omega arith) (omega arith)))

-- a test of one fact of each number decides another that says the same of it
pub span-as : (A B : ℕ → Type 0) (a z : ℕ) (r : Bool) → ((x : ℕ) → a ≤ x → x < z → (A x → B x) × (B x → A x)) → Decides r (Span A a z) → Decides r (Span B a z)
unfolding Span
span-as A B a z r f = decides-iff r _ _ (λ s x h l. (f x h l).0 (s x h l)) (λ s x h l. (f x h l).1 (s x h l))

-- page by page
pages-as : (Q : ℕ → Type 0) (a z : ℕ) (r : Bool) → Decides r (Span (λ k. Span Q (32 * k) (32 * k + 32)) a z) → Decides r (Span Q (32 * a) (32 * z))
unfolding Span
pages-as Q a z r = decides-iff r _ _ (λ s x h l. s (x / 32) (omega arith) (omega arith) x (omega arith) (omega arith)) (λ s k h l x i j. s x (omega arith) (omega arith))

-- f was asked of each number from a on below z, in turn
module _ {F : Type 0} {g : Mut F (ℕ × Unit {0}) Bool} {u : Range ℕ} {f : F} (Q : ℕ → Type 0) (a z : ℕ) (h : a ≤ z) (r : Bool) where
  pub span-all : ChecksAll nat_range_steps g (record { start = a; end = z }) f r u → ((x : ℕ) (t : Bool) (q : F) → Called g f (x, tt) t q → (q ≡ f) × Decides t (Q x)) → Decides r (Span Q a z)
  span-all ran each = by-list Q a (z - a) z (omega arith) r (cases_from_all u f r Q (λ x. Q x → ⊥) ran (YieldsList-from_range a z (z - a) refl refl) (λ x q k. each x true q k) (λ x q k. (each x false q k).1))

-- and of each page of 32
pub pages-all : {F : Type 0} {g : Mut F (ℕ × Unit {0}) Bool} {u : Range ℕ} {f : F} (Q : ℕ → Type 0) (a z : ℕ) → a ≤ z → (r : Bool) → ChecksAll nat_range_steps g (record { start = a; end = z }) f r u → ((k : ℕ) (t : Bool) (q : F) → Called g f (k, tt) t q → (q ≡ f) × Decides t (Span Q (32 * k) (32 * k + 32))) → Decides r (Span Q (32 * a) (32 * z))
pages-all Q a z h r ran each = pages-as Q a z r (span-all (λ k. Span Q (32 * k) (32 * k + 32)) a z h r ran each)
