-- Two outcomes that meet a call's table are the same: proved once, for any call. Assumes nothing.
use Rattle.std.specs.Prelude.{◌≡◌, Bool, List, ℕ}
use Rattle.std.proofs.Common.{sym, ◌∙◌, ap, inl, inr}
use Rattle.std.proofs.Math.Decide.{ℕ_discrete}
use Rattle.book.specs.Words.{vol}
use Rattle.book.specs.Rows.{lowest-one, lowest-applies, clear_none}
use Rattle.book.specs.Answers.{Numbers}
use Rattle.book.specs.Outcome.{Call, BrokenFor, Outcome, Gives, Single}
use Rattle.book.specs.Image.{pages}
use Rattle.book.specs.declared.Break.{Break}
use Rattle.book.specs.Coincide.{vol-ext}
use Rattle.book.proofs.Broken.{one-break}

broken-one : (ten : Bool) (img : List ℕ) (n m : ℕ) (r s : Break) → n ≡ m → BrokenFor ten img n r → BrokenFor ten img m s → r ≡ s
unfolding BrokenFor
broken-one ten img n m r s e a b = elim (ℕ_discrete n 3) [
  | yes h ↦ one-break ten (pages img) (vol img) r s (a.0 h) (b.0 (sym e ∙ h))
  | no h ↦ a.1 h ∙ sym (b.1 (λ q. h (e ∙ q)))
]

same : {A : Type 0} (r s : Numbers A) → r.number ≡ s.number → r.value ≡ s.value → r.broken ≡ s.broken → r ≡ s
same {A} r s a b c =
    ap (λ (x : ℕ). mk x r.value r.broken) a ∙ ap (λ (y : A). mk s.number y r.broken) b ∙ ap (mk s.number s.value) c
  where
    mk : ℕ → A → Break → Numbers A
    mk x y z = record { number = x; value = y; broken = z }

pub one-outcome : {A : Type 0} (C : Call A) → Single C → (img : List ℕ) (r s : Numbers A) (a b : List ℕ) → Outcome C img r a → Outcome C img s b → (r ≡ s) × (a ≡ b)
unfolding Outcome Single
one-outcome C u img r s a b (inl x) (inl y) =
    let n : r.number ≡ s.number = lowest-one C.table r.number s.number x.number y.number in
    (same r s n (x.value ∙ sym y.value) (broken-one C.ten img r.number s.number r.broken s.broken n x.broken y.broken), x.image ∙ sym y.image)
one-outcome C u img r s a b (inl x) (inr y) = absurd (clear_none C.table y.clear r.number (lowest-applies C.table r.number x.number))
one-outcome C u img r s a b (inr x) (inl y) = absurd (clear_none C.table x.clear s.number (lowest-applies C.table s.number y.number))
one-outcome C u img r s a b (inr x) (inr y) = (
  same r s (x.number ∙ sym y.number) (u x.clear r.value s.value x.value y.value) (x.broken ∙ sym y.broken),
  vol-ext a b (x.size ∙ sym y.size) (x.image ∙ sym y.image),
)

-- so a call that gives its value alone gives one
pub one_value : {A : Type 0} (C : Call A) → Single C → (img : List ℕ) (x y : A) → Gives C img x → Gives C img y → x ≡ y
one_value {A} C u img x y a b = sym a.1 ∙ ap (λ (r : Numbers A). r.value) (one-outcome C u img a.0 b.0 img img a.2 b.2).0 ∙ b.1
