-- An image has one listing, and a buffer shows it in one way. Assumes nothing.
use Rattle.std.specs.Prelude.{◌≡◌, List, ℕ}
use Rattle.std.proofs.Common.{sym, ap, subst, ◌∙◌, arith, ext_get_or}
use Rattle.book.specs.Outcome.{Single}
use Rattle.book.specs.Coincide.{single-call}
use Rattle.book.specs.Calls.{check_call}
use Rattle.book.specs.Listing.{Bytes, report, Listed, Shown, Reported}
use Rattle.book.proofs.Coincide.{one-outcome}

single-check : (img : List ℕ) → Single (check_call img)
unfolding check_call
single-check img = single-call img _ _ _ _

-- an image has one text
pub one-text : (img : List ℕ) (s t : Bytes) → Listed img s → Listed img t → s ≡ t
unfolding Listed
one-text img s t (a, x, e) (b, y, f) = e ∙ ap (report img) (one-outcome (check_call img) (single-check img) img a b img img x y).0 ∙ sym f

-- and a buffer shows it in one way
pub one-shown : (t o a b : Bytes) (m n : ℕ) → Shown t o a m → Shown t o b n → (a ≡ b) × (m ≡ n)
one-shown t o a b m n x y = (
  ext_get_or 0 a b (x.size ∙ sym y.size) (λ i h. x.bytes i (omega (arith, x.size)) ∙ sym (y.bytes i (omega (arith, x.size)))),
  x.whole ∙ sym y.whole,
)

pub one-report : (img o a b : List ℕ) (m n : ℕ) → Reported img o a m → Reported img o b n → (a ≡ b) × (m ≡ n)
one-report img o a b m n (s, x, p) (t, y, q) = one-shown t o a b m n (subst (λ (r : Bytes). Shown r o a m) (one-text img s t x y) p) q
