-- The text by the answer of check. Assumes nothing.
use Rattle.std.specs.Prelude.{Result, Ok, Err}
use mathlib.Core.Path.{◌≡◌, refl, sym, ap, ◌∙◌}
use mathlib.Core.Bool.{true}
use mathlib.Core.List.{List, [], ◌++◌, append-nil}
use Prim.Native.Nat.{ℕ, ◌<◌}
use native.Mathlib.Omega.{arith}
use Rattle.sums.specs.Sum.{is, is_same, is-other}
use Rattle.sums.specs.Search.{pick_yes, pick_no}
use Rattle.book.specs.Words.{vol}
use Rattle.book.specs.Image.{pages}
use Rattle.book.specs.Answers.{number_of, broken_of, done_with, refused_with}
use Rattle.book.specs.Rows.{Clear}
use Rattle.book.specs.Outcome.{call}
use Rattle.book.specs.Calls.{check_call}
use Rattle.book.specs.Gate.{Gated}
use Rattle.book.specs.Enter.{Entered, gated, entered, fit}
use Rattle.book.specs.Return.{number-pos, shut, finished, gate-visits}
use Rattle.book.specs.declared.Break.{Break}
use Rattle.book.specs.declared.Refusal.{Refusal}
use Rattle.book.specs.declared.Refusal.TheVariants.{Size, Argument, Unsound, Missing, Taken, Kind, HasFiles, Full, Allowance, Unreserved, NoRun, Fill, Overdrawn, ShortList}
use Rattle.book.specs.Listing.{Bytes, field, refused_is, rule_is, newline, refused_line, listing, report, Listed, Reported}
use Rattle.listing.specs.Wrote.{Wrote}
use Rattle.listing.proofs.Writing.{wrote-shown}

-- ---- refusals

refused-plain : (n r : ℕ) → (n ≡ 3 → ⊥) → field refused_is n ++ newline ≡ refused_line n r
unfolding refused_line
refused-plain n r h =
    ap (λ (t : Bytes). t ++ newline) (sym (append-nil (field refused_is n)) ∙ ap (λ (t : Bytes). field refused_is n ++ t) (sym (pick_no (is n 3) (field rule_is r) [] (is-other n 3 h))))

refused-rule : (n r : ℕ) → n ≡ 3 → field refused_is n ++ field rule_is r ++ newline ≡ refused_line n r
unfolding refused_line
refused-rule n r e =
    let i : 0 < is n 3 = omega (arith, is_same 3, ap (λ (x : ℕ). is x 3) e) in
    ap (λ (t : Bytes). field refused_is n ++ t ++ newline) (sym (pick_yes (is n 3) (field rule_is r) [] i))

-- 3 is the number of an unsound image alone
not-three : (w : Refusal) → ((b : Break) → w ≡ Unsound b → ⊥) → number_of w ≡ 3 → ⊥
not-three Size h e = omega arith
not-three Argument h e = omega arith
not-three (Unsound b) h e = h b refl
not-three Missing h e = omega arith
not-three Taken h e = omega arith
not-three Kind h e = omega arith
not-three HasFiles h e = omega arith
not-three Full h e = omega arith
not-three Allowance h e = omega arith
not-three Unreserved h e = omega arith
not-three NoRun h e = omega arith
not-three Fill h e = omega arith
not-three Overdrawn h e = omega arith
not-three ShortList h e = omega arith

pub refused-other : (w : Refusal) → ((b : Break) → w ≡ Unsound b → ⊥) → field refused_is (number_of w) ++ newline ≡ refused_line (number_of w) (broken_of w).rule
refused-other w h = refused-plain (number_of w) (broken_of w).rule (not-three w h)

pub refused-unsound : (w : Refusal) (b : Break) → w ≡ Unsound b → field refused_is (number_of w) ++ field rule_is b.rule ++ newline ≡ refused_line (number_of w) (broken_of w).rule
refused-unsound w b e = rw e (refused-rule 3 b.rule refl)

-- ---- what the buffer then shows, through the gate

module _ (img : List ℕ) (o out : Bytes) (r : ℕ) (g : Result ℕ Refusal) (G : Gated img true g) where
  in-gate : Entered img (Unit {0}) g
  in-gate = entered img (Unit {0}) true tt g (gated img true g G)

  pub reported-shut : {w : Refusal} → g ≡ Err w → Wrote (refused_line (number_of w) (broken_of w).rule) o 0 out r → Reported img o out r
  unfolding Listed report check_call call
  reported-shut {w} e t =
      (refused_line (number_of w) (broken_of w).rule, (refused_with 0 w, shut img _ _ _ _ _ in-gate e, sym (pick_yes (number_of w) _ _ (number-pos w))), wrote-shown t)

  pub reported-open : {n : ℕ} → g ≡ Ok n → Wrote (listing (pages img) (vol img)) o 0 out r → Reported img o out r
  unfolding Listed report check_call call Clear
  reported-open {n} e t =
      let c = finished img _ _ _ _ _ (fit in-gate e) tt n (gate-visits img true g n G e) img refl refl in
      (listing (pages img) (vol img), (done_with n, c, sym (pick_no 0 _ _ refl)), wrote-shown t)
