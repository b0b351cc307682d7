-- What a run asks of a step, whichever it is: two results coincide, and done it leaves a ready image; and that each of the calls has it. Assumes nothing.
use Rattle.std.specs.Prelude.{◌≡◌, Bool, true, false, List, ℕ, ◌+◌, ◌/◌, ◌<◌, eqb, leb, length, get_or, take, drop}
use Rattle.std.proofs.Common.{sym, ap, ◌∙◌, inr}
use native.Mathlib.Omega.{arith}
use Rattle.book.specs.Words.{Vol, vol}
use Rattle.book.specs.Rules.{Sound}
use Rattle.book.specs.Rows.{Rows, Clear, Counted}
use Rattle.book.specs.Answers.{Numbers}
use Rattle.book.specs.Image.{pages, Whole, Ready}
use Rattle.book.specs.Outcome.{Call, call, asking, judged, Outcome, DoneAs, Single}
use Rattle.book.specs.Coincide.{single-call}
use Rattle.book.proofs.Coincide.{one-outcome}
use Rattle.book.specs.Calls.{check_call, find_user_call, find_file_call, address_call, format_call, create_user_call, delete_user_call, position_rows}
use Rattle.book.specs.Calls.{give_call, take_call, create_indexed_call, create_contiguous_call, grow_call, shrink_call, delete_file_call, write_call, open_call, convert_call, who_call, salvage_call}
use Rattle.book.specs.Format.{middle}
use Rattle.book.specs.Names.{apostrophe, ends}
use Rattle.book.specs.Run.{wrong_call, pick_call, part_call, name_call, names_call, data_call, offset_call, numbered, step_call, Result, NumberResult, held_reply, HolderResult, ChangesResult, pick_result, StepResult}
use Rattle.laws.specs.Call.Done.{done}
use Rattle.laws.specs.Call.After.{whole_same, kept-call}
use Rattle.laws.specs.Call.Open.{kept-open}
use Rattle.laws.specs.Call.Singles.{single-find-user, single-find-file}
use Rattle.laws.specs.Call.Write.{kept-write}
use Rattle.laws.specs.Convert.Call.{kept-convert}
use Rattle.laws.specs.Count.Who.{single-who}
use Rattle.laws.specs.Create.FileCall.{kept-create-indexed, kept-create-contiguous}
use Rattle.laws.specs.Create.UserCall.{kept-create-user}
use Rattle.laws.specs.Delete.FileCall.{kept-delete-file}
use Rattle.laws.specs.Delete.User.{kept-delete-user}
use Rattle.laws.specs.File.Stored.{ends-zero, ends-apostrophe}
use Rattle.laws.specs.Format.Call.{single-format, format-new}
use Rattle.laws.specs.Grow.Call.{kept-grow}
use Rattle.laws.specs.Salvage.Call.{single-salvage, sound-salvage, one-listed}
use Rattle.laws.specs.Shrink.Call.{kept-shrink}
use Rattle.laws.specs.User.Give.{kept-give, kept-take}

-- it gives one value, its refusals have numbers above 0, and done it leaves a ready image
pub record Fair {A : Type 0} (img : List ℕ) (C : Call A) : Type 0 where
  pub single : Single C
  pub counted : Counted C.table
  pub leaves : (r : Numbers A) (img' : List ℕ) → DoneAs C img r img' → Ready img'

-- so a call that came back with 0 left a ready image
pub ready-after : {A : Type 0} (img : List ℕ) (C : Call A) → Fair img C → (r : Numbers A) (img' : List ℕ) → Outcome C img r img' → r.number ≡ 0 → Ready img'
ready-after img C F r img' o z = F.leaves r img' (done C img r img' F.counted o z)

-- of a step's results: any two coincide, and done it left a ready image
pub record Lawful (R : Result) : Type 0 where
  pub one : (r s : Numbers ℕ) (a b l m : List ℕ) → R r a l → R s b m → (r ≡ s) × (a ≡ b) × (l ≡ m)
  pub leaves : (r : Numbers ℕ) (a l : List ℕ) → R r a l → r.number ≡ 0 → Ready a

-- ---- once for all calls

-- an image of the same length is whole
ready-as : (img img' : List ℕ) → length img' ≡ length img → Whole img → Sound (pages img') (vol img') → Ready img'
ready-as img img' l W S = record { whole = whole_same img img' l W; sound = S }

-- a call that goes through the gate, and keeps a sound image sound
fair : {A : Type 0} (img : List ℕ) (args : Type 0) (rest : Rows) (none : A) (gives : A → Type 0) (after : Vol) → Counted rest → Single (asking img args rest none gives after)
    → ((r : Numbers A) (img' : List ℕ) → Outcome (asking img args rest none gives after) img r img' → Sound (pages img) (vol img) → Sound (pages img') (vol img'))
    → Fair img (asking img args rest none gives after)
unfolding asking judged Counted Clear Outcome
fair img args rest none gives after a s k = record {
  single = s;
  counted = (omega arith, (omega arith, (omega arith, a)));
  leaves = λ r img' d. ready-as img img' d.size d.clear.0 (k r img' (inr d) d.clear.1.1.0);
}

-- one that leaves the image
quiet : {A : Type 0} (img : List ℕ) (args : Type 0) (rest : Rows) (none : A) (gives : A → Type 0) → Counted rest → Single (asking img args rest none gives (vol img)) → Fair img (asking img args rest none gives (vol img))
quiet img args rest none gives a s = fair img args rest none gives (vol img) a s (λ r img' o. kept-call img args rest none gives (vol img) r img' o (λ W x S c. S))

fair-pick : (img : List ℕ) (b : Bool) (C D : Call ℕ) → Fair img C → Fair img D → Fair img (pick_call b C D)
fair-pick img true C D x y = x
fair-pick img false C D x y = y

-- ---- each call

module _ (img : List ℕ) where
  fair-wrong : Fair img (wrong_call img)
  unfolding wrong_call call Counted
  fair-wrong = quiet img _ _ _ _ tt (single-call img _ _ _ _)

  fair-check : Fair img (check_call img)
  unfolding check_call call Counted
  fair-check = quiet img _ _ _ _ tt (single-call img _ _ _ _)

  fair-format : (name : List ℕ) (b : ℕ) → Fair img (format_call img name b)
  unfolding format_call Counted Clear Outcome
  fair-format name b = record {
    single = single-format img name b;
    counted = (omega arith, (omega arith, tt));
    leaves = λ r img' d. ready-as img img' d.size d.clear.0 (format-new img name b r img' (inr d) d.number);
  }

  fair-find-user : (name : List ℕ) → Fair img (find_user_call img name)
  unfolding find_user_call Counted
  fair-find-user name = quiet img _ _ _ _ (omega arith, tt) (single-find-user img name)

  fair-create-user : (name : List ℕ) → Fair img (create_user_call img name)
  unfolding create_user_call call Counted
  fair-create-user name = fair img _ _ _ _ _ (omega arith, (omega arith, (omega arith, tt))) (single-call img _ _ _ _) (kept-create-user img name)

  module _ (u : ℕ) where
    fair-delete-user : Fair img (delete_user_call img u)
    unfolding delete_user_call call Counted
    fair-delete-user = fair img _ _ _ _ _ (omega arith, (omega arith, tt)) (single-call img _ _ _ _) (kept-delete-user img u)

    fair-find-file : (name type : List ℕ) → Fair img (find_file_call img u name type)
    unfolding find_file_call Counted
    fair-find-file name type = quiet img _ _ _ _ (omega arith, tt) (single-find-file img u name type)

    fair-create-indexed : (name type : List ℕ) (created : ℕ) → Fair img (create_indexed_call img u name type created)
    unfolding create_indexed_call call Counted
    fair-create-indexed name type created =
        fair img _ _ _ _ _ (omega arith, (omega arith, (omega arith, (omega arith, tt)))) (single-call img _ _ _ _) (kept-create-indexed img u name type created)

    fair-create-contiguous : (name type : List ℕ) (created n : ℕ) → Fair img (create_contiguous_call img u name type created n)
    unfolding create_contiguous_call call Counted
    fair-create-contiguous name type created n =
        fair img _ _ _ _ _ (omega arith, (omega arith, (omega arith, (omega arith, (omega arith, (omega arith, tt)))))) (single-call img _ _ _ _)
        (kept-create-contiguous img u name type created n)

    fair-give : (n : ℕ) → Fair img (give_call img u n)
    unfolding give_call call Counted
    fair-give n = fair img _ _ _ _ _ (omega arith, (omega arith, tt)) (single-call img _ _ _ _) (kept-give img u n)

    fair-take : (n : ℕ) → Fair img (take_call img u n)
    unfolding take_call call Counted
    fair-take n = fair img _ _ _ _ _ (omega arith, (omega arith, tt)) (single-call img _ _ _ _) (kept-take img u n)

    module _ (f : ℕ) where
      fair-open : Fair img (open_call img u f)
      unfolding open_call call Counted
      fair-open = fair img _ _ _ _ _ (omega arith, tt) (single-call img _ _ _ _) (kept-open img u f)

      fair-grow : Fair img (grow_call img u f)
      unfolding grow_call call Counted
      fair-grow = fair img _ _ _ _ _ (omega arith, (omega arith, (omega arith, tt))) (single-call img _ _ _ _) (kept-grow img u f)

      fair-shrink : Fair img (shrink_call img u f)
      unfolding shrink_call call Counted
      fair-shrink = fair img _ _ _ _ _ (omega arith, (omega arith, tt)) (single-call img _ _ _ _) (kept-shrink img u f)

      fair-delete-file : Fair img (delete_file_call img u f)
      unfolding delete_file_call call Counted
      fair-delete-file = fair img _ _ _ _ _ (omega arith, tt) (single-call img _ _ _ _) (kept-delete-file img u f)

      fair-write : (n : ℕ) (d : List ℕ) → Fair img (write_call img u f n d)
      unfolding write_call call position_rows Counted
      fair-write n d = fair img _ _ _ _ _ (omega arith, tt) (single-call img _ _ _ _) (kept-write img u f n d)

      pub fair-address : (n : ℕ) → Fair img (address_call img u f n)
      unfolding address_call call position_rows Counted
      fair-address n = quiet img _ _ _ _ (omega arith, tt) (single-call img _ _ _ _)

      fair-offset : (n : ℕ) → Fair img (offset_call img u f n)
      unfolding offset_call call position_rows Counted
      fair-offset n = quiet img _ _ _ _ (omega arith, tt) (single-call img _ _ _ _)

  fair-convert : (from to : ℕ) → 0 < ends to → Fair img (convert_call from to img)
  unfolding convert_call call Counted
  fair-convert from to mark = fair img _ _ _ _ _ (omega arith, tt) (single-call img _ _ _ _) (kept-convert from to mark img)

  -- a call with a part of a list
  fair-part : (a n : ℕ) (l : List ℕ) (C : List ℕ → Call ℕ) → ((d : List ℕ) → Fair img (C d)) → Fair img (part_call img a n l C)
  unfolding part_call
  fair-part a n l C x = fair-pick img (leb (a + n) (length l)) _ _ (x (take n (drop a l))) fair-wrong

  module _ (s text : List ℕ) where
    fair-name : (C : List ℕ → Call ℕ) → ((name : List ℕ) → Fair img (C name)) → Fair img (name_call img s text C)
    unfolding name_call
    fair-name C x = fair-part (get_or s 5 0) (get_or s 6 0) text C x

    fair-names : (C : List ℕ → List ℕ → Call ℕ) → ((name type : List ℕ) → Fair img (C name type)) → Fair img (names_call img s text C)
    unfolding names_call
    fair-names C x = fair-name _ (λ name. fair-part (get_or s 7 0) (get_or s 8 0) text (C name) (x name))

    fair-data : (C : List ℕ → Call ℕ) → ((d : List ℕ) → Fair img (C d)) → Fair img (data_call img s text C)
    unfolding data_call
    fair-data C x = fair-part (get_or s 9 0) 1024 text C x

  fair-numbered : (c u f n t : ℕ) (s text words : List ℕ) → Fair img (numbered c u f n t img s text words)
  unfolding numbered
  fair-numbered c u f n t s text words =
      fair-pick img (eqb c 1) _ _ (fair-name s text _ (λ name. fair-format name n))
      (fair-pick img (eqb c 2) _ _ fair-check
      (fair-pick img (eqb c 3) _ _ (fair-name s text _ fair-find-user)
      (fair-pick img (eqb c 4) _ _ (fair-names s text _ (fair-find-file u))
      (fair-pick img (eqb c 5) _ _ (fair-address u f n)
      (fair-pick img (eqb c 7) _ _ (fair-name s text _ fair-create-user)
      (fair-pick img (eqb c 8) _ _ (fair-delete-user u)
      (fair-pick img (eqb c 9) _ _ (fair-give u n)
      (fair-pick img (eqb c 10) _ _ (fair-take u n)
      (fair-pick img (eqb c 11) _ _ (fair-names s text _ (λ name type. fair-create-indexed u name type t))
      (fair-pick img (eqb c 12) _ _ (fair-names s text _ (λ name type. fair-create-contiguous u name type t n))
      (fair-pick img (eqb c 13) _ _ (fair-grow u f)
      (fair-pick img (eqb c 14) _ _ (fair-shrink u f)
      (fair-pick img (eqb c 15) _ _ (fair-delete-file u f)
      (fair-pick img (eqb c 16) _ _ (fair-offset u f n)
      (fair-pick img (eqb c 17) _ _ (fair-data s words _ (fair-write u f n))
      (fair-pick img (eqb c 18) _ _ (fair-open u f)
      (fair-pick img (eqb c 19) _ _ (fair-name s text _ (λ name. fair-format name (middle (pages img))))
      (fair-pick img (eqb c 20) _ _ (fair-convert 0 apostrophe ends-apostrophe)
      (fair-pick img (eqb c 21) _ _ (fair-convert apostrophe 0 ends-zero) fair-wrong)))))))))))))))))))

  fair-step : (s text words : List ℕ) → Fair img (step_call img s text words)
  unfolding step_call
  fair-step s text words = fair-numbered (get_or s 0 0) (get_or s 1 0) (get_or s 2 0) (get_or s 3 0) (get_or s 4 0) s text words

  fair-who : (p : ℕ) → Fair img (who_call img p)
  unfolding who_call Counted
  fair-who p = quiet img _ _ _ _ tt (single-who img p)

  fair-salvage : (room : ℕ) → Fair img (salvage_call img room)
  unfolding salvage_call Counted Clear Outcome
  fair-salvage room = record {
    single = single-salvage img room;
    counted = (omega arith, (omega arith, (omega arith, (omega arith, tt))));
    leaves = λ r img' d. ready-as img img' d.size d.clear.0 (sound-salvage img room r img' (inr d) d.number);
  }

  -- ---- each kind of step

  module _ (list : List ℕ) where
    lawful-number : (C : Call ℕ) → Fair img C → Lawful (NumberResult C img list)
    lawful-number C F = record {
      one = λ r s a b l m x y. let o = one-outcome C F.single img r s a b x.outcome y.outcome in (o.0, o.1, x.kept ∙ sym y.kept);
      leaves = λ r a l x z. ready-after img C F r a x.outcome z;
    }

    lawful-who : (p : ℕ) → Lawful (HolderResult img list p)
    lawful-who p = record {
      one = λ r s a b l m x y. let o = one-outcome (who_call img p) (fair-who p).single img x.answer y.answer a b x.outcome y.outcome in
          (x.reply ∙ ap held_reply o.0 ∙ sym y.reply, o.1, x.kept ∙ sym y.kept);
      leaves = λ r a l x z. ready-after img (who_call img p) (fair-who p) x.answer a x.outcome (sym (ap (λ (n : Numbers ℕ). n.number) x.reply) ∙ z);
    }

    lawful-salvage : Lawful (ChangesResult img list)
    lawful-salvage = record {
      one = λ r s a b l m x y. let o = one-outcome (salvage_call img room) (fair-salvage room).single img r s a b x.outcome y.outcome in
          (o.0, o.1, one-listed _ _ r.number s.number list l m (ap (λ (n : Numbers ℕ). n.number) o.0) x.listed y.listed);
      leaves = λ r a l x z. ready-after img (salvage_call img room) (fair-salvage room) r a x.outcome z;
    }
      where
        room : ℕ
        room = length list / 4

lawful-pick : (b : Bool) (R Q : Result) → Lawful R → Lawful Q → Lawful (pick_result b R Q)
lawful-pick true R Q x y = x
lawful-pick false R Q x y = y

-- so any step has it
pub lawful-step : (img list s text words : List ℕ) → Lawful (StepResult img list s text words)
unfolding StepResult
lawful-step img list s text words =
    lawful-pick (eqb (get_or s 0 0) 6) _ _ (lawful-who img list (get_or s 3 0))
    (lawful-pick (eqb (get_or s 0 0) 22) _ _ (lawful-salvage img list) (lawful-number img list _ (fair-step img s text words)))
