-- Creating is refused with 10 exactly for want of unreserved pages and with 11 exactly for want of a run; otherwise the pages are there. Assumes nothing.
use Rattle.std.specs.Prelude.{◌≡◌, refl, ◌↔◌, ◌⊎◌, List, ℕ, ◌≤◌, ◌<◌}
use Rattle.std.proofs.Math.Logic.{inl, inr}
use Rattle.std.proofs.Common.{eq-zero-or-pos}
use Rattle.std.proofs.Math.Decide.{dec_lt}
use native.Mathlib.Omega.{arith}
use Rattle.book.specs.Answers.{Numbers}
use Rattle.book.specs.Bits.{lowest_free, highest_run}
use Rattle.book.specs.Calls.{create_user_call, create_indexed_call, create_contiguous_call, HasUser, IsUser, IsFile}
use Rattle.book.specs.Create.{user_need, file_need, file_place}
use Rattle.book.specs.Entries.{file_entry, new_user, new_file, spare, unreserved}
use Rattle.book.specs.Image.{pages, Whole, IndexArg, CountArg}
use Rattle.book.specs.Names.{NameText, TypeText}
use Rattle.book.specs.Outcome.{Outcome, call, asking, judged}
use Rattle.book.specs.Rows.{Lowest, Clear}
use Rattle.book.specs.Rules.{Sound}
use Rattle.book.specs.Words.{Vol, vol}
use Rattle.laws.specs.Bits.Choose.{lowest-stock, FreeRun, run-found, run_none, run-exact}
use Rattle.laws.specs.Call.Done.{clear-done, Asks, number-exact}
use Rattle.laws.specs.Count.Good.{free}
use Rattle.laws.specs.Count.Room.{system-room}
use Rattle.laws.specs.Create.Created.{file-place}
use Rattle.laws.specs.Create.FileCall.{wanted}

-- enough or not
enough : (n m : ℕ) → (n ≤ m) ⊎ (m < n)
enough n m = elim (dec_lt m n) [ yes h ↦ inr h | no h ↦ inl (omega arith) ]

-- as many free pages as are unreserved
pub room-free : (img : List ℕ) → Whole img → Sound (pages img) (vol img) → (n : ℕ) → n ≤ unreserved (vol img) → n ≤ free (pages img) (vol img)
room-free img W S n h = omega (arith, h, system-room (pages img) (vol img) S (omega (arith, W.least)))

-- ---- a user

module _ (img : List ℕ) (name : List ℕ) (W : Whole img) (T : NameText name) (S : Sound (pages img) (vol img)) (fresh : (u : ℕ) → IsUser (vol img) name u → ⊥) (lt : new_user (vol img) < 256)
    (r : Numbers ℕ) (img' : List ℕ) (o : Outcome (create_user_call img name) img r img') where
  abbrev need : ℕ
  need = user_need (vol img) (new_user (vol img))

  pub ten-create-user : (r.number ≡ 10) ↔ (unreserved (vol img) < need)
  unfolding create_user_call call asking judged Lowest Asks
  ten-create-user = number-exact (create_user_call img name) img r img' o 10 (omega arith) (need ≤ unreserved (vol img)) (unreserved (vol img) < need) (enough need (unreserved (vol img)))
      (λ f. inr (W, inr (T, inr (S, inr (fresh, inr (lt, inl (refl, λ l. omega arith)))))))
      (λ b. ((λ q. W), ((λ q. T), ((λ q. S), ((λ q. fresh), ((λ q. lt), ((λ q. b), tt)))))))

  pub enough-create-user : need ≤ unreserved (vol img) → r.number ≡ 0
  unfolding create_user_call call asking judged Clear
  enough-create-user h = (clear-done (create_user_call img name) img r img' (W, (T, (S, (fresh, (lt, (h, tt)))))) o).number

-- ---- files

module _ (img : List ℕ) (u : ℕ) (name type : List ℕ) (created : ℕ) (W : Whole img) (U : IndexArg u) (N : NameText name) (T : TypeText type) (S : Sound (pages img) (vol img))
    (owner : HasUser (vol img) u) (fresh : (f : ℕ) → IsFile (vol img) u name type f → ⊥) (lt : new_file (vol img) u < 256) where
  abbrev P : ℕ
  P = pages img

  abbrev v : Vol
  v = vol img

  abbrev e : ℕ
  e = file_entry u (new_file v u)

  module _ (r : Numbers ℕ) (img' : List ℕ) (o : Outcome (create_indexed_call img u name type created) img r img') where
    pub ten-create-indexed : (r.number ≡ 10) ↔ (unreserved v < file_need v e)
    unfolding create_indexed_call call asking judged Lowest Asks
    ten-create-indexed = number-exact (create_indexed_call img u name type created) img r img' o 10 (omega arith) (file_need v e ≤ unreserved v) (unreserved v < file_need v e)
        (enough (file_need v e) (unreserved v))
        (λ f. inr (W, inr ((U, N, T), inr (S, inr (owner, inr (fresh, inr (lt, inl (refl, λ l. omega arith))))))))
        (λ b. ((λ q. W), ((λ q. (U, N, T)), ((λ q. S), ((λ q. owner), ((λ q. fresh), ((λ q. lt), ((λ q. b), tt))))))))

    pub enough-create-indexed : file_need v e ≤ unreserved v → r.number ≡ 0
    unfolding create_indexed_call call asking judged Clear
    enough-create-indexed h = (clear-done (create_indexed_call img u name type created) img r img' (W, ((U, N, T), (S, (owner, (fresh, (lt, (h, tt))))))) o).number

  module _ (n : ℕ) (C : CountArg n) (le : n ≤ spare v u) where
    -- after the system pages are taken
    abbrev w : Vol
    w = file_place (lowest_free P) P v e

    module _ (r : Numbers ℕ) (img' : List ℕ) (o : Outcome (create_contiguous_call img u name type created n) img r img') where
      pub ten-create-contiguous : (r.number ≡ 10) ↔ (unreserved v < file_need v e)
      unfolding create_contiguous_call call asking judged Lowest Asks
      ten-create-contiguous = number-exact (create_contiguous_call img u name type created n) img r img' o 10 (omega arith) (file_need v e ≤ unreserved v) (unreserved v < file_need v e)
          (enough (file_need v e) (unreserved v))
          (λ f. inr (W, inr ((U, N, T, C), inr (S, inr (owner, inr (fresh, inr (lt, inr (le, inl (refl, λ l. omega arith)))))))))
          (λ b. ((λ q. W), ((λ q. (U, N, T, C)), ((λ q. S), ((λ q. owner), ((λ q. fresh), ((λ q. lt), ((λ q. le), ((λ q. b), ((λ q. absurd (let z : ⊥ = omega arith in z)), tt))))))))))

      -- with the system pages there: 11 exactly if no run is left
      module _ (have : file_need v e ≤ unreserved v) where
        sound-w : Sound P w
        sound-w = (file-place (lowest-stock S (omega (arith, W.least))) (wanted img u name type created U N T owner fresh lt have)).placed.sound

        pub eleven-create-contiguous : (r.number ≡ 11) ↔ ((s : ℕ) → FreeRun P w n s → ⊥)
        unfolding create_contiguous_call call asking judged Lowest Asks
        eleven-create-contiguous = number-exact (create_contiguous_call img u name type created n) img r img' o 11 (omega arith) (0 < highest_run P w n) ((s : ℕ) → FreeRun P w n s → ⊥)
            (elim (eq-zero-or-pos (highest_run P w n)) [ inl z ↦ inr (run_none P w n sound-w (omega (arith, W.least)) C.0 z) | inr p ↦ inl p ])
            (λ f. inr (W, inr ((U, N, T, C), inr (S, inr (owner, inr (fresh, inr (lt, inr (le, inr (have, inl (refl, λ p. f (highest_run P w n) (run-found P w n p)))))))))))
            (λ b. ((λ q. W), ((λ q. (U, N, T, C)), ((λ q. S), ((λ q. owner), ((λ q. fresh), ((λ q. lt), ((λ q. le), ((λ q. have), ((λ q. b), tt))))))))))

        -- otherwise done, and the run taken is the highest
        pub enough-create-contiguous : (s : ℕ) → FreeRun P w n s → (r.number ≡ 0) × FreeRun P w n (highest_run P w n) × (s ≤ highest_run P w n)
        unfolding create_contiguous_call call asking judged Clear
        enough-create-contiguous s f =
            let x : (s ≤ highest_run P w n) × (0 < highest_run P w n) = run-exact P w n sound-w (omega (arith, W.least)) C.0 s f in
            ((clear-done (create_contiguous_call img u name type created n) img r img' (W, ((U, N, T, C), (S, (owner, (fresh, (lt, (le, (have, (x.1, tt))))))))) o).number, run-found P w n x.1, x.0)
