-- The delete-file call: sound again, what it frees, what it leaves. Assumes nothing.
use Rattle.std.specs.Prelude.{◌≡◌, refl, ◌↔◌, ◌⊎◌, List, ℕ, ◌+◌, ◌<◌}
use Rattle.std.proofs.Common.{sym, ◌∙◌, inl, inr, eq-zero-or-pos}
use Rattle.std.proofs.Math.Path.{ap, subst}
use native.Mathlib.Omega.{arith}
use Rattle.sums.specs.Sum.{sum-zero}
use Rattle.book.specs.Answers.{Numbers}
use Rattle.book.specs.Bits.{bit}
use Rattle.book.specs.Calls.{delete_file_call, HasFile}
use Rattle.book.specs.Delete.{delete_file}
use Rattle.book.specs.Entries.{user, object, file_entry, used_pages}
use Rattle.book.specs.Files.{file_at}
use Rattle.book.specs.Holders.{hit, some}
use Rattle.book.specs.Image.{pages, Whole, IndexArg}
use Rattle.book.specs.Outcome.{Outcome, DoneAs, call, asking, judged}
use Rattle.book.specs.Rows.{Clear, Counted}
use Rattle.book.specs.Rules.{Sound}
use Rattle.book.specs.Trees.{Root, weigh_r}
use Rattle.book.specs.Words.{Vol, vol}
use Rattle.laws.specs.Call.After.{after_call, kept-call}
use Rattle.laws.specs.Call.Done.{done}
use Rattle.laws.specs.Count.Good.{Good, good, sound, bit_le, free}
use Rattle.laws.specs.Delete.File.{DeletePlaces, Deleted, deleted, used-zero}
use Rattle.laws.specs.Frame.Beside.{Beside, beside-bits, beside-free, beside-refl}
use Rattle.laws.specs.Frame.Places.{OnlyAt}
use Rattle.laws.specs.Tree.Pointer.{file-unused}

module _ (img : List ℕ) (u f : ℕ) where
  abbrev P : ℕ
  P = pages img

  abbrev v : Vol
  v = vol img

  abbrev e : ℕ
  e = file_entry u f

  -- the step that the call takes
  delete-step : Whole img → IndexArg u × IndexArg f → Sound P v → HasFile v u f → Deleted P v (delete_file P v u f) u e
  delete-step W A S h = deleted P v S (omega (arith, W.least)) (omega (arith, W.most)) u f (omega (arith, A.0)) (omega (arith, A.1)) h.1

  module _ (r : Numbers ℕ) (img' : List ℕ) (o : Outcome (delete_file_call img u f) img r img') where
    abbrev v' : Vol
    v' = vol img'

    pub kept-delete-file : Sound P v → Sound (pages img') v'
    unfolding delete_file_call call Clear
    kept-delete-file = kept-call img _ _ 0 _ _ r img' o (λ W A S c. sound P _ (λ p. 0) (delete-step W A S c.0).good (λ p h. refl))

    -- all beside the file and its owner's used count is as it was
    pub beside-delete-file : Beside P v v' u e
    unfolding delete_file_call call Clear
    beside-delete-file = after_call img _ _ 0 _ _ r img' o (λ w. Beside P v w u e) (beside-refl P v u e) (λ W A S c. (delete-step W A S c.0).beside)

    -- no other word changes: the bits of the file's pages, its entry, its owner's used pages
    pub frame-delete-file : OnlyAt (DeletePlaces P v u e) v v'
    unfolding delete_file_call call Clear
    frame-delete-file = after_call img _ _ 0 _ _ r img' o (λ w. OnlyAt (DeletePlaces P v u e) v w) (λ p k h. refl) (λ W A S c. (delete-step W A S c.0).words)

    -- done: the file is gone
    module _ (z : r.number ≡ 0) where
      pub delete-done : DoneAs (delete_file_call img u f) img r img'
      unfolding delete_file_call call asking judged Counted
      delete-done = done (delete_file_call img u f) img r img' (omega arith, (omega arith, (omega arith, (omega arith, tt)))) o z

      pub deleted-call : Deleted P v v' u e
      unfolding delete_file_call call asking judged Clear
      deleted-call = let c = delete-done.clear in subst (λ (w : Vol). Deleted P v w u e) (sym delete-done.image) (delete-step c.0 c.1.0 c.1.1.0 c.1.1.1.0)

      before : Good P v (λ p. 0)
      unfolding delete_file_call call asking judged Clear
      before = good P v delete-done.clear.1.1.0

      -- it holds nothing
      pub delete-none : (g : ℕ → ℕ) → weigh_r v' (file_at v' e) g ≡ 0
      unfolding weigh_r
      delete-none g = ap (λ (x : Root). weigh_r v' x g) (file-unused v' e (used-zero (object v' e) (deleted-call.clear 0 (omega arith)))) ∙ sum-zero (λ i. g (0 + i))

      -- the used count falls by exactly what the file held
      pub delete-used : used_pages (user v') u + weigh_r v (file_at v e) some ≡ used_pages (user v) u
      delete-used = deleted-call.spent

      pub delete-free : free P v' ≡ free P v + weigh_r v (file_at v e) some
      unfolding delete_file_call call asking judged Clear
      delete-free =
          let c = delete-done.clear in
          omega (
            arith,
            delete-used,
            beside-free P v v' u f (omega (arith, c.0.least)) (omega (arith, c.1.0.0)) (omega (arith, c.1.0.1)) c.1.1.1.0.1 before deleted-call.good beside-delete-file,
          )

      pub delete-bits : (p : ℕ) → p < P → bit P v' p + weigh_r v (file_at v e) (hit p) ≡ bit P v p
      delete-bits p h = omega (arith, beside-bits P v v' u e before deleted-call.good beside-delete-file p h, delete-none (hit p))

      -- a page is free afterwards exactly if it was free before or the file held it
      pub delete-frees : (p : ℕ) → p < P → (bit P v' p ≡ 0) ↔ ((bit P v p ≡ 0) ⊎ (0 < weigh_r v (file_at v e) (hit p)))
      delete-frees p h = (there, back)
        where
          there : bit P v' p ≡ 0 → (bit P v p ≡ 0) ⊎ (0 < weigh_r v (file_at v e) (hit p))
          there q = elim (eq-zero-or-pos (bit P v p)) [
            | inl i ↦ inl i
            | inr i ↦ inr (omega (arith, delete-bits p h))
          ]

          back : (bit P v p ≡ 0) ⊎ (0 < weigh_r v (file_at v e) (hit p)) → bit P v' p ≡ 0
          back (inl i) = omega (arith, delete-bits p h)
          back (inr i) = omega (arith, delete-bits p h, bit_le P v p)
