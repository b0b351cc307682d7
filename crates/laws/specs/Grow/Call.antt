-- The grow call: sound again, where pages lie, what it takes, what it leaves. Assumes nothing.
use Rattle.std.specs.Prelude.{◌≡◌, List, ℕ, suc, ◌+◌, ◌≤◌, ◌<◌}
use Rattle.std.proofs.Math.Path.{refl, subst₂}
use Rattle.std.proofs.Common.{sym}
use native.Mathlib.Omega.{arith}
use Rattle.book.specs.Answers.{Numbers}
use Rattle.book.specs.Bits.{bit, lowest_free}
use Rattle.book.specs.Calls.{grow_call, HasFile, Grows}
use Rattle.book.specs.Entries.{user, object, spare, page_count, file_entry, used_pages}
use Rattle.book.specs.Files.{file_at, need}
use Rattle.book.specs.Grow.{grow}
use Rattle.book.specs.Holders.{hit}
use Rattle.book.specs.Image.{pages, Whole, IndexArg}
use Rattle.book.specs.Outcome.{Outcome, DoneAs, call, asking, judged}
use Rattle.book.specs.Pointers.{flags}
use Rattle.book.specs.Rows.{Clear, Counted}
use Rattle.book.specs.Rules.{Rule4Over, Sound}
use Rattle.book.specs.Trees.{page_at}
use Rattle.book.specs.Words.{Vol, vol}
use Rattle.laws.specs.Bits.Choose.{lowest-stock}
use Rattle.laws.specs.Call.After.{after_call, kept-call}
use Rattle.laws.specs.Call.Done.{done}
use Rattle.laws.specs.Count.Good.{Good, good, sound, free}
use Rattle.laws.specs.File.Around.{AroundNew}
use Rattle.laws.specs.File.Kinds.{grows-kind}
use Rattle.laws.specs.Frame.Beside.{Beside, beside-bits, beside-free, beside-refl}
use Rattle.laws.specs.Frame.Places.{OnlyAt}
use Rattle.laws.specs.Grow.Indexed.{Grew}
use Rattle.laws.specs.Grow.Step.{grown}
use Rattle.laws.specs.Tree.Levels.{last}
use Rattle.laws.specs.Tree.Slot.{hit-zero}

module _ (img : List ℕ) (u f : ℕ) where
  abbrev P : ℕ
  P = pages img

  abbrev v : Vol
  v = vol img

  abbrev e : ℕ
  e = file_entry u f

  abbrev n : ℕ
  n = page_count (object v e)

  -- the step that the call takes
  grow-step : Whole img → IndexArg u × IndexArg f → Sound P v → HasFile v u f → Grows v e → need n ≤ spare v u → Grew P v (grow (lowest_free P) P v u f) u e n (lowest_free P v) (λ p. 0)
  unfolding spare Rule4Over
  grow-step W A S h g l =
      let hu : u < 256 = omega (arith, A.0) in let hf : f < 256 = omega (arith, A.1) in
      grown (lowest-stock S (omega (arith, W.least))) (omega (arith, W.most)) u f hu hf h.1
      (grows-kind (flags (object v e) 30) n g) (omega (arith, l, (S.r4.0 u hu h.0).within))

  module _ (r : Numbers ℕ) (img' : List ℕ) (o : Outcome (grow_call img u f) img r img') where
    abbrev v' : Vol
    v' = vol img'

    pub kept-grow : Sound P v → Sound (pages img') v'
    unfolding grow_call call Clear
    kept-grow = kept-call img _ _ 0 _ _ r img' o (λ W A S c. sound P _ (λ p. 0) (grow-step W A S c.0 c.1.0 c.1.1.0).good (λ p h. refl))

    -- all beside the file and its owner's used count is as it was
    pub beside-grow : Beside P v v' u e
    unfolding grow_call call Clear
    beside-grow = after_call img _ _ 0 _ _ r img' o (λ w. Beside P v w u e) (beside-refl P v u e) (λ W A S c. (grow-step W A S c.0 c.1.0 c.1.1.0).beside)

    -- no other word changes: the new position's pages, their bits, its slot, the counts
    pub frame-grow : OnlyAt (AroundNew P v' u e n) v v'
    unfolding grow_call call Clear
    frame-grow = after_call img _ _ 0 _ _ r img' o (λ w. OnlyAt (AroundNew P w u e n) v w) (λ p k h. refl) (λ W A S c. (grow-step W A S c.0 c.1.0 c.1.1.0).words)

    -- the file's pages are where they were
    pub grow-old : (m : ℕ) → m < n → page_at v' (file_at v' e) m ≡ page_at v (file_at v e) m
    unfolding grow_call call Clear
    grow-old m h = after_call img _ _ 0 _ _ r img' o (λ w. page_at w (file_at w e) m ≡ page_at v (file_at v e) m) refl (λ W A S c. (grow-step W A S c.0 c.1.0 c.1.1.0).longer.old m h)

    -- done: the file has one page more, which is the page returned, the lowest free
    module _ (z : r.number ≡ 0) where
      pub grow-done : DoneAs (grow_call img u f) img r img'
      unfolding grow_call call asking judged Counted
      grow-done = done (grow_call img u f) img r img' (omega arith, (omega arith, (omega arith, (omega arith, (omega arith, (omega arith, tt)))))) o z

      pub grew-call : Grew P v v' u e n r.value (λ p. 0)
      unfolding grow_call call asking judged Clear
      grew-call =
          let c = grow-done.clear in
          subst₂ (λ (w : Vol) (d : ℕ). Grew P v w u e n d (λ p. 0)) (sym grow-done.image) (sym grow-done.value) (grow-step c.0 c.1.0 c.1.1.0 c.1.1.1.0 c.1.1.1.1.0 c.1.1.1.1.1.0)

      before : Good P v (λ p. 0)
      unfolding grow_call call asking judged Clear
      before = good P v grow-done.clear.1.1.0

      pub grow-value : r.value ≡ lowest_free P v
      unfolding grow_call call asking
      grow-value = grow-done.value

      pub grow-new : page_at v' (file_at v' e) n ≡ r.value
      grow-new = grew-call.at

      pub grow-count : page_count (object v' e) ≡ suc n
      grow-count = grew-call.longer.count'

      pub grow-used : used_pages (user v') u ≡ used_pages (user v) u + need n
      grow-used = grew-call.longer.spent

      -- as many pages less are free
      pub grow-free : free P v' + need n ≡ free P v
      unfolding grow_call call asking judged Clear
      grow-free =
          let c = grow-done.clear in
          omega (
            arith,
            grow-used,
            beside-free P v v' u f (omega (arith, c.0.least)) (omega (arith, c.1.0.0)) (omega (arith, c.1.0.1)) c.1.1.1.0.1 before grew-call.good beside-grow,
          )

      -- the pages of the new position are taken, and no others
      pub grow-bits : (p : ℕ) → p < P → bit P v' p ≡ bit P v p + last v' (file_at v' e) n (hit p)
      grow-bits p h = omega (arith, beside-bits P v v' u e before grew-call.good beside-grow p h, grew-call.longer.weight (hit p) (hit-zero p))
