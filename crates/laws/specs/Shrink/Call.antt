-- The shrink call: sound again, where pages lie, what it gives back, what it leaves. Assumes nothing.
use Rattle.std.specs.Prelude.{◌≡◌, List, ℕ, ◌+◌, ◌-◌, ◌<◌}
use Rattle.std.proofs.Math.Path.{refl, sym, subst}
use native.Mathlib.Omega.{arith}
use Rattle.book.specs.Answers.{Numbers}
use Rattle.book.specs.Bits.{bit}
use Rattle.book.specs.Calls.{shrink_call, HasFile, Shrinks}
use Rattle.book.specs.Entries.{user, object, page_count, file_entry, used_pages}
use Rattle.book.specs.Files.{file_at, need}
use Rattle.book.specs.Holders.{hit}
use Rattle.book.specs.Image.{pages, Whole, IndexArg}
use Rattle.book.specs.Outcome.{Outcome, DoneAs, call, asking, judged}
use Rattle.book.specs.Pointers.{flags}
use Rattle.book.specs.Rows.{Clear, Counted}
use Rattle.book.specs.Rules.{Sound}
use Rattle.book.specs.Shrink.{shrink}
use Rattle.book.specs.Trees.{page_at}
use Rattle.book.specs.Words.{Vol, vol}
use Rattle.laws.specs.Call.After.{after_call, kept-call}
use Rattle.laws.specs.Call.Done.{done}
use Rattle.laws.specs.Count.Good.{Good, good, sound, free}
use Rattle.laws.specs.File.Around.{Around}
use Rattle.laws.specs.File.Kinds.{grows-kind}
use Rattle.laws.specs.Frame.Beside.{Beside, beside-bits, beside-free, beside-refl}
use Rattle.laws.specs.Frame.Places.{OnlyAt}
use Rattle.laws.specs.Shrink.Indexed.{Lost}
use Rattle.laws.specs.Shrink.Step.{shrunk}
use Rattle.laws.specs.Tree.Levels.{last}
use Rattle.laws.specs.Tree.Slot.{hit-zero}

module _ (img : List ℕ) (u f : ℕ) where
  abbrev P : ℕ
  P = pages img

  abbrev v : Vol
  v = vol img

  abbrev e : ℕ
  e = file_entry u f

  abbrev n : ℕ
  n = page_count (object v e)

  -- the step that the call takes
  shrink-step : Whole img → IndexArg u × IndexArg f → Sound P v → HasFile v u f → Shrinks v e → Lost P v (shrink P v u f) u e (n - 1) (λ p. 0)
  shrink-step W A S h s = shrunk P v S (omega (arith, W.least)) (omega (arith, W.most)) u f (omega (arith, A.0)) (omega (arith, A.1)) h.1 (grows-kind (flags (object v e) 30) n s.0) s.1

  module _ (r : Numbers ℕ) (img' : List ℕ) (o : Outcome (shrink_call img u f) img r img') where
    abbrev v' : Vol
    v' = vol img'

    pub kept-shrink : Sound P v → Sound (pages img') v'
    unfolding shrink_call call Clear
    kept-shrink = kept-call img _ _ 0 _ _ r img' o (λ W A S c. sound P _ (λ p. 0) (shrink-step W A S c.0 c.1.0).good (λ p h. refl))

    -- all beside the file and its owner's used count is as it was
    pub beside-shrink : Beside P v v' u e
    unfolding shrink_call call Clear
    beside-shrink = after_call img _ _ 0 _ _ r img' o (λ w. Beside P v w u e) (beside-refl P v u e) (λ W A S c. (shrink-step W A S c.0 c.1.0).beside)

    -- no other word changes: the bits of the last position's pages, its slot, the counts
    pub frame-shrink : OnlyAt (Around P v u e (n - 1)) v v'
    unfolding shrink_call call Clear
    frame-shrink = after_call img _ _ 0 _ _ r img' o (λ w. OnlyAt (Around P v u e (n - 1)) v w) (λ p k h. refl) (λ W A S c. (shrink-step W A S c.0 c.1.0).words)

    -- the file's pages but the last are where they were
    pub shrink-old : (m : ℕ) → m < n - 1 → page_at v' (file_at v' e) m ≡ page_at v (file_at v e) m
    unfolding shrink_call call Clear
    shrink-old m h = after_call img _ _ 0 _ _ r img' o (λ w. page_at w (file_at w e) m ≡ page_at v (file_at v e) m) refl (λ W A S c. sym ((shrink-step W A S c.0 c.1.0).longer.old m h))

    -- done: the file has one page less
    module _ (z : r.number ≡ 0) where
      pub shrink-done : DoneAs (shrink_call img u f) img r img'
      unfolding shrink_call call asking judged Counted
      shrink-done = done (shrink_call img u f) img r img' (omega arith, (omega arith, (omega arith, (omega arith, (omega arith, tt))))) o z

      pub shrunk-call : Lost P v v' u e (n - 1) (λ p. 0)
      unfolding shrink_call call asking judged Clear
      shrunk-call =
          let c = shrink-done.clear in
          subst (λ (w : Vol). Lost P v w u e (n - 1) (λ p. 0)) (sym shrink-done.image) (shrink-step c.0 c.1.0 c.1.1.0 c.1.1.1.0 c.1.1.1.1.0)

      before : Good P v (λ p. 0)
      unfolding shrink_call call asking judged Clear
      before = good P v shrink-done.clear.1.1.0

      pub shrink-count : page_count (object v' e) + 1 ≡ n
      shrink-count = omega (arith, shrunk-call.longer.count, shrunk-call.longer.count')

      pub shrink-used : used_pages (user v') u + need (n - 1) ≡ used_pages (user v) u
      shrink-used = sym shrunk-call.longer.spent

      pub shrink-free : free P v' ≡ free P v + need (n - 1)
      unfolding shrink_call call asking judged Clear
      shrink-free =
          let c = shrink-done.clear in
          omega (
            arith,
            shrink-used,
            beside-free P v v' u f (omega (arith, c.0.least)) (omega (arith, c.1.0.0)) (omega (arith, c.1.0.1)) c.1.1.1.0.1 before shrunk-call.good beside-shrink,
          )

      -- the pages of the last position are free, and no others
      pub shrink-bits : (p : ℕ) → p < P → bit P v' p + last v (file_at v e) (n - 1) (hit p) ≡ bit P v p
      shrink-bits p h = omega (arith, beside-bits P v v' u e before shrunk-call.good beside-shrink p h, shrunk-call.longer.weight (hit p) (hit-zero p))
