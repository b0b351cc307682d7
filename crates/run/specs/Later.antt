-- A salvage after a step that was done: it has nothing to tell, and nothing changes. So one list serves a run, and only its first step can write to it. Assumes nothing.
use Rattle.std.specs.Prelude.{◌≡◌, List, [], ◌++◌, ℕ, ◌*◌, ◌/◌, length, drop}
use Rattle.std.proofs.Common.{ap₂, ◌∙◌, arith}
use Rattle.book.specs.Answers.{Numbers}
use Rattle.book.specs.Calls.{salvaged, repairs, repaired, salvage_call}
use Rattle.book.specs.Coincide.{vol-ext}
use Rattle.book.specs.Image.{pages, Sixteen, Ready}
use Rattle.book.specs.Outcome.{DoneAs}
use Rattle.book.specs.Rows.{Clear}
use Rattle.book.specs.Run.{flat, ChangesResult}
use Rattle.book.specs.Words.{vol}
use Rattle.book.specs.declared.Change.{Change}
use Rattle.laws.specs.Call.After.{small-words}
use Rattle.laws.specs.Call.Done.{clear-done}
use Rattle.laws.specs.Salvage.Again.{sound-pointed, sound-affords, sound-mended}
use Rattle.laws.specs.Salvage.Changes.{same_lists}

pub later-salvage : (img list : List ℕ) → Sixteen img → Ready img → (r : Numbers ℕ) (img' list' : List ℕ) → ChangesResult img list r img' list'
    → (r.number ≡ 0) × (r.value ≡ 0) × (img' ≡ img) × (list' ≡ list)
unfolding Clear salvage_call flat
later-salvage img list B R r img' list' c = (
  d.number,
  d.value ∙ none.0,
  vol-ext img' img d.size (d.image ∙ same),
  c.listed.done d.number ∙ ap₂ (λ (l : List Change) (m : ℕ). flat l ++ drop (4 * m) list) none.1 none.0,
)
  where
    same : salvaged img ≡ vol img
    same = sound-mended (pages img) (vol img) R.sound (omega (arith, R.whole.least)) (small-words img B)

    none : (repaired img ≡ 0) × (repairs img ≡ [])
    none = same_lists (vol img) (salvaged img) same (1024 * pages img)

    d : DoneAs (salvage_call img (length list / 4)) img r img'
    d = clear-done (salvage_call img (length list / 4)) img r img' (R.whole, (sound-pointed _ _ R.sound, (sound-affords _ _ R.sound, (omega (arith, none.0), tt)))) c.outcome
