-- What a C caller of salvage is told: a reply that spells an outcome of the book's call, and the list. Assumes nothing.
use Rattle.std.specs.Prelude.{◌≡◌, ◌⊎◌, List, ◌++◌, map, ℕ, ◌≤◌, length, take, drop}
use Rattle.std.proofs.Common.{sym, ap, ap₂, subst, ◌∙◌, inl, inr}
use Rattle.book.specs.Answers.{Numbers}
use Rattle.book.specs.Calls.{salvage_call, repairs, repaired, Salvaged}
use Rattle.book.specs.Outcome.{Outcome, RefusedAs, DoneAs}
use Rattle.book.specs.declared.Change.{Change}
use Rattle.laws.specs.Salvage.Call.{one-salvage}
use Rattle.salvage.specs.Row.{unpacked, row_size}
use Rattle.edge.specs.Replied.{Spelled}
use Rattle.edge.specs.OneReply.{same-reply}
use Rattle.edge.specs.declared.spell.Reply.{Reply}

-- the reply spells what a salvage with such a list comes back with
unfoldable pub Salvages : List ℕ → List Change → Reply → List ℕ → List Change → Type 0
Salvages img list r img' list' = (n : Numbers ℕ) × Salvaged img list n img' list' × Spelled n r

-- before the list is filled: the row begins with the changes, and there is room for them
pub record Mended (img : List ℕ) (room : ℕ) (r : Reply) (img' row' : List ℕ) : Type 0 where
  pub numbers : Numbers ℕ
  pub outcome : Outcome (salvage_call img room) img numbers img'
  pub spelled : Spelled numbers r
  pub told : numbers.number ≡ 0 → map unpacked (take numbers.value row') ≡ repairs img
  pub counted : numbers.number ≡ 0 → numbers.value ≡ repaired img
  pub few : r.value ≤ room
  pub short : r.value ≤ row_size

-- filled from the row
pub mended-salvages : (img : List ℕ) (list : List Change) (r : Reply) (img' row' : List ℕ) (list' : List Change)
    → Mended img (length list) r img' row' → list' ≡ map unpacked (take r.value row') ++ drop r.value list → Salvages img list r img' list'
unfolding Salvages Outcome salvage_call
mended-salvages img list r img' row' list' m e = (n, record { outcome = m.outcome; listed = record { done = done; refused = refused m.outcome } }, m.spelled)
  where
    n : Numbers ℕ
    n = m.numbers

    filled : list' ≡ map unpacked (take n.value row') ++ drop n.value list
    filled = e ∙ ap (λ (k : ℕ). map unpacked (take k row') ++ drop k list) m.spelled.1

    done : n.number ≡ 0 → list' ≡ repairs img ++ drop (repaired img) list
    done z = filled ∙ ap₂ (λ (l : List Change) (k : ℕ). l ++ drop k list) (m.told z) (m.counted z)

    refused : (RefusedAs (salvage_call img (length list)) img n img' ⊎ DoneAs (salvage_call img (length list)) img n img') → (n.number ≡ 0 → ⊥) → list' ≡ list
    refused (inl x) z = filled ∙ ap (λ (k : ℕ). map unpacked (take k row') ++ drop k list) x.value
    refused (inr x) z = absurd (z x.number)

-- two replies that meet it are the same, and so are the image and the list afterwards
pub one-salvage-reply : (img : List ℕ) (list : List Change) (r s : Reply) (a b : List ℕ) (l m : List Change) → Salvages img list r a l → Salvages img list s b m → (r ≡ s) × (a ≡ b) × (l ≡ m)
unfolding Salvages
one-salvage-reply img list r s a b l m (x, o, p) (y, q, t) =
    let e = one-salvage img list x y a b l m o q in
    (same-reply x r s p (subst (λ (k : Numbers ℕ). Spelled k s) (sym e.0) t), e.1, e.2)
