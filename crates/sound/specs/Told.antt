-- A holder as code tells it: four numbers. Assumes nothing.
use Rattle.std.specs.Prelude.{◌≡◌, ℕ}
use Rattle.std.proofs.Common.{sym, ap, ◌∙◌}
use Rattle.book.specs.Answers.{HolderNumbers}
use Rattle.sound.specs.declared.numbers.HolderNumbers.{HolderNumbers as Struct}

-- the struct has these four numbers
abbrev pub Tells : Struct → HolderNumbers → Type 0
Tells r h = (r.kind ≡ h.kind) × (r.user ≡ h.user) × (r.file ≡ h.file) × (r.position ≡ h.position)

-- ---- law: one struct has them

pub one_told : (h : HolderNumbers) (r s : Struct) → Tells r h → Tells s h → r ≡ s
one_told h r s a b =
    ap (λ (x : ℕ). mk x r.user r.file r.position) (a.0 ∙ sym b.0) ∙ ap (λ (x : ℕ). mk s.kind x r.file r.position) (a.1 ∙ sym b.1)
    ∙ ap (λ (x : ℕ). mk s.kind s.user x r.position) (a.2 ∙ sym b.2) ∙ ap (mk s.kind s.user s.file) (a.3 ∙ sym b.3)
  where
    mk : ℕ → ℕ → ℕ → ℕ → Struct
    mk k u f n = record { kind = k; user = u; file = f; position = n }
