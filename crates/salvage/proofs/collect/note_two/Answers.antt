use mathlib.Core.Path.{◌≡◌, subst}
use Prim.Native.Nat.{ℕ, ◌+◌}
use native.Mathlib.Omega.{arith}
use Rattle.salvage.specs.Row.{RowTells}
use Rattle.salvage.proofs.collect.note_two.Goals as goal

pub note_word-m-requires : goal.note_word-m-requires
note_word-m-requires c = (c.requires.0, c.requires.1, omega (arith, c.requires.2), c.requires.3)

pub note_word-requires : goal.note_word-requires
note_word-requires c = (c.requires.0, c.note_word-m.ensures, c.requires.2, c.requires.4)

pub returns : goal.returns
returns c = let e : c.args.i + 1 + 1 ≡ c.args.i + 2 = omega arith in
    subst (λ (i : ℕ). RowTells c.args.img.now i c.note_word.new.row c.note_word.result) e c.note_word.ensures
