-- `page::names::byte_at` meets its contract. Assumes nothing.
use mathlib.Core.Path.{◌≡◌, ap, ◌∙◌}
use Prim.Native.Nat.{ℕ, ◌%◌}
use native.Mathlib.Decide.{ℕ_discrete}
use native.Mathlib.Omega.{arith}
use lib.ListN.{get_or}
use Rattle.book.specs.Words.{vol}
use Rattle.page.proofs.Bytes.{bytes-high, bytes-low}
use Rattle.page.proofs.Stored.{byte-even, byte-odd}
use Rattle.page.proofs.names.byte_at.Goals as goal

pub returns : goal.returns
returns c =
    let w = vol c.args.img.now c.args.p in
    elim (ℕ_discrete (c.args.i % 2) 0) [
      | yes e ↦ ap (λ (j : ℕ). get_or c.to_be_bytes.result j 0) e ∙ omega (arith, bytes-high c.word_at.result c.to_be_bytes.result (omega arith) c.to_be_bytes.ensures, c.word_at.ensures, byte-even w c.args.k c.args.i e)
      | no n ↦
          let e : c.args.i % 2 ≡ 1 = omega arith in
          ap (λ (j : ℕ). get_or c.to_be_bytes.result j 0) e ∙ omega (arith, bytes-low c.word_at.result c.to_be_bytes.result c.to_be_bytes.ensures, c.word_at.ensures, byte-odd w c.args.k c.args.i e)
    ]
