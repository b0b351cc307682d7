-- `page::names::letters_at` meets its contract. Assumes nothing.
use mathlib.Core.Path.{◌≡◌, subst}
use Prim.Native.Nat.{◌+◌, ◌*◌}
use native.Mathlib.Omega.{arith}
use borrow.Author.Count.{below_more}
use lib.ListN.{get_or}
use Rattle.book.specs.Words.{vol}
use Rattle.book.specs.Names.{Letter, byte_at}
use Rattle.book.specs.Decides.{holds, fails}
use Rattle.page.proofs.Bytes.{bytes-high, bytes-low}
use Rattle.page.proofs.Stored.{byte_high, byte_low, word_more}
use Rattle.page.proofs.names.letters_at.Goals as goal

pub returns-then-not-letter : goal.returns-then-not-letter
returns-then-not-letter c =
    let e : byte_at (vol c.args.img.now c.args.p) c.args.k (2 * c.loop-i.i) ≡ get_or c.to_be_bytes.result 0 0 = omega (arith, bytes-high c.word_at.result c.to_be_bytes.result (omega arith) c.to_be_bytes.ensures, byte_high (vol c.args.img.now c.args.p) c.args.k c.loop-i.i) in
    record { most = omega arith; before = c.loop-i.invariant; stops = λ h b. fails c.letter.result _ c.letter.ensures c.if-not-letter.true-raw (subst Letter e b) }

pub returns-then-not-letter-2 : goal.returns-then-not-letter-2
returns-then-not-letter-2 c =
    let w = vol c.args.img.now c.args.p in
    let d : get_or c.to_be_bytes.result 0 0 ≡ byte_at w c.args.k (2 * c.loop-i.i) = omega (arith, bytes-high c.word_at.result c.to_be_bytes.result (omega arith) c.to_be_bytes.ensures, byte_high w c.args.k c.loop-i.i) in
    let e : byte_at w c.args.k (2 * c.loop-i.i + 1) ≡ get_or c.to_be_bytes.result 1 0 = omega (arith, bytes-low c.word_at.result c.to_be_bytes.result c.to_be_bytes.ensures, byte_low w c.args.k c.loop-i.i) in
    record {
      most = omega arith;
      before = below_more _ (2 * c.loop-i.i) c.loop-i.invariant (subst Letter d (holds c.letter.result _ c.letter.ensures c.if-not-letter.false-raw));
      stops = λ h b. fails c.letter-in-loop-i.result _ c.letter-in-loop-i.ensures c.if-not-letter-2.true-raw (subst Letter e b);
    }

pub loop-i-preserved : goal.loop-i-preserved
loop-i-preserved c =
    let w = vol c.args.img.now c.args.p in
    let d : get_or c.to_be_bytes.result 0 0 ≡ byte_at w c.args.k (2 * c.loop-i.i) = omega (arith, bytes-high c.word_at.result c.to_be_bytes.result (omega arith) c.to_be_bytes.ensures, byte_high w c.args.k c.loop-i.i) in
    let e : get_or c.to_be_bytes.result 1 0 ≡ byte_at w c.args.k (2 * c.loop-i.i + 1) = omega (arith, bytes-low c.word_at.result c.to_be_bytes.result c.to_be_bytes.ensures, byte_low w c.args.k c.loop-i.i) in
    word_more (λ j. Letter (byte_at w c.args.k j)) c.loop-i.i c.loop-i.invariant
    (subst Letter d (holds c.letter.result _ c.letter.ensures c.if-not-letter.false-raw))
    (subst Letter e (holds c.letter-in-loop-i.result _ c.letter-in-loop-i.ensures c.if-not-letter-2.false-raw))
