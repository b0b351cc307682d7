-- `walk::same::same_words` meets its contract. Assumes nothing.
use Rattle.std.proofs.Common.{◌/◌, ◌%◌, sym, ◌∙◌, arith}
use Rattle.std.proofs.lemmas.Bool.{eq-eqb}
use Rattle.std.proofs.lemmas.Slice.Eq.{bytes_eq-Decides}
use Rattle.page.proofs.Deciding.{decides-iff, decides_eq, never}
use Rattle.walk.proofs.Lows.{words_same, words-alike, first_same, first-alike}
use Rattle.walk.proofs.same.same_words.Goals as goal

pub returns-then-rest-eq0 : goal.returns-then-rest-eq0
returns-then-rest-eq0 c = rw (eq-eqb _ _ c.if-rest-eq0.true) (λ p h. first_same _ _ (c.args.pages / 16) ((bytes_eq-Decides _ _).0 (sym c.if-eq.ensures)) p (omega arith))

pub returns-else-rest-eq0 : goal.returns-else-rest-eq0
returns-else-rest-eq0 c =
    decides-iff _ _ _
    (λ e p h. words_same c.args.a.now c.args.b.now (c.args.pages / 16) (c.args.pages % 16) (omega arith) (sym c.low_bits.ensures ∙ e ∙ c.low_bits-else-rest-eq0.ensures)
    (first_same _ _ (c.args.pages / 16) ((bytes_eq-Decides _ _).0 (sym c.if-eq.ensures))) p (omega arith))
    (λ h. c.low_bits.ensures ∙ words-alike c.args.a.now c.args.b.now (c.args.pages / 16) (c.args.pages % 16) (omega arith) c.args.pages (omega arith) h ∙ sym c.low_bits-else-rest-eq0.ensures)
    (decides_eq c.low_bits.result c.low_bits-else-rest-eq0.result)

pub returns-else-eq : goal.returns-else-eq
returns-else-eq c =
    rw c.if-eq.false (λ h. never (c.if-eq.ensures ∙ (bytes_eq-Decides _ _).1 (
    first-alike c.args.a.now c.args.b.now (c.args.pages / 16) (omega arith) (omega arith) (λ k. (c.type_inv.a k).fits) (λ k. (c.type_inv.b k).fits) c.args.pages (omega arith) h
    )))
