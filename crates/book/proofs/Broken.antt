-- What refusal 3 tells is one thing. Assumes nothing.
use Rattle.std.specs.Prelude.{◌≡◌, Bool, ℕ}
use Rattle.std.proofs.Common.{sym, ap, ◌∙◌, subst}
use Rattle.std.proofs.Math.Decide.{ℕ_discrete}
use Rattle.book.specs.Words.{Vol}
use Rattle.book.specs.Rows.{lowest-one}
use Rattle.book.specs.Rules.{rules_of}
use Rattle.book.specs.declared.Holder.{Holder}
use Rattle.book.specs.declared.Place.{Place}
use Rattle.book.specs.declared.Break.{Break}
use Rattle.book.specs.Spots.{First}
use Rattle.book.specs.Places.{spots_of}
use Rattle.book.specs.Pair.{one-pair}
use Rattle.book.specs.Broken.{PairFor, BrokenBy}
use Rattle.book.proofs.Spots.{first_one}

pair_one : (P : ℕ) (v : Vol) (r p : ℕ) (g h a b : Holder) → PairFor P v r p g h → PairFor P v r p a b → (g ≡ a) × (h ≡ b)
unfolding PairFor
pair_one P v r p g h a b x y = elim (ℕ_discrete r 8) [
  | yes e ↦ one-pair P v p g h a b (x.0 e) (y.0 e)
  | no ne ↦ let i = x.1 ne in let j = y.1 ne in (i.0 ∙ sym j.0, i.1 ∙ sym j.1)
]

same : (x y : Break) → x.rule ≡ y.rule → x.place ≡ y.place → x.first ≡ y.first → x.second ≡ y.second → x ≡ y
same x y a b c d =
    ap (λ (r : ℕ). make r x.place x.first x.second) a ∙ ap (λ (q : Place). make y.rule q x.first x.second) b
    ∙ ap (λ (h : Holder). make y.rule y.place h x.second) c ∙ ap (make y.rule y.place y.first) d
  where
    make : ℕ → Place → Holder → Holder → Break
    make r q g h = record { rule = r; place = q; first = g; second = h }

pub one-break : (ten : Bool) (P : ℕ) (v : Vol) (x y : Break) → BrokenBy ten P v x → BrokenBy ten P v y → x ≡ y
one-break ten P v x y a b =
    let r : x.rule ≡ y.rule = lowest-one (rules_of ten P v) x.rule y.rule a.rule b.rule in
    let q : x.place ≡ y.place = first_one (spots_of ten P v y.rule) x.place y.place (subst (λ (n : ℕ). First (spots_of ten P v n) x.place) r a.place) b.place in
    let p : PairFor P v y.rule y.place.page x.first x.second =
    subst (λ (n : ℕ). PairFor P v n y.place.page x.first x.second) r (subst (λ (z : Place). PairFor P v x.rule z.page x.first x.second) q a.pair) in
    let e = pair_one P v y.rule y.place.page x.first x.second y.first y.second p b.pair in
    same x y r q e.0 e.1
