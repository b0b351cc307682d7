-- `salvage::list::fill` meets its contract: one more record is filled in each turn.
use Rattle.std.proofs.Common.{◌≡◌, ◌∙◌, ℕ, ap, sym, List, ◌++◌, map, take, drop, set, length, arith}
use Rattle.std.proofs.lemmas.List.{length-take-le, drop_all, append-nil}
use native.Mathlib.Numerals.{add-one}
use Rattle.book.specs.declared.Change.{Change}
use Rattle.salvage.specs.Row.{unpacked}
use Rattle.salvage.specs.Filled.{filled, filled_next}
use Rattle.salvage.proofs.list.fill.Goals as goal

pub loop-k-preserved : goal.loop-k-preserved
loop-k-preserved c =
    let part : List Change = take c.args.n c.args.list.now in
    let n : length part ≡ c.args.n = length-take-le c.args.n c.args.list.now c.requires.0 in
    ap (λ (xs : List Change). set xs c.loop-k.k c.told_at.result) c.loop-k.invariant
    ∙ ap (λ (x : Change). set (filled unpacked part c.args.row.now c.loop-k.k) c.loop-k.k x) c.told_at.ensures
    ∙ filled_next unpacked part c.args.row.now c.loop-k.k (omega arith) (omega (arith, n, c.requires.1))
    ∙ ap (λ (k : ℕ). filled unpacked part c.args.row.now k) (sym (add-one c.loop-k.k))

pub returns : goal.returns
returns c =
    let part : List Change = take c.args.n c.args.list.now in
    let n : length part ≡ c.args.n = length-take-le c.args.n c.args.list.now c.requires.0 in
    let e : c.loop-k.k ≡ c.args.n = omega arith in
    ap (λ (xs : List Change). xs ++ drop c.args.n c.args.list.now)
    (c.loop-k.invariant
    ∙ ap (λ (k : ℕ). filled unpacked part c.args.row.now k) e
    ∙ ap (λ (xs : List Change). map unpacked (take c.args.n c.args.row.now) ++ xs) (drop_all c.args.n part (omega arith))
    ∙ append-nil _)
