use Rattle.std.proofs.Common.{◌≡◌, ap, sym, ◌∙◌, get_or, set, take, arith}
use Rattle.std.proofs.lemmas.List.{get_or-take, length-take-le}
use Prim.Native.Nat.{◌<◌}
use Rattle.salvage.specs.Applied.{packed_place, packed_new, applied}
use Rattle.salvage.proofs.Stored.{applied-none, applied-more}
use Rattle.salvage.proofs.apply.apply.Goals as goal

pub loop-x-init : goal.loop-x-init
loop-x-init c = sym (applied-none _ _)

pub offset_bounds-img-place_of : goal.offset_bounds-img-place_of
offset_bounds-img-place_of c = omega (arith, c.place_of.ensures.1)

pub bounds-img-place_of : goal.bounds-img-place_of
bounds-img-place_of c =
    let h : c.loop-x.x-index < c.args.n = omega (arith, length-take-le c.args.n c.args.row.now (omega (arith, c.requires.0, c.requires.1))) in
    omega (arith, c.place_of.ensures.0 ∙ ap packed_place (get_or-take c.args.n c.args.row.now c.loop-x.x-index 0 h), c.requires.2 c.loop-x.x-index h)

pub loop-x-preserved : goal.loop-x-preserved
loop-x-preserved c =
    let h : c.loop-x.x-index < c.args.n = omega (arith, length-take-le c.args.n c.args.row.now (omega (arith, c.requires.0, c.requires.1))) in
    let e : get_or (take c.args.n c.args.row.now) c.loop-x.x-index 0 ≡ get_or c.args.row.now c.loop-x.x-index 0 = get_or-take c.args.n c.args.row.now c.loop-x.x-index 0 h in
    ap (λ z. set z c.place_of.result c.new_of.result) c.loop-x.invariant ∙ applied-more _ _ c.loop-x.x-index _ _ (c.place_of.ensures.0 ∙ ap packed_place e) (c.new_of.ensures ∙ ap packed_new e)

pub returns : goal.returns
returns c =
    let e : c.loop-x.x-index ≡ c.args.n = omega (arith, length-take-le c.args.n c.args.row.now (omega (arith, c.requires.0, c.requires.1))) in
    c.loop-x.invariant ∙ ap (applied _ _) e
