-- `making::place::with_index` meets its contract. Assumes nothing.
use Prim.Native.Nat.{◌/◌, ℕ}
use Rattle.book.specs.Create.{object_index}
use Rattle.book.specs.Entries.{entry_page}
use Rattle.book.specs.Image.{pages}
use Rattle.book.specs.Words.{vol}
use Rattle.laws.specs.Create.Vacant.{Vacant, top-vacant}
use Rattle.making.proofs.Between.{index_kept, index-new, need-one}
use Rattle.tree.proofs.Ready.{ready-some}
use mathlib.Core.Path.{refl, sym, subst, ◌≡◌}
use native.Mathlib.Omega.{arith}
use Rattle.making.proofs.place.with_index.Goals as goal

pub returns-else-object_index-eq0 : goal.returns-else-object_index-eq0
returns-else-object_index-eq0 c = index_kept (pages c.args.img.now) (vol c.args.img.now) c.args.e (omega arith)

pub extend-requires : goal.extend-requires
extend-requires c =
    let z : object_index (vol c.args.img.now) c.args.e ≡ 0 = omega arith in
    (c.requires.0, subst (λ (x : ℕ). Vacant (pages c.args.img.now) (vol c.args.img.now) x (entry_page c.args.e / 512)) (sym c.page_at-top.ensures.0) (top-vacant (pages c.args.img.now) (vol c.args.img.now) c.requires.0.sound c.args.e c.requires.2 z), need-one (pages c.args.img.now) (vol c.args.img.now) c.args.e c.requires.0.sound (ready-some _ c.requires.0) c.requires.2 c.requires.3 z)

pub returns-then-object_index-eq0 : goal.returns-then-object_index-eq0
returns-then-object_index-eq0 c = let z : object_index (vol c.args.img.now) c.args.e ≡ 0 = omega arith in index-new (pages c.args.img.now) (vol c.args.img.now) c.args.e z c.page_at-top.result (entry_page c.args.e / 512) c.page_at-top.ensures.0 refl _ c.extend.ensures
