-- `making::place::with_object_page` meets its contract. Assumes nothing.
use Prim.Native.Nat.{◌%◌, ℕ}
use Rattle.book.specs.Entries.{object_page, entry_page}
use Rattle.book.specs.Image.{pages}
use Rattle.book.specs.Words.{vol}
use Rattle.laws.specs.Create.Vacant.{Vacant, index-vacant}
use Rattle.making.proofs.Between.{object-kept, object-new}
use Rattle.tree.proofs.Ready.{ready-objects}
use mathlib.Core.Path.{refl, sym, subst, ◌≡◌}
use native.Mathlib.Omega.{arith}
use Rattle.making.proofs.place.with_object_page.Goals as goal

pub object_page-requires : goal.object_page-requires
object_page-requires c = ready-objects _ c.requires.0

pub returns-else-object_page-eq0 : goal.returns-else-object_page-eq0
returns-else-object_page-eq0 c = object-kept (pages c.args.img.now) (vol c.args.img.now) c.args.e (omega arith)

pub extend-requires : goal.extend-requires
extend-requires c =
    let z : object_page (vol c.args.img.now) c.args.e ≡ 0 = omega arith in
    (c.requires.0, subst (λ (x : ℕ). Vacant (pages c.args.img.now) (vol c.args.img.now) x (entry_page c.args.e % 512)) (sym c.object_index-block.ensures.0) (index-vacant (pages c.args.img.now) (vol c.args.img.now) c.requires.0.sound c.args.e c.requires.2 c.requires.3 z), omega (arith, z))

pub returns-then-object_page-eq0 : goal.returns-then-object_page-eq0
returns-then-object_page-eq0 c = let z : object_page (vol c.args.img.now) c.args.e ≡ 0 = omega arith in object-new (pages c.args.img.now) (vol c.args.img.now) c.args.e z c.object_index-block.result (entry_page c.args.e % 512) c.object_index-block.ensures.0 refl _ c.extend.ensures
