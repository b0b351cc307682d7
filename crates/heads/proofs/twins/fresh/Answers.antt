use Prim.Native.Nat.{ℕ, ◌/◌, ◌<◌}
use mathlib.Core.List.{List}
use native.Mathlib.Omega.{arith}
use Rattle.std.proofs.Common.{rules}
use Rattle.book.specs.Words.{vol}
use Rattle.book.specs.Image.{pages}
use Rattle.book.specs.Trees.{Root, root_by}
use Rattle.book.specs.Entries.{entry}
use Rattle.heads.specs.Twins.{Twins, On}
use Rattle.tree.proofs.Reach.{reach_page}
use Rattle.heads.proofs.Each.{decides-not, span-all}
use Rattle.heads.proofs.twins.fresh.Goals as goal

-- the page of y is one of the image's
here : (img : List ℕ) (r : Root) (q y : ℕ) → On img r q y → q < pages img
here img r q y o = omega (arith, o.at, reach_page img r o.reach (y / 32))

pub entry_end-l-requires : goal.entry_end-l-requires
entry_end-l-requires c = (c.requires.0.there, here _ _ _ _ c.requires.0, omega arith, omega arith)

pub entry_end-m-requires : goal.entry_end-m-requires
entry_end-m-requires c = (c.requires.0.there, here _ _ _ _ c.requires.0, c.requires.2.even, omega (arith, c.requires.2.most))

pub returns : goal.returns
returns c = span-all (λ x. Twins (entry (vol c.args.img.now) (root_by c.args.pointer.flags c.args.pointer.page 0)) c.args.n x c.args.y → ⊥) c.args.base c.args.y (omega arith) c.all.result c.all.ensures.ran (λ x t q k. search (rules, decides-not))
