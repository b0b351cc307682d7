-- `listing::order::put_page` meets its contract. Assumes nothing.
use Prim.Native.Nat.{ℕ, ◌+◌, ◌*◌}
use native.Mathlib.Omega.{arith}
use Rattle.book.specs.Words.{vol}
use Rattle.tree.proofs.Ready.{ready-objects}
use Rattle.book.specs.Listing.{Bytes, file_of}
use Rattle.listing.proofs.Writing.{wrote_none, wrote_as, wrote_then}
use Rattle.listing.proofs.Texts.{joined-zero, joined-one, file-on, page-none}
use Rattle.listing.proofs.order.put_page.Goals as goal

pub object_page-q-requires : goal.object_page-q-requires
object_page-q-requires c = ready-objects _ c.requires.0

pub returns-then-q-eq0 : goal.returns-then-q-eq0
returns-then-q-eq0 c = (wrote_as (page-none (vol c.args.img.now) c.args.u c.args.i _ c.object_page-q.ensures.0 c.if-q-eq0.true) (wrote_none _ _), omega arith)

pub loop-k-init : goal.loop-k-init
loop-k-init c = (omega arith, wrote_as (joined-zero _) (wrote_none _ _))

pub loop-k-preserved : goal.loop-k-preserved
loop-k-preserved c =
    let g : ℕ → Bytes = λ j. file_of (vol c.args.img.now) c.args.u (32 * c.args.i + j) in
    let s = wrote_as (file-on (vol c.args.img.now) c.args.u c.args.i _ c.object_page-q.ensures.0 c.loop-k.k c.loop-k-test.true) c.put_file-z.ensures.0 in
    (omega arith, wrote_as (joined-one g c.loop-k.k) (wrote_then c.loop-k.invariant.1 s))
