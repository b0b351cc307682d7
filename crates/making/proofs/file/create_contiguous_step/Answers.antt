-- `making::file::create_contiguous_step` meets its contract. Assumes nothing.
use Rattle.book.specs.Image.{pages}
use Rattle.book.specs.Words.{vol}
use Rattle.making.proofs.Made.{entry-reached, entry-room, file-ready, used-room, run_inside, create-contiguous-is}
use Rattle.making.proofs.Ready.{bits-pages}
use Rattle.tree.proofs.Ready.{ready-users, ready-objects}
use native.Mathlib.Omega.{arith}
use Rattle.making.proofs.file.create_contiguous_step.Goals as goal

pub file_place-requires : goal.file_place-requires
file_place-requires c = (c.requires.0, c.entry_number-e.ensures.1, entry-reached c.requires.0 c.requires.1 c.requires.4 c.requires.2 c.entry_number-e.ensures.0, entry-room c.requires.0 c.requires.1 c.requires.4 c.requires.2 c.entry_number-e.ensures.0 c.requires.5)

pub bit_page-b-requires : goal.bit_page-b-requires
bit_page-b-requires c = file-ready c.requires.0 c.requires.1 c.requires.4 c.requires.2 c.entry_number-e.ensures.0 c.requires.5 _ c.file_place.ensures (omega arith)

pub object_page-q-requires : goal.object_page-q-requires
object_page-q-requires c = ready-objects _ (file-ready c.requires.0 c.requires.1 c.requires.4 c.requires.2 c.entry_number-e.ensures.0 c.requires.5 _ c.file_place.ensures (omega arith))

pub user_page-o-requires : goal.user_page-o-requires
user_page-o-requires c = ready-users _ (file-ready c.requires.0 c.requires.1 c.requires.4 c.requires.2 c.entry_number-e.ensures.0 c.requires.5 _ c.file_place.ensures (omega arith))

pub used_pages-used-requires : goal.used_pages-used-requires
used_pages-used-requires c = file-ready c.requires.0 c.requires.1 c.requires.4 c.requires.2 c.entry_number-e.ensures.0 c.requires.5 _ c.file_place.ensures (omega arith)

pub claim_run-requires : goal.claim_run-requires
claim_run-requires c = let R = run_inside (pages c.args.img.now) _ c.args.n c.args.s c.requires.8 c.requires.9 in (omega (arith, R), omega (arith, R), c.requires.9)

pub overflow_cast-s : goal.overflow_cast-s
overflow_cast-s c = let R = run_inside (pages c.args.img.now) _ c.args.n c.args.s c.requires.8 c.requires.9 in omega (arith, R)

pub overflow_add-used : goal.overflow_add-used
overflow_add-used c = record { fits = omega (arith, used-room c.requires.0 c.requires.1 c.requires.4 c.requires.2 c.entry_number-e.ensures.0 c.requires.5 c.args.n c.requires.7 _ c.file_place.ensures) }

pub returns : goal.returns
returns c =
    create-contiguous-is (pages c.args.img.now) (vol c.args.img.now) c.args.u c.args.f c.entry_number-e.result c.args.name.now c.args.kind.now c.args.created c.requires.3 c.entry_number-e.ensures.0 c.args.n c.args.s c.requires.8 _ _ _ _
    c.object_page-q.result c.user_page-o.result c.of-k.result.word c.used_pages-used.result c.file_place.ensures c.object_page-q.ensures.0 c.user_page-o.ensures.0 c.of-k.ensures.1 c.used_pages-used.ensures.0
    (c.claim_run.ensures (pages c.args.img.now) (bits-pages (pages c.args.img.now) _ _ _ c.bit_page-b.ensures (omega arith)) (run_inside (pages c.args.img.now) _ c.args.n c.args.s c.requires.8 c.requires.9)) c.object_entry.ensures c.put_two.ensures
