use Rattle.book.specs.Trees.{weigh_r}
use Rattle.book.specs.Bits.{bit_file}
use Rattle.book.specs.Entries.{user_file, object_file}
use Prim.Native.Nat.{◌+◌}
use Rattle.book.specs.Image.{pages}
use Rattle.book.specs.Words.{vol}
use Rattle.std.specs.Prelude.{None}
use Rattle.walk.proofs.Walks.{walked_then, then-met, walking_on}
use Rattle.walk.proofs.Holding.{bits-counts, walked-system}
use Rattle.walk.proofs.volume.mark_system.Goals as goal

pub mark_entry_files-requires : goal.mark_entry_files-requires
mark_entry_files-requires c = let v = vol c.args.img.now in let P = pages c.args.img.now in
    (walking_on c.args.img.now c.args.marks.now c.args.visited _ _ _ c.requires.0 (bits-counts c.args.img.now c.requires.1) c.in_ok-n.ensures, c.requires.1, c.requires.3)

pub returns : goal.returns
returns c = let v = vol c.args.img.now in let P = pages c.args.img.now in
    walked-system P v c.args.marks.now c.args.visited c.mark_entry_files.new.marks c.mark_entry_files.result
    (walked_then P c.args.marks.now c.args.visited (weigh_r v (bit_file P v)) c.mark_bits.new.marks _ c.in_ok-n.ensures (λ g. weigh_r v (user_file v) g + weigh_r v (object_file v) g) c.mark_entry_files.new.marks c.mark_entry_files.result c.mark_entry_files.ensures)

pub returns-in_err-n : goal.returns-in_err-n
returns-in_err-n c = let v = vol c.args.img.now in let P = pages c.args.img.now in
    rw c.from_residual.ensures (
    walked-system P v c.args.marks.now c.args.visited c.mark_bits.new.marks None
    (then-met P c.args.marks.now c.args.visited (weigh_r v (bit_file P v)) (λ g. weigh_r v (user_file v) g + weigh_r v (object_file v) g) c.mark_bits.new.marks c.mark_bits.new.marks c.in_err-n.ensures)
    )
