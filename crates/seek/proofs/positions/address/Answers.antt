-- `seek::positions::address` meets its contract. Assumes nothing.
use mathlib.Core.Path.{◌≡◌, ap, ◌∙◌}
use Prim.Native.Nat.{ℕ}
use Rattle.book.specs.Words.{vol}
use Rattle.book.specs.Trees.{page_at}
use Rattle.book.specs.Entries.{file_entry}
use Rattle.book.specs.Files.{file_at}
use Rattle.book.specs.Image.{pages}
use Rattle.laws.specs.File.Kinds.{position-page}
use Rattle.tree.proofs.Ready.{ready-objects, ready-file}
use native.Mathlib.Omega.{arith}
use Rattle.seek.proofs.positions.address.Goals as goal

pub file_page-requires : goal.file_page-requires
file_page-requires c = (ready-objects _ c.requires.0, ready-file _ c.requires.0 c.entry_number.result c.entry_number.ensures.1)

pub returns : goal.returns
returns c = let v = vol c.args.img.now in
    let e : c.file_page.result ≡ page_at v (file_at v (file_entry c.args.u c.args.f)) c.args.n = c.file_page.ensures.0 ∙ ap (λ (x : ℕ). page_at v (file_at v x) c.args.n) c.entry_number.ensures.0 in
    (e, c.file_page.ensures.1, λ h. omega (arith, e, position-page (pages c.args.img.now) v c.requires.0.sound (file_entry c.args.u c.args.f) c.args.n (omega arith) h.1 h.2))
