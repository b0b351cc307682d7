-- `listing::lines::put_user` meets its contract. Assumes nothing.
use mathlib.Core.Path.{ap}
use native.Mathlib.Omega.{arith}
use Rattle.book.specs.Words.{Words, vol}
use Rattle.tree.proofs.Ready.{ready-users}
use Rattle.tree.proofs.Entries.{user-in}
use Rattle.book.specs.Listing.{user_line, field, given_are, used_are}
use Rattle.book.specs.Names.{stored}
use Rattle.listing.proofs.Writing.{wrote_as, wrote_then}
use Rattle.listing.proofs.Texts.{user-there}
use Rattle.listing.proofs.lines.put_user.Goals as goal

pub user_page-q-requires : goal.user_page-q-requires
user_page-q-requires c = ready-users _ c.requires.0

pub put_entry_name-z-requires : goal.put_entry_name-z-requires
put_entry_name-z-requires c = (user-there (vol c.args.img.now) c.args.u _ c.user_page-q.ensures.0 c.requires.1, c.user_page-q.ensures.1, omega arith, omega arith, omega arith)

pub returns : goal.returns
unfolding user_line
returns c =
    let s = ap (λ (w : Words). stored 16 w 1) (user-in (vol c.args.img.now) c.args.u _ c.user_page-q.ensures.0) in
    let n = wrote_then (wrote_then c.put_field-z.ensures.0 c.put_bytes-z.ensures) (wrote_as s c.put_entry_name-z.ensures.0) in
    let g = wrote_then n (wrote_as (ap (field given_are) c.given-had.ensures.0) c.put_field-z-2.ensures.0) in
    let x = wrote_then g (wrote_as (ap (field used_are) c.used_pages-uses.ensures.0) c.put_field-z-3.ensures.0) in
    (wrote_then x c.put_bytes.ensures, omega arith)
