-- `convert::all::page_of` meets its contract. Assumes nothing.
use mathlib.Core.Path.{◌≡◌, sym, subst}
use mathlib.Core.Bool.{Bool, true, false}
use Prim.Native.Nat.{ℕ, ◌/◌}
use Rattle.book.specs.Words.{Vol, vol}
use Rattle.book.specs.Trees.{page_at}
use Rattle.book.specs.Entries.{user_page, object_page}
use Rattle.tree.proofs.Ready.{ready-users, ready-objects}
use Rattle.convert.specs.Kinds.{file_of}
use Rattle.convert.proofs.all.page_of.Goals as goal

of-object : (typed : Bool) (v : Vol) (n r : ℕ) → typed ≡ true → r ≡ object_page v n → r ≡ page_at v (file_of typed v) (n / 32)
unfolding object_page
of-object typed v n r e h = subst (λ (b : Bool). r ≡ page_at v (file_of b v) (n / 32)) (sym e) h

of-user : (typed : Bool) (v : Vol) (n r : ℕ) → typed ≡ false → r ≡ user_page v n → r ≡ page_at v (file_of typed v) (n / 32)
unfolding user_page
of-user typed v n r e h = subst (λ (b : Bool). r ≡ page_at v (file_of b v) (n / 32)) (sym e) h

pub object_page-requires : goal.object_page-requires
object_page-requires c = ready-objects _ c.requires

pub returns-then-typed : goal.returns-then-typed
returns-then-typed c = (of-object c.args.typed (vol c.args.img.now) c.args.n c.object_page.result c.if-typed.true c.object_page.ensures.0, c.object_page.ensures.1)

pub user_page-requires : goal.user_page-requires
user_page-requires c = ready-users _ c.requires

pub returns-else-typed : goal.returns-else-typed
returns-else-typed c = (of-user c.args.typed (vol c.args.img.now) c.args.n c.user_page.result c.if-typed.false c.user_page.ensures.0, c.user_page.ensures.1)
