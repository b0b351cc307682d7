-- `who::kinds::user_index_from` meets its contract. Assumes nothing.
use mathlib.Core.Path.{ap, sym, ◌∙◌}
use Prim.Native.Nat.{ℕ}
use native.Mathlib.Omega.{arith}
use Rattle.book.specs.Words.{vol}
use Rattle.book.specs.Trees.{index_at}
use Rattle.book.specs.Entries.{user_file}
use Rattle.who.specs.Turns.{positions, class_page}
use Rattle.who.proofs.Leasts.{upto-at, upto-end}
use Rattle.who.proofs.Filing.{reach-users, short-users}
use Rattle.who.proofs.kinds.user_index_from.Goals as goal

pub returns-then-n-gt0 : goal.returns-then-n-gt0
returns-then-n-gt0 c = let v = vol c.args.img.now in
    (upto-end (λ (i : ℕ). index_at v (user_file v) 0) 1 c.args.p c.args.n positions c.requires.0.page (λ i h l e. omega arith), c.requires.0)

pub master_from-requires : goal.master_from-requires
master_from-requires c = (c.requires.0, omega arith, omega arith, reach-users _ c.requires.1, short-users _ c.requires.1, omega arith)

pub returns-in_err-k : goal.returns-in_err-k
unfolding class_page user_file
returns-in_err-k c = let v = vol c.args.img.now in
    rw c.from_residual.ensures (upto-end (λ (i : ℕ). index_at v (user_file v) 0) 1 c.args.p c.args.n positions c.requires.0.page (λ i h l e. c.in_err-k.ensures.0 0 (omega arith) (omega arith) e), c.in_err-k.ensures.1)

pub returns-then-k-eq0 : goal.returns-then-k-eq0
unfolding class_page user_file
returns-then-k-eq0 c = let v = vol c.args.img.now in (
  upto-at (λ (i : ℕ). index_at v (user_file v) 0) 1 c.args.p c.args.n positions c.requires.0.page 0 (omega arith) (record {
    from = omega arith;
    to = omega arith;
    none = λ i h l e. omega arith;
    here = ap (index_at v (user_file v)) (sym c.if-k-eq0.true) ∙ c.in_ok-k.ensures.0.here;
  }),
  c.in_ok-k.ensures.1,
)

pub returns : goal.returns
unfolding class_page user_file
returns c = let v = vol c.args.img.now in
    (upto-end (λ (i : ℕ). index_at v (user_file v) 0) 1 c.args.p c.args.n positions c.requires.0.page (λ i h l e. c.in_ok-k.ensures.0.none 0 (omega arith) (omega (arith, c.if-k-eq0.false)) e), c.in_ok-k.ensures.1)
