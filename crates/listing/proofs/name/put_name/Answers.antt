-- `listing::name::put_name` meets its contract. Assumes nothing.
use mathlib.Core.Path.{◌≡◌, sym, ap, subst}
use mathlib.Core.List.{[], ◌∷◌}
use Prim.Native.Nat.{ℕ, ◌+◌, ◌≤◌}
use native.Mathlib.Nat.{add-zero}
use native.Mathlib.Omega.{arith}
use Rattle.book.specs.Words.{Words, vol}
use Rattle.book.specs.Names.{bytes, end_of}
use Rattle.laws.specs.File.Stored.{end_is, bytes-none, bytes-more, stored-to}
use Rattle.listing.specs.Wrote.{Wrote}
use Rattle.listing.proofs.Writing.{wrote_none, wrote_as, wrote_then, wrote-byte}
use Rattle.listing.proofs.name.put_name.Goals as goal

-- the name ends within its field
within : (n : ℕ) (w : Words) (k l : ℕ) → l ≡ end_of n w k → l ≤ n
within n w k l e = omega (arith, e, (end_is n w k).most)

pub loop-i-init : goal.loop-i-init
loop-i-init c = subst (Wrote (bytes (vol c.args.img.now c.args.p) c.args.k 0) c.args.out.now c.args.at c.args.out.now) (sym (add-zero c.args.at)) (wrote_as (bytes-none (vol c.args.img.now c.args.p) c.args.k) (wrote_none c.args.out.now c.args.at))

pub overflow_add-at : goal.overflow_add-at
overflow_add-at c = omega (arith, within c.args.n (vol c.args.img.now c.args.p) c.args.k c.end_at-l.result c.end_at-l.ensures)

pub byte_at-requires : goal.byte_at-requires
byte_at-requires c = (c.requires.0, omega (arith, within c.args.n (vol c.args.img.now c.args.p) c.args.k c.end_at-l.result c.end_at-l.ensures))

pub loop-i-preserved : goal.loop-i-preserved
loop-i-preserved c =
    let w = vol c.args.img.now c.args.p in
    wrote_as (bytes-more w c.args.k c.loop-i.i) (wrote_then c.loop-i.invariant (wrote_as (ap (λ (x : ℕ). x ∷ []) c.byte_at.ensures) (wrote-byte c.put.ensures (omega arith))))

pub overflow_add-result : goal.overflow_add-result
overflow_add-result c = omega (arith, within c.args.n (vol c.args.img.now c.args.p) c.args.k c.end_at-l.result c.end_at-l.ensures)

pub returns : goal.returns
returns c = let w = vol c.args.img.now c.args.p in
    let e : c.loop-i.i ≡ c.end_at-l.result = omega arith in
    let t = subst (λ (i : ℕ). Wrote (bytes w c.args.k i) c.args.out.now c.args.at c.loop-i.out (c.args.at + i)) e c.loop-i.invariant in
    (wrote_as (sym (stored-to c.args.n w c.args.k c.end_at-l.result (sym c.end_at-l.ensures))) t, omega (arith, within c.args.n w c.args.k c.end_at-l.result c.end_at-l.ensures))
