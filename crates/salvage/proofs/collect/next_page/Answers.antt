use native.Mathlib.Omega.{arith}
use Rattle.salvage.proofs.Collecting.{users-reach, bits_below, nearest, next-is}
use Rattle.salvage.proofs.collect.next_page.Goals as goal

pub bit_pages-requires : goal.bit_pages-requires
bit_pages-requires c = omega (arith, c.requires.0.good.whole.most, c.requires.1)

pub next_among-r-requires : goal.next_among-r-requires
next_among-r-requires c = omega (arith, c.requires.1, c.requires.3, c.bit_pages.ensures, (bits_below _ c.requires.0 c.args.b c.requires.2).1)

pub loop-i-init : goal.loop-i-init
loop-i-init c = (c.next_among-r.ensures.0, c.next_among-r.ensures.1, (λ x a b l. c.next_among-r.ensures.2 x a b (omega (arith, l, c.bit_pages.ensures, c.requires.1))), λ j h. absurd (let r : ⊥ = omega (arith, h) in r))

pub user_page-requires : goal.user_page-requires
user_page-requires c = users-reach _ c.requires.0

pub nearer-r-requires : goal.nearer-r-requires
nearer-r-requires c = c.loop-i.invariant.0

pub loop-i-preserved : goal.loop-i-preserved
loop-i-preserved c = (
  c.nearer-r.ensures.0,
  omega (arith, c.nearer-r.ensures.1, c.loop-i.invariant.1),
  (λ x a b h. omega (arith, c.nearer-r.ensures.1, c.loop-i.invariant.2 x a b h)),
  nearest _ c.args.p c.loop-i.i c.user_page.result c.user_page.ensures.0 c.loop-i.r c.nearer-r.result c.loop-i.invariant.3 c.nearer-r.ensures.1 c.nearer-r.ensures.2,
)

pub returns : goal.returns
returns c = next-is _ c.requires.0 c.args.b c.requires.2 c.args.p c.loop-i.r c.loop-i.invariant.0 (omega (arith, c.loop-i.invariant.1, c.requires.1)) c.loop-i.invariant.2 (λ j h. c.loop-i.invariant.3 j (omega (arith, h)))
