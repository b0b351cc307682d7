use Rattle.places.proofs.Filed.{right-0, right-1, right-2, right-wrong}
use native.Mathlib.Omega.{arith}
use Rattle.places.proofs.file.pointer_ok.Goals as goal

pub returns-then-pointer-eq0 : goal.returns-then-pointer-eq0
returns-then-pointer-eq0 c = right-0 c.args.total c.args.pointer.flags c.args.pointer.page c.args.n c.run_ok.result c.if-pointer-eq0.true c.run_ok.ensures

pub returns-then-pointer-eq1 : goal.returns-then-pointer-eq1
returns-then-pointer-eq1 c = right-1 c.args.total c.args.pointer.flags c.args.pointer.page c.args.n c.block_ok.result c.if-pointer-eq1.true c.block_ok.ensures

pub returns-then-pointer-eq2 : goal.returns-then-pointer-eq2
returns-then-pointer-eq2 c = right-2 c.args.total c.args.pointer.flags c.args.pointer.page c.args.n c.block_ok-then-pointer-eq2.result c.if-pointer-eq2.true c.block_ok-then-pointer-eq2.ensures

pub returns : goal.returns
returns c = right-wrong c.args.total c.args.pointer.flags c.args.pointer.page c.args.n (omega arith)
