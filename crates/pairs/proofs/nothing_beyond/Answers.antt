use native.Mathlib.Nat.{le_refl}
use native.Mathlib.Omega.{arith}
use Rattle.pairs.proofs.Parts.{beyond_begins, nothing_on, nothing_there}
use Rattle.pairs.proofs.nothing_beyond.Goals as goal

pub loop-j-init : goal.loop-j-init
loop-j-init c = (le_refl _, c.requires, omega arith, λ e. beyond_begins _ c.args.p.now.b c.args.p.now.o)

pub loop-j-preserved : goal.loop-j-preserved
loop-j-preserved c = (omega arith, omega arith, let small = c.both-sum.ensures.small in let most = c.loop-j.invariant.2 in omega arith, nothing_on _ c.args.p.now.b c.args.p.now.o _ _ _ c.loop-j.invariant.3 c.loop-j.invariant.0 c.both-sum.ensures)

pub returns : goal.returns
returns c = nothing_there _ c.args.p.now.b c.args.p.now.o _ _ c.loop-j.invariant.3 c.loop-j-test.false c.loop-j.invariant.1
