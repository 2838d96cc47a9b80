use Prim.Native.Nat.{◌<◌}
use native.Mathlib.Omega.{arith}
use Rattle.std.proofs.Common.{rules}
use Rattle.responses.proofs.Repetition.{going_begins, going_still, going_nearer, going_on, going_late}
use Rattle.responses.proofs.settled.Goals as goal

pub loop-r-init : goal.loop-r-init
loop-r-init c = let small : c.args.x.cost < 65536 = search rules in going_begins _ _ _ _ _ _ _ _ _ c.from-own.ensures (omega arith)

pub returns-then-next-r : goal.returns-then-next-r
returns-then-next-r c = search (rules, going_still)

pub loop-r-smaller : goal.loop-r-smaller
loop-r-smaller c = going_nearer _ _ _ _ _ _ _ _ _ _ _ c.from-away.ensures c.from-limit.ensures c.from-own.ensures _ c.loop-r.invariant _ _ c.asked_above-above.ensures c.served-next.ensures c.loop-r-test.true c.if-next-r.false

pub loop-r-preserved : goal.loop-r-preserved
loop-r-preserved c = search (rules, going_on)

pub returns : goal.returns
returns c = search (rules, going_late)
