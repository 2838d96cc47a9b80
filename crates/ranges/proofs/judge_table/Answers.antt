use Prim.Native.Nat.{zero-le}
use native.Mathlib.Omega.{arith}
use Rattle.laws.proofs.Places.{pass_begins, pass_next, fails_here, none_fails}
use Rattle.ranges.proofs.Steps.{none_there, too_many_lem, bad_table_lem, good-table}
use Rattle.ranges.proofs.judge_table.Goals as goal

pub returns-then-t-eq0 : goal.returns-then-t-eq0
returns-then-t-eq0 c = none_there _ c.if-t-eq0.true

pub returns-then-t-gt16 : goal.returns-then-t-gt16
returns-then-t-gt16 c = too_many_lem _ c.if-t-eq0.false c.if-t-gt16.true

pub loop-i-init : goal.loop-i-init
loop-i-init c = (zero-le, pass_begins _)

pub returns-then-not-partition_in_range : goal.returns-then-not-partition_in_range
returns-then-not-partition_in_range c = bad_table_lem _ c.if-t-eq0.false c.if-t-gt16.false _ (fails_here _ _ c.loop-i.invariant.1 _ _ c.loop-i-test.true c.partition_in_range.ensures c.if-not-partition_in_range.true)

pub loop-i-preserved : goal.loop-i-preserved
loop-i-preserved c = (omega arith, pass_next _ _ c.loop-i.invariant.1 _ c.partition_in_range.ensures c.if-not-partition_in_range.false)

pub returns : goal.returns
returns c = good-table _ c.if-t-eq0.false c.if-t-gt16.false (none_fails _ _ c.loop-i.invariant.1 _ c.loop-i-test.false c.loop-i.invariant.0)
