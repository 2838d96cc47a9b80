use Rattle.rules.specs.Numbers.{partition_in_range}
use Rattle.laws.proofs.Tests.{both, off_left, off_right, within_low}
use Rattle.ranges.proofs.Steps.{fell, held, fails_at, last_decides}
use Rattle.ranges.proofs.partition_in_range.Goals as goal

pub returns-then-not-lies_within : goal.returns-then-not-lies_within
unfolding partition_in_range
returns-then-not-lies_within c = fails_at _ _ (off_left _ (fell _ _ c.lies_within.ensures c.if-not-lies_within.true))

pub returns-then-not-lies_within-2 : goal.returns-then-not-lies_within-2
unfolding partition_in_range
returns-then-not-lies_within-2 c = fails_at _ _ (off_right (held _ _ c.lies_within.ensures c.if-not-lies_within.false) (fell _ _ c.lies_within-2.ensures c.if-not-lies_within-2.true))

pub overflow_sub-period : goal.overflow_sub-period
overflow_sub-period c = within_low 1 4096 _ (held _ _ c.lies_within.ensures c.if-not-lies_within.false)

pub returns : goal.returns
unfolding partition_in_range
returns c = last_decides _ _ _ (both (held _ _ c.lies_within.ensures c.if-not-lies_within.false) (held _ _ c.lies_within-2.ensures c.if-not-lies_within-2.false)) c.lies_within-3.ensures
