use borrow.Author.Rules.{rules}
use Rattle.ranges.proofs.Steps.{too_low, high_enough}
use Rattle.ranges.proofs.lies_within.Goals as goal

pub returns-then-x-low : goal.returns-then-x-low
returns-then-x-low c = search (rules, too_low)

pub returns : goal.returns
returns c = search (rules, high_enough)
