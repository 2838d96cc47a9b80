use borrow.Author.Rules.{rules}
use Rattle.busy.proofs.Repetition.{going_still, going_nearer, going_on, going_over}
use Rattle.busy.proofs.settled.Goals as goal

pub returns-then-sum-length : goal.returns-then-sum-length
returns-then-sum-length c = search (rules, going_still)

pub loop-length-smaller : goal.loop-length-smaller
loop-length-smaller c = search (rules, going_nearer)

pub loop-length-preserved : goal.loop-length-preserved
loop-length-preserved c = search (rules, going_on)

pub returns : goal.returns
returns c = search (rules, going_over)
