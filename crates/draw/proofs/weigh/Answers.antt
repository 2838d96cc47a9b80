use Rattle.std.proofs.Common.{rules}
use Rattle.draw.proofs.Weighing.{weighing_on, weighing_ends}
use Rattle.draw.proofs.weigh.Goals as goal

pub loop-i-preserved : goal.loop-i-preserved
loop-i-preserved c = search (rules, weighing_on)

pub returns : goal.returns
returns c = search (rules, weighing_ends)
