use Rattle.std.proofs.Common.{rules}
use Rattle.runs.proofs.Looped.{run_begins, run_goes_on}
use Rattle.runs.proofs.ran.Goals as goal

pub loop-i-init : goal.loop-i-init
loop-i-init c = search (rules, run_begins)

pub loop-i-preserved : goal.loop-i-preserved
loop-i-preserved c = search (rules, run_goes_on)
