use Rattle.std.proofs.Common.{rules}
use Rattle.busy.proofs.Ends.{ends}
use Rattle.busy.proofs.passes.Goals as goal

pub returns : goal.returns
returns c = search (rules, ends)
