use Rattle.std.proofs.Common.{rules}
use Rattle.meter.proofs.Records.{no_payload}
use Rattle.meter.proofs.payload.Goals as goal

pub returns-in_default : goal.returns-in_default
returns-in_default c = search (rules, no_payload)
