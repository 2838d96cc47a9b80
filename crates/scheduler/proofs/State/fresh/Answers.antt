use mathlib.Core.Path.{◌∙◌, ap}
use Rattle.std.specs.declared.result.Result.TheVariants.{Ok}
use Rattle.scheduler.proofs.Calls.{fresh_unadmitted}
use Rattle.scheduler.proofs.State.fresh.Goals as goal

pub returns-in-Some : goal.returns-in-Some
returns-in-Some c = fresh_unadmitted _ _ _ c.admission.ensures _ (c.in_ok-h.was ∙ ap Ok c.in-Some.is)
