-- A tick for what was decided is not refused.
use mathlib.Core.Path.{refl, ap}
use Rattle.std.specs.Prelude.{is_ok}
use Rattle.basis.specs.Words.{◌!◌, has}
use Rattle.laws.proofs.Refusals.{no_ground}
use Rattle.verdicts.proofs.Outcomes.{was_given}
use Rattle.calls.proofs.Each.{change_not_refused}
use Rattle.calls.proofs.Steps.{decision-ticks}
use Rattle.calls.specs.CodeKeeps.{DecidedTicks}

pub decided_ticks : DecidedTicks
unfolding has
decided_ticks t s words pick r here decides ticks =
    let said = was_given _ _ pick decides in
    let fine = rw (← said.1) at (decision-ticks t s (words ! 0) (no_ground _ said.0 1 refl) here) in
    ap is_ok (change_not_refused s r _ _ _ ticks fine).1
