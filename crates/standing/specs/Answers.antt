-- The answers of this crate's functions, as 01 has them.
use Rattle.std.specs.Prelude.{ℕ}
use Rattle.std.proofs.Math.Option.{Option}
use Rattle.std.specs.declared.option.Option.{Option as Found}
use Rattle.std.specs.declared.result.Result.{Result}
use Rattle.basis.specs.Options.{option_as}
use Rattle.rules.specs.declared.Refusal.{Refusal}
use Rattle.verdicts.specs.Outcome.{Outcome, outcome_as}

-- a test of all partitions: none fails, or the first that does; or refused
abbrev pub test_as : Result (Found ℕ) Refusal → Outcome (Option ℕ)
test_as = outcome_as option_as

-- a length: so many ticks, or none within the deadline; or refused
abbrev pub length_as : Result (Found ℕ) Refusal → Outcome (Option ℕ)
length_as = outcome_as option_as
