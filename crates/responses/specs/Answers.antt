-- The answer of this crate's function, as 01 has it.
use Rattle.std.specs.Prelude.{ℕ}
use Rattle.std.specs.declared.result.Result.{Result}
use Rattle.rules.specs.declared.Refusal.{Refusal}
use Rattle.verdicts.specs.Outcome.{Outcome, outcome_as}

-- so many ticks, "or 0 for late"; or refused
abbrev pub response_as : Result ℕ Refusal → Outcome ℕ
response_as = outcome_as (λ ticks. ticks)
