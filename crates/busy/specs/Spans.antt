-- Where the code's repetition ends, as 01 has it.
use Rattle.std.specs.Prelude.{ℕ}
use Rattle.std.proofs.Math.Option.{Option}
use Rattle.std.specs.declared.option.Option.{Option as Found}
use Rattle.basis.specs.Options.{option_as}

-- so many ticks, or none within the deadline
abbrev pub span_as : Found ℕ → Option ℕ
span_as = option_as
