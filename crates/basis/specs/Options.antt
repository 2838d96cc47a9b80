-- An Option of the code, as the definitions have it.
use Rattle.std.proofs.Math.Option.{Option, some, none}
use Rattle.std.specs.declared.option.Option.{Option as Found}
use Rattle.std.specs.declared.option.Option.TheVariants.{Some, None}

abbrev pub option_as : {A : Type 0} → Found A → Option A
option_as (Some x) = some x
option_as None = none
