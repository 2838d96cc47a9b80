-- A verdict of the code, nothing against it or a refusal, as 01 has it.
use Rattle.std.proofs.Math.Option.{Option, some, none}
use Rattle.rules.specs.Refusals.{Refused, refused_as}
use Rattle.rules.specs.declared.Refusal.{Refusal}
use Rattle.std.specs.declared.result.Result.{Result}
use Rattle.std.specs.declared.result.Result.TheVariants.{Ok, Err}

-- not refused, or refused with 01's number and its second
unfoldable pub verdict_as : Result Unit Refusal → Option Refused
verdict_as (Ok x) = none
verdict_as (Err r) = some (refused_as r)
