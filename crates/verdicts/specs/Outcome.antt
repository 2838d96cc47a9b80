-- What a call says: its answer, or why it was refused.
use Rattle.std.proofs.Math.Option.{Option, some, none}
use Rattle.std.specs.declared.result.Result.{Result}
use Rattle.std.specs.declared.result.Result.TheVariants.{Ok, Err}
use Rattle.rules.specs.Refusals.{Refused, refused_as}
use Rattle.rules.specs.declared.Refusal.{Refusal}

pub data Outcome (A : Type 0) : Type 0 where
  refused : Refused → Outcome A
  gives : A → Outcome A

-- the answer, unless there is a refusal
unfoldable pub unless_refused : {A : Type 0} → Option Refused → A → Outcome A
unless_refused none x = gives x
unless_refused (some r) x = refused r

-- a Result of the code, whose answer the definitions have as `f` says
abbrev pub outcome_as : {A B : Type 0} → (A → B) → Result A Refusal → Outcome B
outcome_as f (Ok x) = gives (f x)
outcome_as f (Err r) = refused (refused_as r)
