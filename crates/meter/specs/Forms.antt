-- A kind, and an answer of the reader, as 01 has them.
use Rattle.std.specs.Prelude.{ℕ, ◌≡◌, cond, List, MatchResult}
use Rattle.std.proofs.Math.Option.{Option, some, none}
use Rattle.std.specs.declared.option.Option.{Option as Perhaps}
use Rattle.std.specs.declared.option.Option.TheVariants.{Some, None}
use Rattle.std.specs.declared.result.Result.{Result}
use Rattle.std.specs.declared.result.Result.TheVariants.{Ok, Err}
use Rattle.rules.specs.Refusals.{Refused, refused_as}
use Rattle.rules.specs.declared.Refusal.{Refusal}
use Rattle.file_rules.specs.MeterFile.{form, kind_at, is_record}
use Rattle.verdicts.specs.Outcome.{Outcome, outcome_as}
use Rattle.meter.specs.declared.Kind.{Kind}
use Rattle.meter.specs.declared.Kind.TheVariants.{Partition, Task, Word, Release}
use Rattle.meter.specs.declared.NoKind.{NoKind}
use Rattle.meter.specs.declared.Record.{Record}

-- the number that a kind has in a file
abbrev pub number_of : Kind → ℕ
number_of Partition = 1
number_of Task = 2
number_of Word = 3
number_of Release = 4

-- the kind that has a number; a number that no kind has has no place in the order
abbrev pub KindIs : ℕ → Result Kind NoKind → Type 0
KindIs number r = MatchResult r (λ kind. number_of kind ≡ number) (λ e. (form number).place ≡ 0)

-- the kind of the record at an offset, if there is a record
abbrev pub kind_as : Perhaps Kind → Option ℕ
kind_as (Some kind) = some (number_of kind)
kind_as None = none

abbrev pub RecordKindIs : List ℕ → ℕ → List ℕ → ℕ → Perhaps Kind → Type 0
RecordKindIs kinds before file at r = kind_as r ≡ cond (is_record kinds before file at) (some (kind_at file at)) none

-- "each record read is either a record with the next offset or a refusal"
pub record Found : Type 0 where
  pub kind : ℕ
  pub next : ℕ

abbrev pub found_as : Record → Found
found_as r = record { kind = number_of r.kind; next = r.next }

abbrev pub read_as : Result Record Refusal → Outcome Found
read_as = outcome_as found_as

-- why there is no record; where there is one, that there is none at its end
abbrev pub why_not : Result ℕ Refusal → Refused
why_not (Ok next) = record { number = 8; second = next }
why_not (Err r) = refused_as r
