-- What each public function of this crate promises of its answer r.
use Rattle.std.specs.Prelude.{ℕ, ◌≡◌, List, [], ◌∷◌}
use Rattle.std.specs.declared.result.Result.{Result}
use Rattle.rules.specs.Refusals.{refused_as, malformed, refusal}
use Rattle.file_rules.specs.MeterFile.{kind_at, next_at, malformed_at, payload}
use Rattle.rules.specs.declared.Refusal.{Refusal}
use Rattle.verdicts.specs.Outcome.{unless_refused}
use Rattle.meter.specs.Forms.{read_as, why_not}
use Rattle.meter.specs.declared.Record.{Record}

module _ (kinds : List ℕ) (before : ℕ) (file : List ℕ) (at : ℕ) where
  -- the record at an offset: refusal 8
  abbrev pub ReadRecordIs : Result Record Refusal → Type 0
  ReadRecordIs r = read_as r ≡ unless_refused (refusal (malformed (malformed_at kinds before file at) ∷ [])) (record { kind = kind_at file at; next = next_at file at })

  -- its payload, a part of the file
  abbrev pub PayloadIs : List ℕ → Type 0
  PayloadIs r = r ≡ payload kinds before file at

-- why a record was refused
abbrev pub WhyRefusedIs : Result ℕ Refusal → Refusal → Type 0
WhyRefusedIs answer r = refused_as r ≡ why_not answer
