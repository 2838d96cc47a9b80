-- What each public function of this crate says, and promises of its answer r: the rule, or 01's refusal.
use Rattle.std.specs.Prelude.{ℕ, ◌≡◌, List, [], ◌∷◌}
use Rattle.std.proofs.Math.Option.{Option}
use Rattle.std.specs.declared.option.Option.{Option as Found}
use Rattle.std.specs.declared.result.Result.{Result}
use Rattle.rules.specs.Records.{table_or_index_bad, table_bad, pairs_bad}
use Rattle.rules.specs.Admission.{response_within, first_unadmitted}
use Rattle.rules.specs.BusyLength.{busy_length}
use Rattle.rules.specs.StandingTest.{first_failing}
use Rattle.rules.specs.Refusals.{refusal}
use Rattle.rules.specs.declared.Pairs.{Pairs}
use Rattle.rules.specs.declared.Refusal.{Refusal}
use Rattle.rules.specs.declared.Table.{Table}
use Rattle.verdicts.specs.Outcome.{Outcome, unless_refused}
use Rattle.standing.specs.Answers.{test_as, length_as}

-- admission of a table: refusal 1
abbrev pub admission_says : Table → Outcome (Option ℕ)
admission_says t =
    unless_refused (refusal (table_bad t ∷ []))
    (first_unadmitted t.count t.period t.budget)

abbrev pub AdmissionIs : Table → Result (Found ℕ) Refusal → Type 0
AdmissionIs t r = test_as r ≡ admission_says t

-- R of partition h, where it is at most T_h: refusal 1, also for an h that isn't there
abbrev pub response_says : Table → ℕ → Outcome (Option ℕ)
response_says t h =
    unless_refused (refusal (table_or_index_bad t h ∷ []))
    (response_within t.period t.budget h)

abbrev pub ResponseIs : Table → ℕ → Result (Found ℕ) Refusal → Type 0
ResponseIs t h r = length_as r ≡ response_says t h

-- the busy test of partition h with inversion w: refusals 1, also for an h that isn't there, and 3
abbrev pub busy_test_says : Table → List ℕ → List ℕ → ℕ → ℕ → Outcome (Option ℕ)
busy_test_says t b o h w =
    unless_refused (refusal (table_or_index_bad t h ∷ pairs_bad t b o ∷ []))
    (busy_length t.period t.budget b o h w)

abbrev pub BusyTestIs : Table → Pairs → ℕ → ℕ → Result (Found ℕ) Refusal → Type 0
BusyTestIs t p h w r = length_as r ≡ busy_test_says t p.b p.o h w

-- the standing test: refusals 1 and 3
abbrev pub standing_says : Table → List ℕ → List ℕ → Outcome (Option ℕ)
standing_says t b o =
    unless_refused (refusal (table_bad t ∷ pairs_bad t b o ∷ []))
    (first_failing t.count t.period t.budget b o)

abbrev pub StandingIs : Table → Pairs → Result (Found ℕ) Refusal → Type 0
StandingIs t p r = test_as r ≡ standing_says t p.b p.o
