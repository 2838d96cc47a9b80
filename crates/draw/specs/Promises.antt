-- What each public function of this crate says, and promises of its answer r.
use Rattle.std.specs.Prelude.{ℕ, ◌≡◌, cond, List, [], ◌∷◌, leb, length}
use Rattle.std.proofs.Math.Option.{Option, some, none}
use Rattle.std.specs.declared.result.Result.{Result}
use Rattle.std.specs.declared.result.Result.TheVariants.{Ok, Err}
use Rattle.rules.specs.Records.{table_bad, pairs_bad}
use Rattle.basis.specs.Words.{◌!◌, padded}
use Rattle.rules.specs.Numbers.{most_partitions}
use Rattle.rules.specs.Candidates.{candidates, inversion, idle}
use Rattle.rules.specs.Weights.{weights}
use Rattle.rules.specs.Pick.{decision}
use Rattle.rules.specs.Refusals.{Refused, refused_as, no_word, refusal}
use Rattle.rules.specs.declared.Pairs.{Pairs}
use Rattle.rules.specs.declared.Refusal.{Refusal}
use Rattle.rules.specs.declared.Table.{Table}
use Rattle.verdicts.specs.Outcome.{Outcome, outcome_as, unless_refused}
use Rattle.busy.specs.Promises.{places}
use Rattle.draw.specs.declared.Weighed.{Weighed}

-- the decision; idle for more than sixteen
abbrev pub ChooseIs : Table → Pairs → ℕ → ℕ → Type 0
ChooseIs t p word r = r ≡ cond (leb t.count most_partitions) (decision t.count t.period t.budget p.b p.o word) idle

-- a list and its weights as an answer: in their places with their length, or refused and all 0
pub record Weighing : Type 0 where
  pub list : List ℕ
  pub weights : List ℕ
  pub length : ℕ
  pub refused : Option Refused

abbrev pub weighed_as : Result Weighed Refusal → Weighing
weighed_as (Ok r) = record { list = r.list; weights = r.weights; length = r.length; refused = none }
weighed_as (Err r) = record { list = padded places []; weights = padded places []; length = 0; refused = some (refused_as r) }

unfoldable pub weighing : Option Refused → List ℕ → List ℕ → Weighing
weighing none cs xs = record { list = padded places cs; weights = padded places xs; length = length cs; refused = none }
weighing (some r) cs xs = record { list = padded places []; weights = padded places []; length = 0; refused = some r }

-- the weights beside the candidates: refusals 1 and 3
abbrev pub weights_say : Table → Pairs → Weighing
weights_say t p =
    weighing (refusal (table_bad t ∷ pairs_bad t p.b p.o ∷ []))
    (candidates t.count t.period t.budget p.b p.o inversion) (weights t.count t.period t.budget p.b p.o inversion)

abbrev pub WeightsAre : Table → Pairs → Result Weighed Refusal → Type 0
WeightsAre t p r = weighed_as r ≡ weights_say t p

-- a decision: the pick as a number; or refused
abbrev pub decision_as : Result ℕ Refusal → Outcome ℕ
decision_as = outcome_as (λ pick. pick)

-- one decision, by the first of the words: refusals 1, 3 and 4
abbrev pub decide_says : Table → Pairs → List ℕ → Outcome ℕ
decide_says t p words =
    unless_refused (refusal (table_bad t ∷ pairs_bad t p.b p.o ∷ no_word words ∷ []))
    (decision t.count t.period t.budget p.b p.o (words ! 0))

abbrev pub DecideIs : Table → Pairs → List ℕ → Result ℕ Refusal → Type 0
DecideIs t p words r = decision_as r ≡ decide_says t p words
