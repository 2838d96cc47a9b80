-- What each function of the hook promises. The state that it is lent is `before` when it is called and `after` when it returns. Its answer r and the state are the core's, over the table of the records.
use Rattle.std.specs.Prelude.{ℕ, ◌≡◌, List}
use Rattle.std.specs.declared.result.Result.{Result}
use Rattle.rules.specs.declared.Part.{Part}
use Rattle.rules.specs.declared.Refusal.{Refusal}
use Rattle.rules.specs.declared.Table.{Table}
use Rattle.scheduler.specs.declared.State.{State}
use Rattle.numbers.specs.Promises.{TurnIs, TurnForIs, ReleasedIs, ChangeNumbersAre}
use Rattle.numbers.specs.declared.Picked.{Picked}
use Rattle.numbers.specs.declared.RefusalNumbers.{RefusalNumbers}
use Rattle.nandoquip.specs.Records.{table_of}

module _ (parts : List Part) where
  abbrev pub TableOfIs : Table → Type 0
  TableOfIs r = r ≡ table_of parts

  -- one decision by the word, and its tick
  abbrev pub HookTickIs : State → ℕ → Picked → State → Type 0
  HookTickIs before word r after = TurnIs (table_of parts) before word (record { picked = r; state = after })

  -- the tick for a given pick
  abbrev pub HookTickForIs : State → ℕ → RefusalNumbers → State → Type 0
  HookTickForIs before pick r after = TurnForIs (table_of parts) before pick (record { refusal = r; state = after })

  abbrev pub HookReleaseIs : State → ℕ → RefusalNumbers → State → Type 0
  HookReleaseIs before index r after = ReleasedIs (table_of parts) before index (record { refusal = r; state = after })

-- inside: what a call made is stored, and its refusal told
abbrev pub StoredIs : State → Result State Refusal → RefusalNumbers → State → Type 0
StoredIs before changed r after = ChangeNumbersAre before changed (record { refusal = r; state = after })
