-- 01, "Run".
use Rattle.std.specs.Prelude.{ℕ, List, [], ◌∷◌}
use Rattle.rules.specs.declared.Pairs.{Pairs}
use Rattle.rules.specs.Pick.{decision}
use Rattle.rules.specs.Tick.{tick}

-- what a run gives: a pick for each word, and the state after the last
pub record Ran : Type 0 where
  pub picks : List ℕ
  pub after : Pairs

-- "One decision and tick for each lent word"; "No words: no ticks, and the state comes back."
unfoldable pub run : ℕ → List ℕ → List ℕ → Pairs → List ℕ → Ran
run n T B s [] = record { picks = []; after = s }
run n T B s (word ∷ words) =
    let pick : ℕ = decision n T B s.b s.o word in
    let rest : Ran = run n T B (tick n T B s.b s.o pick) words in
    record { picks = pick ∷ rest.picks; after = rest.after }
