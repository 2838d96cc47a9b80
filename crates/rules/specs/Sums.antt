-- 01, "Sums done by hand": all that are marked ★, as one table, and the one theorem that the rules give what 01 says.
use Rattle.std.specs.Prelude.{ℕ, refl, List, [], ◌∷◌, map, replicate}
use Rattle.std.proofs.Math.Option.{Option, some, none}
use Rattle.basis.specs.Rows.{Row, ◌is◌, Hold, number, answer}
use Rattle.rules.specs.declared.Pairs.{Pairs}
use Rattle.rules.specs.Admission.{response_within}
use Rattle.rules.specs.FreshStart.{fresh_start}
use Rattle.rules.specs.BusyLength.{busy_start, busy_sum, deadline}
use Rattle.rules.specs.Candidates.{candidates, idle, inversion}
use Rattle.rules.specs.Weights.{weights}
use Rattle.rules.specs.Pick.{position, S, decision}
use Rattle.rules.specs.TaskResponse.{Work, task_response}
use Rattle.rules.specs.Worked.{worked}
use Rattle.rules.specs.Refusals.{Refused, not_admitted, refusal}

-- a refusal as numbers: its own and the second
abbrev pub refused : Option Refused → List ℕ
refused none = []
refused (some r) = r.number ∷ r.second ∷ []

-- the candidates and the weights of a state of n partitions, and those of a fresh start with phases 0
abbrev list_of : ℕ → List ℕ → List ℕ → List ℕ → List ℕ → List ℕ
list_of n T B b o = candidates n T B b o inversion

abbrev weights_of : ℕ → List ℕ → List ℕ → List ℕ → List ℕ → List ℕ
weights_of n T B b o = weights n T B b o inversion

abbrev fresh_list : ℕ → List ℕ → List ℕ → List ℕ
fresh_list n T B = let start : Pairs = fresh_start n T B [] in list_of n T B start.b start.o

abbrev fresh_weights : ℕ → List ℕ → List ℕ → List ℕ
fresh_weights n T B = let start : Pairs = fresh_start n T B [] in weights_of n T B start.b start.o

abbrev pub task : ℕ → ℕ → Work
task p e = record { p = p; e = e }

-- three of 01's tables
abbrev pub T₁ : List ℕ
T₁ = 4 ∷ 6 ∷ []

abbrev pub B₁ : List ℕ
B₁ = 1 ∷ 2 ∷ []

abbrev T₂ : List ℕ
T₂ = 10 ∷ 6 ∷ 60 ∷ []

abbrev B₂ : List ℕ
B₂ = 4 ∷ 2 ∷ 1 ∷ []

abbrev T₃ : List ℕ
T₃ = 10 ∷ 20 ∷ 30 ∷ 50 ∷ []

abbrev B₃ : List ℕ
B₃ = 1 ∷ 10 ∷ 3 ∷ 5 ∷ []

abbrev pub sums : List Row
sums =
    -- "(T, B) = (4,1), (6,2), phases 0: weights at tick 0 are 16384, 21845, idle 27307."
    (fresh_list 2 T₁ B₁ is 0 ∷ 1 ∷ idle ∷ [])
    ∷ (fresh_weights 2 T₁ B₁ is 16384 ∷ 21845 ∷ 27307 ∷ [])
    -- "At tick 3 with b = 1, 1 and o = 1, 3: list is 0 alone."
    ∷ (list_of 2 T₁ B₁ (1 ∷ 1 ∷ []) (1 ∷ 3 ∷ []) is 0 ∷ [])
    -- "At b = 1, 1 and o = 4, 2: weights 16384, 32768, no idle; word 50000 leaves 848, pick 0."
    ∷ (list_of 2 T₁ B₁ (1 ∷ 1 ∷ []) (4 ∷ 2 ∷ []) is 0 ∷ 1 ∷ [])
    ∷ (weights_of 2 T₁ B₁ (1 ∷ 1 ∷ []) (4 ∷ 2 ∷ []) is 16384 ∷ 32768 ∷ [])
    ∷ (number (position 50000 (S 2 T₁ B₁ (1 ∷ 1 ∷ []) (4 ∷ 2 ∷ []))) is 848 ∷ [])
    ∷ (number (decision 2 T₁ B₁ (1 ∷ 1 ∷ []) (4 ∷ 2 ∷ []) 50000) is 0 ∷ [])
    -- "(4,2), (4,2) admitted; (4,2), (4,3) refused, 2 at 1."
    ∷ (refused (refusal (not_admitted 2 (4 ∷ 4 ∷ []) (2 ∷ 2 ∷ []) ∷ [])) is [])
    ∷ (refused (refusal (not_admitted 2 (4 ∷ 4 ∷ []) (2 ∷ 3 ∷ []) ∷ [])) is 2 ∷ 1 ∷ [])
    -- "(5,5) alone, fresh: idle isn't listed."
    ∷ (fresh_list 1 (5 ∷ []) (5 ∷ []) is 0 ∷ [])
    -- "(10,4), (6,2), (60,1) with b = 4, 0, 1 and o = 6, 1, 50: list is 0 alone."
    ∷ (list_of 3 T₂ B₂ (4 ∷ 0 ∷ 1 ∷ []) (6 ∷ 1 ∷ 50 ∷ []) is 0 ∷ [])
    -- "Partition 1, inactive, would reach 11 against 7.": by way of 5 and 7
    ∷ (number (busy_start (4 ∷ 0 ∷ 1 ∷ []) 1 inversion) is 5 ∷ [])
    ∷ (map (busy_sum T₂ B₂ (4 ∷ 0 ∷ 1 ∷ []) (6 ∷ 1 ∷ 50 ∷ []) 1 inversion) (5 ∷ 7 ∷ []) is 7 ∷ 11 ∷ [])
    ∷ (number (deadline T₂ (4 ∷ 0 ∷ 1 ∷ []) (6 ∷ 1 ∷ 50 ∷ []) 1) is 7 ∷ [])
    -- "Four of (100,1) with b = 1 each, o = 2, 4, 6, 8: all and idle listed; weights 32768, 16384, 10922, 8192, idle 0."
    ∷ (list_of 4 (replicate 4 100) (replicate 4 1) (replicate 4 1) (2 ∷ 4 ∷ 6 ∷ 8 ∷ []) is 0 ∷ 1 ∷ 2 ∷ 3 ∷ idle ∷ [])
    ∷ (weights_of 4 (replicate 4 100) (replicate 4 1) (replicate 4 1) (2 ∷ 4 ∷ 6 ∷ 8 ∷ []) is 32768 ∷ 16384 ∷ 10922 ∷ 8192 ∷ 0 ∷ [])
    -- "(10,1), (20,10), (30,3), (50,5): R is 1, 12, 15, 20."
    ∷ (answer (response_within T₃ B₃ 0) is 1 ∷ [])
    ∷ (answer (response_within T₃ B₃ 1) is 12 ∷ [])
    ∷ (answer (response_within T₃ B₃ 2) is 15 ∷ [])
    ∷ (answer (response_within T₃ B₃ 3) is 20 ∷ [])
    -- "T = 200, B = 32, tasks (400,12), (800,24), (1600,48), (3200,96): 348, 552, 768, 2352."
    ∷ (map (task_response 200 32 (task 400 12 ∷ task 800 24 ∷ task 1600 48 ∷ task 3200 96 ∷ [])) (0 ∷ 1 ∷ 2 ∷ 3 ∷ []) is 348 ∷ 552 ∷ 768 ∷ 2352 ∷ [])
    ∷ []

pub sums_hold : Hold sums
unfolding worked
sums_hold = refl
