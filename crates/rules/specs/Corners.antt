-- Cases of our own, worked by hand, beside 01's ★ ones: 01's first case as a run, and the corners where a rule is easily read wrong.
use Rattle.std.specs.Prelude.{ℕ, List, [], ◌∷◌, ◌++◌, map, refl, take, replicate}
use Rattle.std.proofs.Math.Option.{some}
use Rattle.basis.specs.Rows.{Row, ◌is◌, Hold, number, answer}
use Rattle.rules.specs.declared.Refusal.{Refusal}
use Rattle.rules.specs.declared.Refusal.TheVariants.{BadPartition, NotAdmitted, BadPair, NoWord, NotListed, NotActive, ShortBuffer, BadRecord, BadTask}
use Rattle.rules.specs.Numbers.{first_bad_partition, first_bad_task, first_bad_pair}
use Rattle.rules.specs.Admission.{response_within, first_unadmitted}
use Rattle.rules.specs.FreshStart.{fresh_start}
use Rattle.rules.specs.BusyLength.{deadline, busy_length}
use Rattle.rules.specs.StandingTest.{first_failing}
use Rattle.rules.specs.Candidates.{candidates, idle, inversion}
use Rattle.rules.specs.Weights.{weights}
use Rattle.rules.specs.Pick.{first_exceeding}
use Rattle.rules.specs.Tick.{tick}
use Rattle.rules.specs.Release.{release}
use Rattle.rules.specs.Run.{Ran, run}
use Rattle.rules.specs.TaskResponse.{next_response, task_response, rank_of, response_of_task}
use Rattle.rules.specs.Worked.{worked}
use Rattle.rules.specs.Refusals.{refused_as, ground, refusal, bad_table_or_index, bad_tasks_or_index, no_word, not_listed, not_active, short_buffer}
use Rattle.rules.specs.Sums.{refused, task, T₁, B₁}

abbrev nine : List Refusal
nine =
    BadPartition 11 ∷ NotAdmitted 12 ∷ BadPair 13 ∷ NoWord ∷ NotListed 15 ∷ NotActive 16 ∷ ShortBuffer 17 ∷ BadRecord 18
    ∷ BadTask 19
    ∷ []

-- a run of 01's first table, from its fresh start
abbrev first_case : List ℕ → Ran
first_case = run 2 T₁ B₁ (fresh_start 2 T₁ B₁ [])

abbrev pub corners : List Row
corners =
    -- a count is judged before the fields
    (answer (first_bad_partition 0 [] [] []) is 0 ∷ [])
    ∷ (answer (first_bad_partition 17 [] [] []) is 16 ∷ [])
    -- a budget above its period; a phase that is a whole period; every field at its largest
    ∷ (answer (first_bad_partition 2 (4 ∷ 6 ∷ []) (1 ∷ 7 ∷ []) []) is 1 ∷ [])
    ∷ (answer (first_bad_partition 1 (4 ∷ []) (1 ∷ []) (4 ∷ [])) is 0 ∷ [])
    ∷ (answer (first_bad_partition 1 (4096 ∷ []) (4096 ∷ []) (4095 ∷ [])) is [])
    ∷ (answer (first_bad_partition 1 (4097 ∷ []) (1 ∷ []) []) is 0 ∷ [])
    -- a budget of 0; and all sixteen partitions
    ∷ (answer (first_bad_partition 1 (4 ∷ []) (0 ∷ []) []) is 0 ∷ [])
    ∷ (answer (first_bad_partition 16 (replicate 16 4) (replicate 16 1) []) is [])
    -- no tasks; 65 tasks; a task of a partition that isn't there; a cost above its gap
    ∷ (answer (first_bad_task 1 0 [] [] []) is [])
    ∷ (answer (first_bad_task 1 65 [] [] []) is 64 ∷ [])
    ∷ (answer (first_bad_task 1 2 (0 ∷ 1 ∷ []) (5 ∷ 5 ∷ []) (2 ∷ 2 ∷ [])) is 1 ∷ [])
    ∷ (answer (first_bad_task 1 1 (0 ∷ []) (5 ∷ []) (6 ∷ [])) is 0 ∷ [])
    -- a cost of 0; a gap above 16 bits; and all sixty-four tasks
    ∷ (answer (first_bad_task 1 1 (0 ∷ []) (5 ∷ []) (0 ∷ [])) is 0 ∷ [])
    ∷ (answer (first_bad_task 1 1 (0 ∷ []) (65536 ∷ []) (1 ∷ [])) is 0 ∷ [])
    ∷ (answer (first_bad_task 1 64 (replicate 64 0) (replicate 64 5) (replicate 64 1)) is [])
    -- a pair beyond the table that isn't 0, 0, by its o or its b; an o of 0, or above T; a b above B
    ∷ (answer (first_bad_pair 1 (4 ∷ []) (2 ∷ []) (2 ∷ 0 ∷ []) (4 ∷ 1 ∷ [])) is 1 ∷ [])
    ∷ (answer (first_bad_pair 1 (4 ∷ []) (2 ∷ []) (2 ∷ 1 ∷ []) (4 ∷ 0 ∷ [])) is 1 ∷ [])
    ∷ (answer (first_bad_pair 1 (4 ∷ []) (2 ∷ []) (2 ∷ []) (0 ∷ [])) is 0 ∷ [])
    ∷ (answer (first_bad_pair 1 (4 ∷ []) (2 ∷ []) (2 ∷ []) (5 ∷ [])) is 0 ∷ [])
    ∷ (answer (first_bad_pair 1 (4 ∷ []) (2 ∷ []) (3 ∷ []) (4 ∷ [])) is 0 ∷ [])
    ∷ (answer (first_bad_pair 1 (4 ∷ []) (2 ∷ []) (2 ∷ []) (4 ∷ [])) is [])
    -- (2,1), (3,2): the R of 1 is 4, one tick above its period
    ∷ (answer (response_within (2 ∷ 3 ∷ []) (1 ∷ 2 ∷ []) 1) is [])
    ∷ (answer (first_unadmitted 2 (2 ∷ 3 ∷ []) (1 ∷ 2 ∷ [])) is 1 ∷ [])
    -- a phase is the first o, with no budget before it
    ∷ (take 2 (fresh_start 2 (4 ∷ 6 ∷ []) (1 ∷ 2 ∷ []) (0 ∷ 3 ∷ [])).b is 1 ∷ 0 ∷ [])
    ∷ (take 2 (fresh_start 2 (4 ∷ 6 ∷ []) (1 ∷ 2 ∷ []) (0 ∷ 3 ∷ [])).o is 4 ∷ 3 ∷ [])
    -- length 0 is a pass; a length of just the deadline is a pass; a start above the deadline is none
    ∷ (answer (busy_length (4 ∷ []) (1 ∷ []) (0 ∷ []) (3 ∷ []) 0 0) is 0 ∷ [])
    ∷ (answer (busy_length (4 ∷ []) (1 ∷ []) (1 ∷ []) (1 ∷ []) 0 0) is 1 ∷ [])
    ∷ (answer (busy_length (4 ∷ []) (1 ∷ []) (1 ∷ []) (1 ∷ []) 0 1) is [])
    -- an inactive partition has until the end of its next period
    ∷ (number (deadline (6 ∷ []) (0 ∷ []) (1 ∷ []) 0) is 7 ∷ [])
    -- the first h that fails the standing test; a tick left for a budget of one is enough; the first of two, over a table that isn't admitted
    ∷ (answer (first_failing 2 (4 ∷ 6 ∷ []) (1 ∷ 2 ∷ []) (1 ∷ 2 ∷ []) (4 ∷ 2 ∷ [])) is 1 ∷ [])
    ∷ (answer (first_failing 1 (4 ∷ []) (1 ∷ []) (1 ∷ []) (1 ∷ [])) is [])
    ∷ (answer (first_failing 3 (4 ∷ 4 ∷ 4 ∷ []) (2 ∷ 2 ∷ 2 ∷ []) (2 ∷ 2 ∷ 2 ∷ []) (4 ∷ 3 ∷ 3 ∷ [])) is 1 ∷ [])
    -- idle as a number
    ∷ (number idle is 255 ∷ [])
    -- with no active partition the list is idle alone, and weighs all
    ∷ (candidates 2 (4 ∷ 6 ∷ []) (1 ∷ 2 ∷ []) (0 ∷ 0 ∷ []) (4 ∷ 2 ∷ []) inversion is idle ∷ [])
    ∷ (weights 2 (4 ∷ 6 ∷ []) (1 ∷ 2 ∷ []) (0 ∷ 0 ∷ []) (4 ∷ 2 ∷ []) inversion is 65536 ∷ [])
    -- with w = 3 partition 0, inactive, fails: and yet the first active one is in, and idle where there is none
    ∷ (candidates 2 (2 ∷ 7 ∷ []) (1 ∷ 1 ∷ []) (0 ∷ 1 ∷ []) (1 ∷ 7 ∷ []) 3 is 1 ∷ [])
    ∷ (candidates 1 (2 ∷ []) (1 ∷ []) (0 ∷ []) (1 ∷ []) 3 is idle ∷ [])
    -- a position exceeds no running sum that it equals
    ∷ (number (first_exceeding 2 0 (0 ∷ 1 ∷ []) (3 ∷ 4 ∷ [])) is 0 ∷ [])
    ∷ (number (first_exceeding 3 0 (0 ∷ 1 ∷ []) (3 ∷ 4 ∷ [])) is 1 ∷ [])
    -- in a tick b falls first, then replenishes; what was left is lost; idle's tick takes nothing
    ∷ ((tick 1 (4 ∷ []) (3 ∷ []) (1 ∷ []) (1 ∷ []) 0).b is 3 ∷ [])
    ∷ ((tick 1 (4 ∷ []) (3 ∷ []) (2 ∷ []) (1 ∷ []) idle).b is 3 ∷ [])
    ∷ ((tick 1 (4 ∷ []) (3 ∷ []) (2 ∷ []) (1 ∷ []) idle).o is 4 ∷ [])
    ∷ ((tick 1 (4 ∷ []) (3 ∷ []) (2 ∷ []) (2 ∷ []) 0).b is 1 ∷ [])
    ∷ ((tick 1 (4 ∷ []) (3 ∷ []) (2 ∷ []) (2 ∷ []) idle).b is 2 ∷ [])
    -- a release changes one number
    ∷ ((release (1 ∷ 2 ∷ []) (4 ∷ 6 ∷ []) 1).b is 1 ∷ 0 ∷ [])
    ∷ ((release (1 ∷ 2 ∷ []) (4 ∷ 6 ∷ []) 1).o is 4 ∷ 6 ∷ [])
    -- 01's first case: the picks of its six words, the state at tick 3, and no words
    ∷ ((first_case (20000 ∷ 40000 ∷ 60000 ∷ 5 ∷ 50000 ∷ 0 ∷ [])).picks is 1 ∷ idle ∷ idle ∷ 0 ∷ 0 ∷ 1 ∷ [])
    ∷ (take 2 (first_case (20000 ∷ 40000 ∷ 60000 ∷ [])).after.b is 1 ∷ 1 ∷ [])
    ∷ (take 2 (first_case (20000 ∷ 40000 ∷ 60000 ∷ [])).after.o is 1 ∷ 3 ∷ [])
    ∷ ((first_case []).picks is [])
    ∷ (take 2 (first_case []).after.b is 1 ∷ 2 ∷ [])
    ∷ (take 2 (first_case []).after.o is 4 ∷ 6 ∷ [])
    -- r passes 32 bits, at 2^32 exactly: late; a cost that can't be met at all: late
    ∷ (number (next_response 4096 1 (replicate 16 (task 65535 65535)) 16 16) is 4294967296 ∷ [])
    ∷ (number (task_response 4096 1 (replicate 16 (task 65535 65535) ++ task 65535 16 ∷ []) 16) is 0 ∷ [])
    ∷ (number (task_response 200 32 (task 100 12 ∷ []) 0) is 0 ∷ [])
    -- T − B + r of just the gap is in time
    ∷ (number (task_response 4 1 (task 7 1 ∷ []) 0) is 7 ∷ [])
    -- ranks are per partition, in table order, even where partitions interleave
    ∷ (number (rank_of (0 ∷ 1 ∷ 0 ∷ 1 ∷ []) 3) is 1 ∷ [])
    ∷ (number (response_of_task (4 ∷ 200 ∷ []) (1 ∷ 32 ∷ []) 4 (0 ∷ 1 ∷ 0 ∷ 1 ∷ []) (9 ∷ 400 ∷ 9 ∷ 800 ∷ []) (1 ∷ 12 ∷ 1 ∷ 24 ∷ []) 3) is 552 ∷ [])
    -- the nine refusals' numbers, and their second numbers
    ∷ (map (λ (r : Refusal). (refused_as r).number) nine is 1 ∷ 2 ∷ 3 ∷ 4 ∷ 5 ∷ 6 ∷ 7 ∷ 8 ∷ 9 ∷ [])
    ∷ (map (λ (r : Refusal). (refused_as r).second) nine is 11 ∷ 12 ∷ 13 ∷ 0 ∷ 15 ∷ 16 ∷ 17 ∷ 18 ∷ 19 ∷ [])
    -- of several refusals the first in the order
    ∷ (refused (refusal (ground 9 (some 3) ∷ ground 3 (some 2) ∷ ground 1 (some 5) ∷ [])) is 1 ∷ 5 ∷ [])
    ∷ (refused (refusal (ground 6 (some 3) ∷ ground 7 (some 2) ∷ ground 4 (some 0) ∷ [])) is 7 ∷ 2 ∷ [])
    ∷ (refused (refusal (ground 1 (some 5) ∷ ground 8 (some 40) ∷ [])) is 8 ∷ 40 ∷ [])
    -- a partition that isn't there, asked for, is 1 with its index, unless a field is bad; ticked 5, released 6
    ∷ (refused (refusal (bad_table_or_index 1 (4 ∷ []) (1 ∷ []) [] 7 ∷ [])) is 1 ∷ 7 ∷ [])
    ∷ (refused (refusal (bad_table_or_index 1 (4 ∷ []) (5 ∷ []) [] 7 ∷ [])) is 1 ∷ 0 ∷ [])
    ∷ (refused (refusal (not_listed 1 (4 ∷ []) (1 ∷ []) (1 ∷ []) (4 ∷ []) 7 ∷ [])) is 5 ∷ 7 ∷ [])
    ∷ (refused (refusal (not_active 1 (1 ∷ []) 255 ∷ [])) is 6 ∷ 255 ∷ [])
    -- a tick for an active partition that isn't listed, and for a listed idle that weighs nothing; a release of an inactive one
    ∷ (refused (refusal (not_listed 2 T₁ B₁ (1 ∷ 1 ∷ []) (1 ∷ 3 ∷ []) 1 ∷ [])) is 5 ∷ 1 ∷ [])
    ∷ (refused (refusal (not_listed 4 (replicate 4 100) (replicate 4 1) (replicate 4 1) (2 ∷ 4 ∷ 6 ∷ 8 ∷ []) idle ∷ [])) is [])
    ∷ (refused (refusal (not_active 2 (1 ∷ 0 ∷ []) 1 ∷ [])) is 6 ∷ 1 ∷ [])
    -- a task that isn't there, asked for, is 9 with its index, unless a field is bad: that of a task whose partition isn't there
    ∷ (refused (refusal (bad_tasks_or_index 1 1 (0 ∷ []) (5 ∷ []) (2 ∷ []) 7 ∷ [])) is 9 ∷ 7 ∷ [])
    ∷ (refused (refusal (bad_tasks_or_index 1 1 (1 ∷ []) (5 ∷ []) (2 ∷ []) 7 ∷ [])) is 9 ∷ 0 ∷ [])
    -- no word; a buffer that is one too short, and one that is just long enough
    ∷ (refused (refusal (no_word [] ∷ [])) is 4 ∷ 0 ∷ [])
    ∷ (refused (refusal (short_buffer 6 5 ∷ [])) is 7 ∷ 6 ∷ [])
    ∷ (refused (refusal (short_buffer 6 6 ∷ [])) is [])
    ∷ []

pub corners_hold : Hold corners
unfolding worked
corners_hold = refl
