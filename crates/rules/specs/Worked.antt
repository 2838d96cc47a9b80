-- One name for all definitions that a figure worked by hand is computed by: to unfold `worked` is to unfold each of them.
use Rattle.std.specs.Prelude.{ℕ}
use Rattle.basis.specs.Words.{ceil, sum_below, total, has, all, those, first, filled, padded, settle}
use Rattle.rules.specs.Numbers.{partition_in_range, first_bad_partition, task_in_range, first_bad_task, pair_in_range, first_bad_pair}
use Rattle.rules.specs.Admission.{demand, at_rest, response_within, first_unadmitted}
use Rattle.rules.specs.FreshStart.{fresh_b, fresh_o, fresh_start}
use Rattle.rules.specs.BusyLength.{arrivals, active, busy_start, refill, busy_sum, deadline, busy_length, passes}
use Rattle.rules.specs.StandingTest.{first_failing}
use Rattle.rules.specs.Candidates.{may_run, members, idle_listed, candidates}
use Rattle.rules.specs.Weights.{weight, idle_weight, member_weights, weights}
use Rattle.rules.specs.Pick.{position, first_exceeding, S, decision}
use Rattle.rules.specs.Tick.{spend, replenishes, next_b, next_o, pass_time, tick, tick_allowed}
use Rattle.rules.specs.Release.{release, release_allowed}
use Rattle.rules.specs.Run.{run}
use Rattle.rules.specs.TaskResponse.{load, next_response, settled_response, task_response, own_tasks, rank_of, response_of_task}
use Rattle.rules.specs.Refusals.{refusal}

unfoldable pub worked : ℕ
unfolding ceil sum_below total has all those first filled padded settle partition_in_range first_bad_partition task_in_range first_bad_task pair_in_range first_bad_pair demand at_rest response_within first_unadmitted fresh_b fresh_o fresh_start arrivals active busy_start refill busy_sum deadline busy_length passes first_failing may_run members idle_listed candidates weight idle_weight member_weights weights position first_exceeding S decision spend replenishes next_b next_o pass_time tick tick_allowed release release_allowed run load next_response settled_response task_response own_tasks rank_of response_of_task refusal
worked = 0
