-- What it is to lose a tick; four tempting rules under which a program does; and that no premise of the guarantee can be left out.
use Rattle.std.specs.Prelude.{ℕ, ◌+◌, ◌<◌, Bool, true, cond, not, ◌&&◌, ◌||◌, List, [], ◌∷◌, ◌++◌, ◌≡◌, replicate}
use Rattle.std.proofs.Math.Option.{some}
use Rattle.basis.specs.Words.{◌!◌, all, those}
use Rattle.rules.specs.Numbers.{TableInRange, StateInRange}
use Rattle.rules.specs.declared.Pairs.{Pairs}
use Rattle.rules.specs.Admission.{first_unadmitted}
use Rattle.rules.specs.StandingTest.{first_failing}
use Rattle.rules.specs.BusyLength.{active, passes}
use Rattle.rules.specs.Candidates.{candidates, idle, inversion}
use Rattle.rules.specs.FreshStart.{fresh_start}
use Rattle.rules.specs.Tick.{spend, pass_time, tick}
use Rattle.guarantee.specs.Histories.{Event, Scheduler, scheduler, all_allowed, after, ticks_run, ticks_given_up, EndsReplenished, ToTheNext}
use Rattle.guarantee.specs.Guarantee.{AdmittedTable, StandingState}

-- from the state s on, the scheduler allows a history with a whole period of h in which h runs and gives up fewer ticks than its budget
pub record Loses (x : Scheduler) (B : List ℕ) (h : ℕ) (s : Pairs) : Type 0 where
  pub before : List Event
  pub period : List Event
  pub follows : all_allowed x s (before ++ period) ≡ true
  pub from : EndsReplenished x h s before
  pub to : ToTheNext x h (after x s before) period
  pub short : ticks_run x h (after x s before) period + ticks_given_up x h (after x s before) period < B ! h

-- the rule loses a tick of some partition from a fresh start of some admitted table
pub record LosesFresh (rule : ℕ → List ℕ → List ℕ → Scheduler) : Type 0 where
  pub n : ℕ
  pub T : List ℕ
  pub B : List ℕ
  pub phase : List ℕ
  pub table : AdmittedTable n T B phase
  pub h : ℕ
  pub there : h < n
  pub loses : Loses (rule n T B) B h (fresh_start n T B phase)

module _ (n : ℕ) (T B : List ℕ) where
  -- a list built as 01's is, but for the test of who may run
  abbrev pub list_by : List ℕ → (ℕ → Bool) → List ℕ
  list_by b may = those n (λ c. active b c && may c) ++ cond (may n) (idle ∷ []) []

  -- a list that tests active partitions only
  abbrev pub tests_active_only : Scheduler
  tests_active_only =
      record {
        count = n;
        list = λ s. list_by s.b (λ c. all c (λ h. not (active s.b h) || passes T B s.b s.o h inversion));
        ticked = λ s pick. tick n T B s.b s.o pick;
      }

  -- a list with w = 0
  abbrev pub forgets_the_inversion : Scheduler
  forgets_the_inversion =
      record {
        count = n;
        list = λ s. candidates n T B s.b s.o 0;
        ticked = λ s pick. tick n T B s.b s.o pick;
      }

  -- a list without a check
  abbrev pub never_tests : Scheduler
  never_tests =
      record {
        count = n;
        list = λ s. list_by s.b (λ c. true);
        ticked = λ s pick. tick n T B s.b s.o pick;
      }

  -- a tick that replenishes before the pick loses its tick
  abbrev pub replenishes_first : Scheduler
  replenishes_first =
      record {
        count = n;
        list = λ s. candidates n T B s.b s.o inversion;
        ticked = λ s pick. let later : Pairs = pass_time n T B s.b s.o in record { b = spend later.b pick; o = later.o };
      }

-- each of them loses a tick
pub record TemptingRulesLose : Type 0 where
  pub active_only : LosesFresh tests_active_only
  pub no_inversion : LosesFresh forgets_the_inversion
  pub no_test : LosesFresh never_tests
  pub replenished_first : LosesFresh replenishes_first

-- ---- and under 01's own rules, where a premise is missing
-- sixteen pairs, of which two are not 0, 0
abbrev pub two : ℕ → ℕ → List ℕ
two x y = x ∷ y ∷ replicate 14 0

-- a state that does not stand, over an admitted table: (2,1), (2,1) at b, o = 1, 1 and 1, 2
pub record LosesWithoutStanding : Type 0 where
  pub table : AdmittedTable 2 (2 ∷ 2 ∷ []) (1 ∷ 1 ∷ []) []
  pub state : StateInRange 2 (2 ∷ 2 ∷ []) (1 ∷ 1 ∷ []) (two 1 1) (two 1 2)
  pub falls : first_failing 2 (2 ∷ 2 ∷ []) (1 ∷ 1 ∷ []) (two 1 1) (two 1 2) ≡ some 1
  pub loses : Loses (scheduler 2 (2 ∷ 2 ∷ []) (1 ∷ 1 ∷ [])) (1 ∷ 1 ∷ []) 1 (record { b = two 1 1; o = two 1 2 })

-- a table that is not admitted, from a state that stands: (1,1), (1,1) at 0, 1 and 0, 1
pub record LosesWithoutAdmission : Type 0 where
  pub table : TableInRange 2 (1 ∷ 1 ∷ []) (1 ∷ 1 ∷ []) []
  pub not_admitted_lem : first_unadmitted 2 (1 ∷ 1 ∷ []) (1 ∷ 1 ∷ []) ≡ some 1
  pub stands : StandingState 2 (1 ∷ 1 ∷ []) (1 ∷ 1 ∷ []) (record { b = two 0 0; o = two 1 1 })
  pub loses : Loses (scheduler 2 (1 ∷ 1 ∷ []) (1 ∷ 1 ∷ [])) (1 ∷ 1 ∷ []) 1 (record { b = two 0 0; o = two 1 1 })
