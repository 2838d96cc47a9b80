-- The losses, shown event by event; and that 01's own rules, under the guarantee's premises, have none.
use Prim.Native.Nat.{ℕ, ◌<◌}
use mathlib.Core.Path.{◌≡◌, refl}
use mathlib.Core.List.{List, [], ◌∷◌}
use native.Mathlib.Nat.{le_refl}
use native.Mathlib.Omega.{arith}
use Rattle.rules.specs.declared.Pairs.{Pairs}
use Rattle.rules.specs.Candidates.{may_run, members, idle_listed, candidates, idle, inversion}
use Rattle.laws.proofs.Admission.{admitted_exactly}
use Rattle.guarantee.proofs.Worked.{history_worked}
use Rattle.guarantee.specs.Histories.{tick_to, release_of, scheduler}
use Rattle.guarantee.specs.Guarantee.{AdmittedTable, StandingState}
use Rattle.guarantee.specs.Losses.{Loses, list_by, TemptingRulesLose, LosesWithoutStanding, LosesWithoutAdmission}
use Rattle.guarantee.proofs.Guaranteed.{guaranteed}

-- under 01's own rules nobody loses a tick
pub never_loses : (n : ℕ) (T B phase : List ℕ) (s : Pairs) (h : ℕ) → AdmittedTable n T B phase → StandingState n T B s → h < n → ¬ Loses (scheduler n T B) B h s
never_loses n T B phase s h table here l loss =
    let exact = (guaranteed n T B phase table).whole_period s loss.before loss.period h here loss.follows l loss.from loss.to in
    let short = loss.short in
    omega arith

-- 01's list is built as the tempting ones are, by its own test
pub built_alike : (n : ℕ) (T B : List ℕ) (s : Pairs) → list_by n T B s.b (may_run T B s.b s.o inversion) ≡ (scheduler n T B).list s
unfolding candidates members idle_listed
built_alike n T B s = refl

pub tempting_rules_lose : TemptingRulesLose
unfolding history_worked
tempting_rules_lose =
    record {
      -- while 1 is inactive, nobody asks whether it can make its next period: 0 runs late in one of its own, and early in the next
      active_only =
          record {
            n = 2;
            T = 3 ∷ 2 ∷ [];
            B = 1 ∷ 1 ∷ [];
            phase = [];
            table = record { in_range = refl; admitted = (admitted_exactly (3 ∷ 2 ∷ []) (1 ∷ 1 ∷ []) 2).0 refl };
            h = 1;
            there = le_refl 2;
            loses = record { before = release_of 1 ∷ tick_to idle ∷ tick_to idle ∷ []; period = tick_to 0 ∷ tick_to 0 ∷ []; follows = refl; from = refl; to = record { last = refl; only = refl }; short = le_refl 1 };
          };
      -- both pass as things are, but a tick of idle leaves room for one of them only
      no_inversion =
          record {
            n = 2;
            T = 2 ∷ 2 ∷ [];
            B = 1 ∷ 1 ∷ [];
            phase = [];
            table = record { in_range = refl; admitted = (admitted_exactly (2 ∷ 2 ∷ []) (1 ∷ 1 ∷ []) 2).0 refl };
            h = 1;
            there = le_refl 2;
            loses = record { before = tick_to 0 ∷ tick_to 1 ∷ []; period = tick_to idle ∷ tick_to 0 ∷ []; follows = refl; from = refl; to = record { last = refl; only = refl }; short = le_refl 1 };
          };
      -- idle may run when there is no time for it
      no_test =
          record {
            n = 1;
            T = 1 ∷ [];
            B = 1 ∷ [];
            phase = [];
            table = record { in_range = refl; admitted = (admitted_exactly (1 ∷ []) (1 ∷ []) 1).0 refl };
            h = 0;
            there = le_refl 1;
            loses = record { before = tick_to 0 ∷ []; period = tick_to idle ∷ []; follows = refl; from = refl; to = record { last = refl; only = refl }; short = le_refl 1 };
          };
      -- the tick that ends a period is taken out of the next one's budget
      replenished_first =
          record {
            n = 1;
            T = 1 ∷ [];
            B = 1 ∷ [];
            phase = [];
            table = record { in_range = refl; admitted = (admitted_exactly (1 ∷ []) (1 ∷ []) 1).0 refl };
            h = 0;
            there = le_refl 1;
            loses = record { before = tick_to 0 ∷ []; period = tick_to idle ∷ []; follows = refl; from = refl; to = record { last = refl; only = refl }; short = le_refl 1 };
          };
    }

pub loses_without_standing : LosesWithoutStanding
unfolding history_worked
loses_without_standing =
    record {
      table = record { in_range = refl; admitted = (admitted_exactly (2 ∷ 2 ∷ []) (1 ∷ 1 ∷ []) 2).0 refl };
      state = record { budgets = refl; offsets = refl; pairs = refl };
      falls = refl;
      loses = record { before = tick_to 0 ∷ tick_to 1 ∷ []; period = tick_to 0 ∷ tick_to 0 ∷ []; follows = refl; from = refl; to = record { last = refl; only = refl }; short = le_refl 1 };
    }

pub loses_without_admission : LosesWithoutAdmission
unfolding history_worked
loses_without_admission =
    record {
      table = refl;
      not_admitted_lem = refl;
      stands = record { in_range = record { budgets = refl; offsets = refl; pairs = refl }; stands = refl };
      loses = record { before = tick_to idle ∷ []; period = tick_to 0 ∷ []; follows = refl; from = refl; to = record { last = refl; only = refl }; short = le_refl 1 };
    }
