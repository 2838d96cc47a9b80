-- Entries beyond the count are no part of a table: no answer depends on them.
use Prim.Native.Nat.{ℕ, suc, ◌+◌, ◌≤◌, ◌<◌}
use mathlib.Core.Path.{◌≡◌, refl, sym, ap, ap₂, ◌∙◌, fun_ext}
use mathlib.Core.Bool.{cond, not, ◌&&◌, ◌||◌}
use mathlib.Core.List.{List, [], ◌∷◌}
use mathlib.Core.Option.{Option, some}
use native.Mathlib.Nat.{lt_trans, lt_of_lt_of_le, le_refl}
use mathlib.Core.Logic.{⊎_elim}
use borrow.Author.Tests.{le-ltb}
use native.Mathlib.Omega.{arith}
use lib.Dec.{ltb, leb, eqb}
use Rattle.basis.specs.Words.{◌!◌, first, found, all, settle}
use Rattle.laws.proofs.BusyLength.{passes-found}
use Rattle.laws.proofs.Tests.{below_or_not}
use Rattle.laws.proofs.Totals.{sum_same}
use Rattle.laws.proofs.Places.{first_same, all_same, those_same}
use Rattle.laws.proofs.Filled.{filled_same}
use Rattle.laws.proofs.TaskResponse.{others_apart}
use Rattle.rules.specs.Numbers.{most_partitions, most_tasks, partition_in_range, first_bad_partition, task_in_range, first_bad_task, pair_in_range, first_bad_pair}
use Rattle.rules.specs.declared.Pairs.{Pairs}
use Rattle.rules.specs.Admission.{demand, at_rest, response_within, first_unadmitted}
use Rattle.rules.specs.FreshStart.{fresh_b, fresh_o, fresh_start, zeros}
use Rattle.rules.specs.BusyLength.{active, busy_start, refill, busy_sum, deadline, busy_length, passes}
use Rattle.rules.specs.StandingTest.{first_failing}
use Rattle.rules.specs.Candidates.{may_run, members, idle_listed, candidates, inversion}
use Rattle.rules.specs.Weights.{member_weights, weights}
use Rattle.rules.specs.Pick.{S, decision}
use Rattle.rules.specs.Tick.{spend, next_b, next_o, pass_time, tick, tick_allowed}
use Rattle.rules.specs.Run.{Ran, run}
use Rattle.rules.specs.TaskResponse.{response_of_task}

-- two lists have the same entries below n
abbrev pub Agree : ℕ → List ℕ → List ℕ → Type 0
Agree n xs ys = (i : ℕ) → i < n → xs ! i ≡ ys ! i

pub bad_partition_same : (n : ℕ) (T B phase T' B' phase' : List ℕ) → Agree n T T' → Agree n B B' → Agree n phase phase'
    → first_bad_partition n T B phase ≡ first_bad_partition n T' B' phase'
unfolding first_bad_partition
bad_partition_same n T B phase T' B' phase' t u v =
    rw (first_same n (λ i. not (partition_in_range (T ! i) (B ! i) (phase ! i))) (λ i. not (partition_in_range (T' ! i) (B' ! i) (phase' ! i))) each)
  where
    each : (i : ℕ) → i < n → not (partition_in_range (T ! i) (B ! i) (phase ! i)) ≡ not (partition_in_range (T' ! i) (B' ! i) (phase' ! i))
    each i l = rw (t i l, u i l, v i l)

pub fresh_same : (n : ℕ) (T B phase T' B' phase' : List ℕ) → Agree n T T' → Agree n B B' → Agree n phase phase'
    → fresh_start n T B phase ≡ fresh_start n T' B' phase'
unfolding fresh_start fresh_b fresh_o
fresh_same n T B phase T' B' phase' t u v =
    ap₂ (λ (x y : List ℕ). record { b = x; o = y })
    (filled_same n _ _ zeros (λ i l. rw (u i l, v i l)))
    (filled_same n _ _ zeros (λ i l. rw (t i l, v i l)))

module _ (n : ℕ) (T B T' B' : List ℕ) (t : Agree n T T') (u : Agree n B B') where
  demand_same : (h : ℕ) → h < n → (W : ℕ) → demand T B h W ≡ demand T' B' h W
  unfolding demand
  demand_same h l W = ap₂ ◌+◌ (u h l) (sum_same h _ _ (λ j k. rw (t j (lt_trans k l), u j (lt_trans k l))))

  pub response_same : (h : ℕ) → h < n → response_within T B h ≡ response_within T' B' h
  unfolding response_within at_rest
  response_same h l =
      ap (λ x. first (suc x) (at_rest T B h)) (t h l)
      ∙ first_same (suc (T' ! h)) (at_rest T B h) (at_rest T' B' h) (λ W k. ap (λ x. leb 1 W && eqb W x) (demand_same h l W))

  pub unadmitted_same : first_unadmitted n T B ≡ first_unadmitted n T' B'
  unfolding first_unadmitted
  unadmitted_same = first_same n _ _ (λ h l. ap (λ a. not (found a)) (response_same h l))

  module _ (b o : List ℕ) where
    pub bad_pair_same : first_bad_pair n T B b o ≡ first_bad_pair n T' B' b o
    unfolding first_bad_pair pair_in_range
    bad_pair_same = first_same most_partitions _ _ (λ i l. ⊎_elim (inside i) (outside i) (below_or_not i n))
      where
        inside : (i : ℕ) → i < n → not (pair_in_range n T B b o i) ≡ not (pair_in_range n T' B' b o i)
        inside i l = rw (t i l, u i l)

        outside : (i : ℕ) → n ≤ i → not (pair_in_range n T B b o i) ≡ not (pair_in_range n T' B' b o i)
        outside i l = rw (le-ltb i n l)

    refill_same : (j : ℕ) → j < n → (W : ℕ) → refill T B o j W ≡ refill T' B' o j W
    unfolding refill
    refill_same j l W = rw (t j l, u j l)

    sum_same_busy : (h : ℕ) → h < n → (w W : ℕ) → busy_sum T B b o h w W ≡ busy_sum T' B' b o h w W
    unfolding busy_sum
    sum_same_busy h l w W =
        ap₂ (λ x y. busy_start b h w + x + cond (active b h) 0 y)
        (sum_same h _ _ (λ j k. refill_same j (lt_trans k l) W))
        (refill_same h l W)

    deadline_same : (h : ℕ) → h < n → deadline T b o h ≡ deadline T' b o h
    unfolding deadline
    deadline_same h l = rw (t h l)

    pub test_same : (h : ℕ) → h < n → (w : ℕ) → busy_length T B b o h w ≡ busy_length T' B' b o h w
    unfolding busy_length
    test_same h l w =
        ap₂ (λ (D : ℕ) (f : ℕ → ℕ). settle (suc D) f (ltb D) (busy_start b h w))
        (deadline_same h l)
        (fun_ext (sum_same_busy h l w))

    passes_same : (h : ℕ) → h < n → (w : ℕ) → passes T B b o h w ≡ passes T' B' b o h w
    passes_same h l w = passes-found T B b o h w ∙ ap found (test_same h l w) ∙ sym (passes-found T' B' b o h w)

    pub failing_same : first_failing n T B b o ≡ first_failing n T' B' b o
    unfolding first_failing
    failing_same = first_same n _ _ (λ h l. ap not (passes_same h l 0))

    may_same : (w c : ℕ) → c ≤ n → may_run T B b o w c ≡ may_run T' B' b o w c
    unfolding may_run
    may_same w c l = ap (λ x. all c (λ h. not (active b h)) || x) (all_same c _ _ (λ h k. passes_same h (lt_of_lt_of_le k l) w))

    members_same : (w : ℕ) → members n T B b o w ≡ members n T' B' b o w
    unfolding members
    members_same w = those_same n _ _ (λ c l. ap (λ x. active b c && x) (may_same w c (omega arith)))

    idle_same : (w : ℕ) → idle_listed n T B b o w ≡ idle_listed n T' B' b o w
    unfolding idle_listed
    idle_same w = may_same w n (le_refl n)

    pub candidates_same : (w : ℕ) → candidates n T B b o w ≡ candidates n T' B' b o w
    unfolding candidates
    candidates_same w = rw (members_same w, idle_same w)

    pub weights_same : (w : ℕ) → weights n T B b o w ≡ weights n T' B' b o w
    unfolding weights member_weights
    weights_same w = rw (members_same w, idle_same w)

    pub decision_same : (word : ℕ) → decision n T B b o word ≡ decision n T' B' b o word
    unfolding decision S
    decision_same word = rw (candidates_same inversion, weights_same inversion)

    pub allowed_same : (pick : ℕ) → tick_allowed n T B b o pick ≡ tick_allowed n T' B' b o pick
    unfolding tick_allowed
    allowed_same pick = rw (candidates_same inversion)

    pub tick_same : (pick : ℕ) → tick n T B b o pick ≡ tick n T' B' b o pick
    unfolding tick pass_time next_b next_o
    tick_same pick =
        ap₂ (λ (x y : List ℕ). record { b = x; o = y })
        (filled_same n _ _ (spend b pick) (λ i l. rw (u i l)))
        (filled_same n _ _ o (λ i l. rw (t i l)))

  pub run_same : (words : List ℕ) (s : Pairs) → run n T B s words ≡ run n T' B' s words
  unfolding run
  run_same [] s = refl
  run_same (word ∷ words) s =
      ap₂ (λ (pick : ℕ) (rest : Ran). record { picks = pick ∷ rest.picks; after = rest.after }) pick_same
      (run_same words (tick n T B s.b s.o pick) ∙ ap (λ (s' : Pairs). run n T' B' s' words) next_same)
    where
      pick : ℕ
      pick = decision n T B s.b s.o word

      pick_same : pick ≡ decision n T' B' s.b s.o word
      pick_same = decision_same s.b s.o word

      next_same : tick n T B s.b s.o pick ≡ tick n T' B' s.b s.o (decision n T' B' s.b s.o word)
      next_same = tick_same s.b s.o pick ∙ ap (tick n T' B' s.b s.o) pick_same

-- ---- the tasks
module _ (m : ℕ) (part p e part' p' e' : List ℕ) (x : Agree m part part') (y : Agree m p p') (z : Agree m e e') where
  pub bad_task_same : (n : ℕ) → first_bad_task n m part p e ≡ first_bad_task n m part' p' e'
  unfolding first_bad_task
  bad_task_same n =
      ap (λ (a : Option ℕ). cond (ltb most_tasks m) (some most_tasks) a)
      (first_same m (λ i. not (task_in_range n (part ! i) (p ! i) (e ! i))) (λ i. not (task_in_range n (part' ! i) (p' ! i) (e' ! i))) (λ i l. rw (x i l, y i l, z i l)))

  -- the response of a task that is there, in a partition that is there
  pub response_of_task_same : (n : ℕ) (T B T' B' : List ℕ) → Agree n T T' → Agree n B B' → (i : ℕ) → i < m → part ! i < n
      → response_of_task T B m part p e i ≡ response_of_task T' B' m part' p' e' i
  response_of_task_same n T B T' B' t u i l k =
      others_apart (part ! i) m part p e part' p' e' (λ j a. ap (λ h. eqb h (part ! i)) (x j a)) (λ j a on. y j a) (λ j a on. z j a)
      T B T' B' (t (part ! i) k) (u (part ! i) k) i l refl
