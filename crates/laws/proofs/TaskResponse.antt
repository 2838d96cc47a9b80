-- The response of a task: the least r that stands still, late exactly when none does in time, and from its own partition's numbers alone.
use Prim.Native.Nat.{ℕ, suc, ◌+◌, ◌-◌, ◌*◌, ◌≤◌, ◌<◌}
use mathlib.Core.Path.{◌≡◌, refl, sym, ◌∙◌, ap, ap₂}
use mathlib.Core.Bool.{cond}
use mathlib.Core.List.{List, ◌∷◌, ◌++◌, map, map-append, map-map}
use mathlib.Core.Logic.{◌↔◌}
use mathlib.Core.Option.{Option, some, none}
use native.Mathlib.Nat.{lt-suc_self, le_refl, le_trans, add-le-add, mul-le-mul_right}
use native.Mathlib.Omega.{arith}
use borrow.Author.Tests.{ltb-false, le-ltb, eqb-true, eq-eqb}
use lib.Dec.{eqb}
use lib.ListN.{length, take, get_or, length-map}
use lib.Seq.{take_at, get_or-append_seam}
use Rattle.basis.specs.Words.{◌!◌, ceil, sum_below, total, those}
use Rattle.laws.proofs.Ceil.{ceil_mono}
use Rattle.laws.proofs.Totals.{total_mono, total-those}
use Rattle.laws.proofs.Places.{those_same, those_split, map-those_same}
use Rattle.laws.proofs.Settle.{Rising, Start, settles_exactly, settles_never}
use Rattle.laws.proofs.Numbers.{tasks_good}
use Rattle.rules.specs.Numbers.{TasksInRange}
use Rattle.rules.specs.TaskResponse.{Work, load, next_response, IsResponse, exceeds, settled_response, ticks_or_late, task_response, work, own_tasks, rank_of, response_of_task}

-- ---- the repetition
module _ (T B : ℕ) (above : List Work) where
  load_rising : (e : ℕ) → Rising (load T B above e)
  unfolding load
  load_rising e r s l =
      add-le-add (le_refl e) (total_mono above _ _ (λ (x : Work). mul-le-mul_right x.e (ceil_mono (T - B + r) (T - B + s) x.p (omega arith))))

  -- more ticks, more work from the ranks above
  pub response_rising : (e : ℕ) → Rising (next_response T B above e)
  unfolding next_response
  response_rising e r s l =
      let more = load_rising e r s l in
      add-le-add more (mul-le-mul_right (T - B) (ceil_mono (load T B above e r) (load T B above e s) B more))

  -- and never less than its own
  pub cost_least : (e r : ℕ) → e ≤ next_response T B above e r
  unfolding next_response load
  cost_least e r = omega arith

module _ (T B : ℕ) (above : List Work) (x : Work) where
  -- what the repetition begins with
  pub response_start : Start (next_response T B above x.e) (exceeds T B x.p) x.p x.e
  response_start =
      record {
        rising = response_rising T B above x.e;
        bound = λ r s l near. le-ltb x.p (T - B + r) (le_trans (add-le-add (le_refl (T - B)) l) (ltb-false x.p (T - B + s) near));
        limit = λ r near. let in_gap = ltb-false x.p (T - B + r) near in omega arith;
        lowest = cost_least T B above x.e;
      }

  -- what it means that the task isn't late
  pub record OnTime (r : ℕ) : Type 0 where
    pub least : IsResponse T B above x.e r
    pub in_gap : T - B + r ≤ x.p

  -- the repetition finds the least r that stands still, if it is in time
  pub response_exactly : (r : ℕ) → (settled_response T B above x ≡ some r) ↔ OnTime r
  unfolding settled_response IsResponse
  response_exactly r = (
    λ p. let s = (settles_exactly response_start r).0 p in record { least = s.0; in_gap = ltb-false x.p (T - B + r) s.1 },
    λ o. (settles_exactly response_start r).1 (o.least, le-ltb x.p (T - B + r) o.in_gap),
  )

  -- late exactly when none that stands still is in time
  pub late_exactly : (settled_response T B above x ≡ none) ↔ ((r : ℕ) → next_response T B above x.e r ≡ r → T - B + r ≤ x.p → ⊥)
  unfolding settled_response
  late_exactly = (
    λ late r still l. (settles_never response_start).0 late r still (le-ltb x.p (T - B + r) l),
    λ nowhere. (settles_never response_start).1 (λ r still near. nowhere r still (ltb-false x.p (T - B + r) near)),
  )

  -- "A true response is never 0."
  pub never_zero : 1 ≤ x.e → (r : ℕ) → settled_response T B above x ≡ some r → 1 ≤ T - B + r
  unfolding IsResponse
  never_zero some_cost r found =
      let still : next_response T B above x.e r ≡ r = ((response_exactly r).0 found).least.0 in
      let own = cost_least T B above x.e r in
      omega arith

  -- so 0 says late, and nothing else does
  pub zero_is_late : 1 ≤ x.e → (ticks_or_late T B (settled_response T B above x) ≡ 0) ↔ (settled_response T B above x ≡ none)
  zero_is_late some_cost = (λ zero. by (settled_response T B above x) refl zero, λ late. ap (ticks_or_late T B) late)
    where
      by : (a : Option ℕ) → settled_response T B above x ≡ a → ticks_or_late T B a ≡ 0 → settled_response T B above x ≡ none
      by none e zero = e
      by (some r) e zero = let more = never_zero some_cost r e in absurd (omega arith)

-- ---- the tasks of a table
module _ (part p e : List ℕ) where
  -- a task stands among its partition's own, after those before it in the table
  own_split : (m i : ℕ) → i < m → (later : List Work) × (own_tasks m part p e (part ! i) ≡ own_tasks i part p e (part ! i) ++ work p e i ∷ later)
  unfolding own_tasks
  own_split m i l =
      let split = those_split i m (λ j. eqb (part ! j) (part ! i)) l (eq-eqb (part ! i) (part ! i) refl) in
      (map (work p e) split.0, ap (map (work p e)) split.1 ∙ map-append (work p e) (those i (λ j. eqb (part ! j) (part ! i))) (i ∷ split.0))

  pub rank_is : (i : ℕ) → length (own_tasks i part p e (part ! i)) ≡ rank_of part i
  unfolding own_tasks rank_of
  rank_is i = length-map (those i (λ j. eqb (part ! j) (part ! i))) (work p e)

  -- what the ranks above ask for, task by task
  pub load_is : (T B i h c r : ℕ) → load T B (own_tasks i part p e h) c r ≡ c + sum_below i (λ j. cond (eqb (part ! j) h) (ceil (T - B + r) (p ! j) * e ! j) 0)
  unfolding load own_tasks
  load_is T B i h c r =
      ap (λ s. c + s)
      (ap total (map-map (λ (x : Work). ceil (T - B + r) x.p * x.e) (work p e) (those i (λ j. eqb (part ! j) h)))
      ∙ total-those (λ j. ceil (T - B + r) (p ! j) * e ! j) i (λ j. eqb (part ! j) h))

-- ---- the answer for a task
module _ (T B part p e : List ℕ) (i : ℕ) where
  -- T and B of its partition, and the tasks above it
  abbrev its_t : ℕ
  its_t = T ! (part ! i)

  abbrev its_b : ℕ
  its_b = B ! (part ! i)

  abbrev its_above : List Work
  its_above = own_tasks i part p e (part ! i)

  -- it is that of the task itself, below those before it
  pub response_in_place : (m : ℕ) → i < m → response_of_task T B m part p e i ≡ ticks_or_late its_t its_b (settled_response its_t its_b its_above (work p e i))
  unfolding response_of_task task_response
  response_in_place m l = ap₂ (λ (above : List Work) (x : Work). ticks_or_late its_t its_b (settled_response its_t its_b above x)) ranked own
    where
      split : (later : List Work) × (own_tasks m part p e (part ! i) ≡ its_above ++ work p e i ∷ later)
      split = own_split part p e m i l

      ranked : take (rank_of part i) (own_tasks m part p e (part ! i)) ≡ its_above
      ranked = ap (take (rank_of part i)) split.1 ∙ take_at its_above _ (rank_of part i) (rank_is part p e i)

      own : get_or (own_tasks m part p e (part ! i)) (rank_of part i) (record { p = 0; e = 0 }) ≡ work p e i
      own =
          ap₂ (λ (xs : List Work) (k : ℕ). get_or xs k (record { p = 0; e = 0 })) split.1 (sym (rank_is part p e i))
          ∙ get_or-append_seam its_above (work p e i) split.0 (record { p = 0; e = 0 })

  -- so the tasks after it don't count
  pub response_so_far : (m : ℕ) → i < m → response_of_task T B (suc i) part p e i ≡ response_of_task T B m part p e i
  response_so_far m l = response_in_place (suc i) (lt-suc_self i) ∙ sym (response_in_place m l)

  -- in range
  module _ (n m : ℕ) (tasks : TasksInRange n m part p e) (l : i < m) where
    some_cost : 1 ≤ e ! i
    some_cost = ((tasks_good n m part p e tasks).each i l).cost

    -- an answer that isn't 0 is T − B + r, for the least r that stands still, and is in time
    pub true_response : (R : ℕ) → response_of_task T B m part p e i ≡ R → (R ≡ 0 → ⊥) → (r : ℕ) × (R ≡ its_t - its_b + r) × OnTime its_t its_b its_above (work p e i) r
    true_response R is some-ticks = by (settled_response its_t its_b its_above (work p e i)) refl (sym (response_in_place m l) ∙ is)
      where
        by : (a : Option ℕ) → settled_response its_t its_b its_above (work p e i) ≡ a → ticks_or_late its_t its_b a ≡ R
            → (r : ℕ) × (R ≡ its_t - its_b + r) × OnTime its_t its_b its_above (work p e i) r
        by none d same = absurd (some-ticks (sym same))
        by (some r) d same = (r, sym same, (response_exactly its_t its_b its_above (work p e i) r).0 d)

    -- and 0 says that no r that stands still is in time
    pub late_response : (response_of_task T B m part p e i ≡ 0) ↔ ((r : ℕ) → next_response its_t its_b its_above (e ! i) r ≡ r → its_t - its_b + r ≤ p ! i → ⊥)
    late_response = (
      λ zero. (late_exactly its_t its_b its_above (work p e i)).0 ((zero_is_late its_t its_b its_above (work p e i) some_cost).0 (sym (response_in_place m l) ∙ zero)),
      λ nowhere. response_in_place m l ∙ (zero_is_late its_t its_b its_above (work p e i) some_cost).1 ((late_exactly its_t its_b its_above (work p e i)).1 nowhere),
    )

-- ---- a partition's own numbers alone
-- Two tables of any size, each with tasks: where a task's partition has the same T, B and tasks in both, and the task the same rank, it has the same response.
pub own_alone : (T B : List ℕ) (m : ℕ) (part p e : List ℕ) (i : ℕ) (T' B' : List ℕ) (m' : ℕ) (part' p' e' : List ℕ) (i' : ℕ)
    → T ! (part ! i) ≡ T' ! (part' ! i') → B ! (part ! i) ≡ B' ! (part' ! i')
    → own_tasks m part p e (part ! i) ≡ own_tasks m' part' p' e' (part' ! i') → rank_of part i ≡ rank_of part' i'
    → response_of_task T B m part p e i ≡ response_of_task T' B' m' part' p' e' i'
unfolding response_of_task
own_alone T B m part p e i T' B' m' part' p' e' i' t u own rank = rw (t, u, own, rank)

-- The tasks of partition h have the same entries in two tables: whatever the other entries are, so are its responses.
module _ (h m : ℕ) (part p e part' p' e' : List ℕ)
    (mine : (j : ℕ) → j < m → eqb (part ! j) h ≡ eqb (part' ! j) h)
    (gaps : (j : ℕ) → j < m → part ! j ≡ h → p ! j ≡ p' ! j)
    (costs : (j : ℕ) → j < m → part ! j ≡ h → e ! j ≡ e' ! j) where
  own_same : (k : ℕ) → k ≤ m → own_tasks k part p e h ≡ own_tasks k part' p' e' h
  unfolding own_tasks
  own_same k l =
      map-those_same {A = Work} k (λ j. eqb (part ! j) h) _ _ (λ j i on. same j (omega arith) (eqb-true (part ! j) h on))
      ∙ ap (map (work p' e')) (those_same k _ _ (λ j i. mine j (omega arith)))
    where
      same : (j : ℕ) → j < m → part ! j ≡ h → work p e j ≡ work p' e' j
      same j i on = ap₂ (λ (a c : ℕ). record { p = a; e = c }) (gaps j i on) (costs j i on)

  pub others_apart : (T B T' B' : List ℕ) → T ! h ≡ T' ! h → B ! h ≡ B' ! h → (i : ℕ) → i < m → part ! i ≡ h
      → response_of_task T B m part p e i ≡ response_of_task T' B' m part' p' e' i
  others_apart T B T' B' t u i l on =
      own_alone T B m part p e i T' B' m part' p' e' i
      (ap (λ k. T ! k) on ∙ t ∙ ap (λ k. T' ! k) (sym there))
      (ap (λ k. B ! k) on ∙ u ∙ ap (λ k. B' ! k) (sym there))
      (ap (own_tasks m part p e) on ∙ own_same m (le_refl m) ∙ ap (own_tasks m part' p' e') (sym there))
      (sym (rank_is part p e i) ∙ ap length (ap (own_tasks i part p e) on ∙ own_same i (omega arith) ∙ ap (own_tasks i part' p' e') (sym there)) ∙ rank_is part' p' e' i)
    where
      there : part' ! i ≡ h
      there = eqb-true (part' ! i) h (sym (mine i l) ∙ eq-eqb (part ! i) h on)
