-- The loop of a run: the picks so far, the rest of the buffer as it was, and the state that the words so far lead to.
use Prim.Native.Nat.{ℕ, suc, ◌+◌, ◌≤◌, ◌<◌}
use mathlib.Core.Path.{◌≡◌, refl, sym, ◌∙◌, ap, ap₂}
use mathlib.Core.List.{List, [], ◌∷◌, ◌++◌, append_assoc}
use native.Mathlib.Nat.{le_of_lt, le_antisymm}
use native.Mathlib.Numerals.{add-one}
use native.Mathlib.Omega.{arith}
use lib.ListN.{length, set, take, drop, length-set}
use lib.Seq.{take-suc, drop-cons, set-append_seam, take_all, length-take-le}
use Rattle.basis.specs.Words.{◌!◌}
use Rattle.rules.specs.declared.Pairs.{Pairs}
use Rattle.rules.specs.declared.Table.{Table}
use Rattle.rules.specs.Pick.{decision}
use Rattle.rules.specs.Tick.{tick}
use Rattle.rules.specs.Run.{Ran, run}
use Rattle.laws.proofs.Run.{run-next, run_length}
use Rattle.draw.proofs.Calls.{chosen}
use Rattle.scheduler.specs.States.{pairs}
use Rattle.runs.specs.Promises.{DrawnIs, Filled}
use Rattle.scheduler.specs.declared.State.{State}

module _ (t : Table) (s : State) (words buffer : List ℕ) where
  -- the run over the first i words
  abbrev up_to : ℕ → Ran
  up_to i = run t.count t.period t.budget (pairs s) (take i words)

  pub record RanTo (i : ℕ) (now : Pairs) (picks : List ℕ) : Type 0 where
    pub after : now ≡ (run t.count t.period t.budget (pairs s) (take i words)).after
    pub filled : picks ≡ (run t.count t.period t.budget (pairs s) (take i words)).picks ++ drop i buffer
    pub long : length picks ≡ length buffer

  pub run_begins : RanTo 0 (pairs s) buffer
  unfolding run
  run_begins = record { after = refl; filled = refl; long = refl }

  module _ (i : ℕ) (now : Pairs) (picks : List ℕ) (here : RanTo i now picks) where
    module _ (few : t.count ≤ 16) (fits : length words ≤ length buffer) (l : i < length words) (pick : ℕ) (next : Pairs) (drawn : DrawnIs t now (words ! i) pick next) where
      one_more : run t.count t.period t.budget (pairs s) (take (i + 1) words) ≡ record { picks = (up_to i).picks ++ pick ∷ []; after = tick t.count t.period t.budget now.b now.o pick }
      one_more =
          ap (λ (ws : List ℕ). run t.count t.period t.budget (pairs s) ws) (ap (λ m. take m words) (add-one i) ∙ take-suc words i 0 l)
          ∙ run-next t.count t.period t.budget (pairs s) (take i words) (words ! i)
          ∙ sym (moved here.after)
        where
          made : Pairs → ℕ → Ran
          made p d = record { picks = (up_to i).picks ++ d ∷ []; after = tick t.count t.period t.budget p.b p.o d }

          moved : now ≡ (up_to i).after → made now pick ≡ made (up_to i).after (decision t.count t.period t.budget (up_to i).after.b (up_to i).after.o (words ! i))
          moved e =
              ap (made now) (chosen t.count t.period t.budget now.b now.o (words ! i) pick few drawn.choice)
              ∙ ap (λ (p : Pairs). made p (decision t.count t.period t.budget p.b p.o (words ! i))) e

      pub run_goes_on : RanTo (i + 1) next (set picks i pick)
      run_goes_on =
          record {
            after = drawn.passed ∙ sym (ap (λ (r : Ran). r.after) one_more);
            filled =
                (λ j. set (here.filled j) (at_end j) pick)
                ∙ ap (λ (xs : List ℕ). set ((up_to i).picks ++ xs) (length (up_to i).picks) pick) (drop-cons buffer i 0 (omega arith))
                ∙ set-append_seam (up_to i).picks (buffer ! i) (drop (suc i) buffer) pick
                ∙ sym (append_assoc (up_to i).picks (pick ∷ []) (drop (suc i) buffer))
                ∙ ap₂ (λ (xs : List ℕ) (m : ℕ). xs ++ drop m buffer) (sym (ap (λ (r : Ran). r.picks) one_more)) (sym (add-one i));
            long = length-set picks i pick ∙ here.long;
          }
        where
          at_end : i ≡ length (up_to i).picks
          at_end = sym (run_length t.count t.period t.budget (pairs s) (take i words) ∙ length-take-le i words (le_of_lt l))

    pub run_ends : (f : State) → pairs f ≡ now → length words ≤ i → i ≤ length words → Filled t s words buffer f picks
    run_ends f e l k = record { after = e ∙ here.after ∙ ap (λ (r : Ran). r.after) whole; picks = here.filled ∙ ap₂ (λ (xs : List ℕ) (m : ℕ). xs ++ drop m buffer) (ap (λ (r : Ran). r.picks) whole) counted }
      where
        whole : run t.count t.period t.budget (pairs s) (take i words) ≡ run t.count t.period t.budget (pairs s) words
        whole = ap (λ (ws : List ℕ). run t.count t.period t.budget (pairs s) ws) (take_all i words l)

        counted : i ≡ length (run t.count t.period t.budget (pairs s) words).picks
        counted = le_antisymm k l ∙ sym (run_length t.count t.period t.budget (pairs s) words)
