-- A run: the fold of its steps, each of its picks in the list of that moment.
use Prim.Native.Nat.{ℕ, zero, suc, ◌<◌}
use mathlib.Core.Path.{◌≡◌, refl, ap}
use mathlib.Core.Bool.{true}
use mathlib.Core.List.{List, [], ◌∷◌, ◌++◌}
use native.Mathlib.Nat.{le_of_suc-le-suc}
use native.Mathlib.Omega.{arith}
use lib.ListN.{length, take}
use Rattle.basis.specs.Words.{◌!◌, has}
use Rattle.rules.specs.Numbers.{TableInRange, StateInRange}
use Rattle.rules.specs.declared.Pairs.{Pairs}
use Rattle.rules.specs.Candidates.{candidates, inversion}
use Rattle.rules.specs.Pick.{decision}
use Rattle.rules.specs.Tick.{tick}
use Rattle.rules.specs.Run.{Ran, run}
use Rattle.laws.proofs.Pick.{decision_listed}
use Rattle.laws.proofs.Keeps.{tick_in_range}

module _ (n : ℕ) (T B : List ℕ) where
  -- "No words: no ticks, and the state comes back."
  pub run_nothing : (s : Pairs) → run n T B s [] ≡ record { picks = []; after = s }
  unfolding run
  run_nothing s = refl

  -- one run after another is one run over all their words
  pub run-append : (s : Pairs) (xs ys : List ℕ)
      → run n T B s (xs ++ ys) ≡ record { picks = (run n T B s xs).picks ++ (run n T B (run n T B s xs).after ys).picks; after = (run n T B (run n T B s xs).after ys).after }
  unfolding run
  run-append s [] ys = refl
  run-append s (x ∷ xs) ys =
      ap (λ (r : Ran). record { picks = decision n T B s.b s.o x ∷ r.picks; after = r.after })
      (run-append (tick n T B s.b s.o (decision n T B s.b s.o x)) xs ys)

  -- one more word is one more decision and its tick
  pub run-next : (s : Pairs) (xs : List ℕ) (word : ℕ) → let now : Pairs = (run n T B s xs).after in
      run n T B s (xs ++ word ∷ [])
      ≡ record { picks = (run n T B s xs).picks ++ decision n T B now.b now.o word ∷ []; after = tick n T B now.b now.o (decision n T B now.b now.o word) }
  unfolding run
  run-next s xs word = run-append s xs (word ∷ [])

  -- a pick for each word
  pub run_length : (s : Pairs) (words : List ℕ) → length (run n T B s words).picks ≡ length words
  unfolding run
  run_length s [] = refl
  run_length s (word ∷ words) = ap suc (run_length (tick n T B s.b s.o (decision n T B s.b s.o word)) words)

  module _ (phase : List ℕ) (t : TableInRange n T B phase) where
    -- a run keeps a state in range
    pub run_in_range : (s : Pairs) (words : List ℕ) → StateInRange n T B s.b s.o → StateInRange n T B (run n T B s words).after.b (run n T B s words).after.o
    unfolding run
    run_in_range s [] here = here
    run_in_range s (word ∷ words) here = run_in_range (tick n T B s.b s.o (decision n T B s.b s.o word)) words (tick_in_range n T B phase t s.b s.o _ here)

    -- each pick is in the list of its moment: of the state that the words before it led to
    pub run_listed : (s : Pairs) (words : List ℕ) → StateInRange n T B s.b s.o → (i : ℕ) → i < length words
        → let now : Pairs = (run n T B s (take i words)).after in has (candidates n T B now.b now.o inversion) ((run n T B s words).picks ! i) ≡ true
    unfolding run
    run_listed s [] here i l = absurd (omega arith)
    run_listed s (word ∷ words) here zero l = decision_listed n T B phase s.b s.o t here word
    run_listed s (word ∷ words) here (suc i) l =
        run_listed (tick n T B s.b s.o (decision n T B s.b s.o word)) words (tick_in_range n T B phase t s.b s.o _ here) i (le_of_suc-le-suc l)
