-- The running sum of the weights, until it exceeds the position.
use Prim.Native.Nat.{ℕ, ◌+◌, ◌*◌, ◌≤◌, ◌<◌}
use mathlib.Core.Path.{◌≡◌, refl, sym, ◌∙◌, ap, ap₂}
use mathlib.Core.Bool.{cond}
use mathlib.Core.List.{List, [], ◌∷◌, ◌++◌}
use native.Mathlib.Numerals.{add-one}
use native.Mathlib.Omega.{arith}
use borrow.Author.Tests.{lt-ltb, le-ltb}
use lib.Dec.{ltb}
use lib.ListN.{length, drop, get_or}
use lib.Seq.{drop-cons}
use Rattle.std.proofs.lemmas.List.{drop_all}
use Rattle.basis.specs.Words.{◌!◌, total}
use Rattle.rules.specs.Candidates.{idle}
use Rattle.rules.specs.Pick.{first_exceeding}

module _ (list ws : List ℕ) (at : ℕ) where
  -- the loop has come to i
  pub record RunTo (i running : ℕ) : Type 0 where
    pub same : first_exceeding at running (drop i list) (drop i ws) ≡ first_exceeding at 0 list ws
    pub most : running ≤ i * 4294967296

  module _ (i running : ℕ) (here : RunTo i running) where
    module _ (c x : ℕ) (turn : (i < length list) × (i < length ws) × ((d : ℕ) → c ≡ get_or list i d) × ((d : ℕ) → x ≡ get_or ws i d)) where
      opened : (xs : List ℕ) (y : ℕ) → i < length xs → y ≡ xs ! i → drop i xs ≡ y ∷ drop (i + 1) xs
      opened xs y k e = drop-cons xs i 0 k ∙ ap₂ (λ (z j : ℕ). z ∷ drop j xs) (sym e) (sym (add-one i))

      step : first_exceeding at 0 list ws ≡ cond (ltb at (running + x)) c (first_exceeding at (running + x) (drop (i + 1) list) (drop (i + 1) ws))
      unfolding first_exceeding
      step = sym here.same ∙ ap₂ (λ (cs xs : List ℕ). first_exceeding at running cs xs) (opened list c turn.0 (turn.2 0)) (opened ws x turn.1 (turn.3 0))

      pub run-exceeds : at < running + x → c ≡ first_exceeding at 0 list ws
      run-exceeds more = sym (step ∙ rw (lt-ltb at (running + x) more))

      pub run_on : ((j : ℕ) → ws ! j < 4294967296) → (y : ℕ) → y ≡ x → running + y ≤ at → (next : ℕ) → next ≡ i + 1 → RunTo next (running + y)
      run_on small y as_read less next one_more =
          let most = here.most in
          let fits = small i in
          let is = turn.3 0 in
          record {
            same = rw (one_more, as_read) (sym (step ∙ rw (le-ltb at (running + x) (omega arith))));
            most = omega arith;
          }

    pub run_ends : length list ≤ i → 255 ≡ first_exceeding at 0 list ws
    unfolding first_exceeding
    run_ends l = sym (ap (λ (cs : List ℕ). first_exceeding at running cs (drop i ws)) (drop_all i list l)) ∙ here.same

-- weights beyond the list are not seen
pub rest_unseen : (at running : ℕ) (cs xs ys : List ℕ) → length cs ≡ length xs → first_exceeding at running cs (xs ++ ys) ≡ first_exceeding at running cs xs
unfolding first_exceeding
rest_unseen at running [] xs ys same = refl
rest_unseen at running (c ∷ cs) [] ys same = absurd (omega arith)
rest_unseen at running (c ∷ cs) (x ∷ xs) ys same = ap (λ (later : ℕ). cond (ltb at (running + x)) c later) (rest_unseen at (running + x) cs xs ys (omega arith))

-- a list that weighs nothing has no pick: idle
pub weightless : (at : ℕ) (cs xs : List ℕ) → total xs ≡ 0 → first_exceeding at 0 cs xs ≡ idle
unfolding first_exceeding total
weightless at [] xs e = refl
weightless at (c ∷ cs) [] e = refl
weightless at (c ∷ cs) (x ∷ xs) e =
    let none_here : 0 + x ≡ 0 = omega arith in
    rw (none_here, le-ltb at 0 (omega arith)) (weightless at cs xs (omega arith))
