-- The weights of a list, one after the other.
use Prim.Native.Nat.{ℕ, suc, ◌+◌, ◌*◌, ◌≤◌, ◌<◌}
use mathlib.Core.Path.{◌≡◌, refl, sym, ◌∙◌, ap, ap₂}
use mathlib.Core.List.{List, [], ◌∷◌, ◌++◌, append_assoc}
use native.Mathlib.Nat.{le_of_lt, le_antisymm, add_assoc, add-zero, zero-add}
use native.Mathlib.Numerals.{add-one}
use native.Mathlib.Omega.{arith}
use lib.ListN.{length, set, take, drop}
use lib.Seq.{take-suc, take_all, length-take-le, drop-cons, set-append_seam}
use Rattle.basis.specs.Words.{◌!◌, total}
use Rattle.laws.proofs.Totals.{total-append}
use Rattle.draw.specs.Inner.{weight_of, weighed, Usable, ScalesAre}

-- ---- one more
module _ (b o : List ℕ) where
  weighed-next : (sum : ℕ) (xs : List ℕ) (c : ℕ) → weighed b o sum (xs ++ c ∷ []) ≡ weighed b o sum xs ++ weight_of b o (sum + total (weighed b o sum xs)) c ∷ []
  unfolding weighed total
  weighed-next sum [] c = ap (λ s. weight_of b o s c ∷ []) (sym (add-zero sum))
  weighed-next sum (x ∷ xs) c =
      ap (λ (ys : List ℕ). weight_of b o sum x ∷ ys)
      (weighed-next (sum + weight_of b o sum x) xs c
      ∙ ap (λ s. weighed b o (sum + weight_of b o sum x) xs ++ weight_of b o s c ∷ []) (add_assoc sum (weight_of b o sum x) _))

  pub weighed-length : (sum : ℕ) (xs : List ℕ) → length (weighed b o sum xs) ≡ length xs
  unfolding weighed
  weighed-length sum [] = refl
  weighed-length sum (x ∷ xs) = ap suc (weighed-length (sum + weight_of b o sum x) xs)

  -- the loop has come to i, and what stands in the places from there on is as it was
  pub record WeighedTo (list before : List ℕ) (i : ℕ) (ws : List ℕ) (sum : ℕ) : Type 0 where
    pub weights_are : ws ≡ weighed b o 0 (take i list) ++ drop i before
    pub sum_is : sum ≡ total (weighed b o 0 (take i list))
    pub most : sum ≤ i * 4294967296

  module _ (list before : List ℕ) (usable : Usable list) (long : length before ≡ 17) (i : ℕ) (ws : List ℕ) (sum : ℕ) (here : WeighedTo list before i ws sum) where
    pub weighing_on : (x y : ℕ) → i < length list → x < 4294967296 → x ≡ weight_of b o sum (list ! i) → y ≡ x → WeighedTo list before (i + 1) (set ws i x) (sum + y)
    unfolding total
    weighing_on x y l small e same =
        record {
          weights_are = (λ j. set (here.weights_are j) (at_end j) (x_is j)) ∙ seam ∙ sym (ap (λ (ys : List ℕ). ys ++ drop (i + 1) before) more);
          sum_is = ap₂ ◌+◌ here.sum_is (same ∙ x_is) ∙ sum_more;
          most = let most = here.most in omega arith;
        }
      where
        done : List ℕ
        done = weighed b o 0 (take i list)

        one : ℕ
        one = weight_of b o (total done) (list ! i)

        x_is : x ≡ one
        x_is = e ∙ ap (λ s. weight_of b o s (list ! i)) here.sum_is

        at_end : i ≡ length done
        at_end = sym (weighed-length 0 (take i list) ∙ length-take-le i list (le_of_lt l))

        seam : set (done ++ drop i before) (length done) one ≡ (done ++ one ∷ []) ++ drop (i + 1) before
        seam =
            ap (λ (ys : List ℕ). set (done ++ ys) (length done) one) (drop-cons before i 0 (let few = usable.few in omega arith))
            ∙ set-append_seam done (before ! i) (drop (suc i) before) one
            ∙ sym (append_assoc done (one ∷ []) (drop (suc i) before))
            ∙ ap (λ m. (done ++ one ∷ []) ++ drop m before) (sym (add-one i))

        more : weighed b o 0 (take (i + 1) list) ≡ done ++ one ∷ []
        more =
            ap (λ (xs : List ℕ). weighed b o 0 xs) (ap (λ m. take m list) (add-one i) ∙ take-suc list i 0 l)
            ∙ weighed-next 0 (take i list) (list ! i)
            ∙ ap (λ s. done ++ weight_of b o s (list ! i) ∷ []) (zero-add (total done))

        sum_more : total done + one ≡ total (weighed b o 0 (take (i + 1) list))
        sum_more = ap (λ y. total done + y) (sym (add-zero one)) ∙ sym (total-append done (one ∷ [])) ∙ sym (ap total more)

    pub weighing_ends : length list ≤ i → i ≤ length list → ScalesAre b o list before (record { weights = ws; sum = sum })
    weighing_ends l k =
        record {
          weights = here.weights_are ∙ (λ j. weighed b o 0 (whole j) ++ drop (last j) before);
          sum = here.sum_is ∙ ap (λ (xs : List ℕ). total (weighed b o 0 xs)) whole;
        }
      where
        whole : take i list ≡ list
        whole = take_all i list l

        last : i ≡ length (weighed b o 0 list)
        last = le_antisymm k l ∙ sym (weighed-length 0 list)
