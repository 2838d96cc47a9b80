-- From the list and its weights to what the calls say.
use Prim.Native.Nat.{ℕ, ◌+◌, ◌≤◌, ◌<◌}
use mathlib.Core.Path.{◌≡◌, refl, sym, ◌∙◌, ap, subst}
use mathlib.Core.Bool.{Bool, true, false, cond}
use mathlib.Core.List.{List, [], ◌∷◌, ◌++◌, map}
use mathlib.Core.Logic.{◌⊎◌, inl, inr, ⊎_elim}
use mathlib.Core.Option.{Option, some, none}
use native.Mathlib.Nat.{add_assoc, add-zero, zero-add}
use native.Mathlib.Omega.{arith}
use borrow.Author.Tests.{eq-eqb, ne_eqb, le-leb, lt-leb, leb-true, lt-ltb}
use lib.Dec.{eqb, leb}
use lib.ListN.{length, replicate, take, drop}
use Rattle.std.specs.declared.result.Result.{Result}
use Rattle.std.specs.declared.result.Result.TheVariants.{Ok, Err}
use Rattle.std.proofs.lemmas.List.{drop-replicate}
use Rattle.basis.specs.Words.{◌!◌, has, total, padded, onto}
use Rattle.rules.specs.Candidates.{members, idle_listed, candidates, idle, inversion}
use Rattle.rules.specs.Weights.{weight, idle_weight, member_weights, weights}
use Rattle.rules.specs.Pick.{position, first_exceeding, S, decision}
use Rattle.rules.specs.Refusals.{Refused, no_word, refusal}
use Rattle.rules.specs.Records.{table_bad, pairs_bad}
use Rattle.rules.specs.declared.Pairs.{Pairs}
use Rattle.rules.specs.declared.Refusal.{Refusal}
use Rattle.rules.specs.declared.Refusal.TheVariants.{NoWord}
use Rattle.rules.specs.declared.Table.{Table}
use Rattle.laws.proofs.Tests.{or_left, or_right, below_or_not}
use Rattle.laws.proofs.Places.{has_entry}
use Rattle.laws.proofs.Candidates.{member_listed, candidate_cases}
use Rattle.laws.proofs.Refusals.{four, late_last}
use Rattle.verdicts.specs.Outcome.{gives, unless_refused}
use Rattle.verdicts.proofs.Verdicts.{verdict_refused, verdict_good, refused_early}
use Rattle.verdicts.proofs.Outcomes.{late_decides}
use Rattle.pairs.specs.Promises.{JudgeIs}
use Rattle.pairs.proofs.Good.{few_of_state}
use Rattle.busy.specs.Promises.{Found, candidates_of, SearchIs}
use Rattle.busy.proofs.Listed.{found_few, found_list}
use Rattle.draw.specs.Inner.{weight_of, weighed, Usable, Scales, ScalesAre}
use Rattle.draw.specs.Promises.{ChooseIs, weighing, WeightsAre, DecideIs}
use Rattle.draw.proofs.Weighing.{weighed-length}
use Rattle.draw.proofs.Running.{rest_unseen, weightless}

-- ---- weighed from the front, the candidates weigh what the rule says
module _ (b o : List ℕ) where
  partitions_weigh : (sum : ℕ) (xs ys : List ℕ) → ((c : ℕ) → has xs c ≡ true → c ≡ idle → ⊥)
      → weighed b o sum (xs ++ ys) ≡ map (weight b o) xs ++ weighed b o (sum + total (map (weight b o) xs)) ys
  unfolding weighed weight_of total has
  partitions_weigh sum [] ys other = ap (λ s. weighed b o s ys) (sym (add-zero sum))
  partitions_weigh sum (x ∷ xs) ys other =
      rw (ne_eqb x idle (other x (or_left _ (eq-eqb x x refl))))
      (ap (λ (zs : List ℕ). weight b o x ∷ zs)
      (partitions_weigh (sum + weight b o x) xs ys (λ c p. other c (or_right (eqb c x) p))
      ∙ ap (λ s. map (weight b o) xs ++ weighed b o s ys) (add_assoc sum (weight b o x) _)))

module _ (n : ℕ) (T B b o : List ℕ) where
  candidates_weigh : n ≤ 16 → weighed b o 0 (candidates n T B b o inversion) ≡ weights n T B b o inversion
  unfolding candidates weights member_weights weighed weight_of
  candidates_weigh few =
      partitions_weigh b o 0 (members n T B b o inversion) _ other
      ∙ ap (λ (zs : List ℕ). map (weight b o) (members n T B b o inversion) ++ zs)
      (ap (λ s. weighed b o s (cond (idle_listed n T B b o inversion) (idle ∷ []) [])) (zero-add _) ∙ last (idle_listed n T B b o inversion) _)
    where
      other : (c : ℕ) → has (members n T B b o inversion) c ≡ true → c ≡ idle → ⊥
      other c p e = let there = (member_listed n T B b o inversion c p).there in omega arith

      last : (a : Bool) (sum : ℕ) → weighed b o sum (cond a (idle ∷ []) []) ≡ cond a (idle_weight sum ∷ []) []
      last true sum = refl
      last false sum = refl

-- ---- the list that the search found, and its weights
module _ (t : Table) (p : Pairs) where
  -- the candidates, and what they weigh
  abbrev listed : List ℕ
  listed = candidates_of t.count t.period t.budget p.b p.o

  abbrev scaled : List ℕ
  scaled = weighed p.b p.o 0 listed

  module _ (few : t.count ≤ 16) where
    listed_whole : listed ≡ candidates t.count t.period t.budget p.b p.o inversion
    listed_whole = ap (λ (a : Bool). cond a (candidates t.count t.period t.budget p.b p.o inversion) []) (le-leb t.count 16 few)

    scaled_whole : scaled ≡ weights t.count t.period t.budget p.b p.o inversion
    scaled_whole = ap (λ (cs : List ℕ). weighed p.b p.o 0 cs) listed_whole ∙ candidates_weigh t.count t.period t.budget p.b p.o few

  module _ (r : Found) (found : SearchIs t p r) where
    used : take r.length r.list ≡ listed
    used = found_list _ _ _ _ _ r found

    -- the list can be weighed: every entry is an index, or idle
    pub usable : Usable (take r.length r.list)
    usable = subst Usable (sym used) (record { few = let few = found_few _ _ _ _ _ r found in let same = found.length in omega arith; each = entry (leb t.count 16) refl })
      where
        entry : (a : Bool) → leb t.count 16 ≡ a → (i : ℕ) → i < length (cond a (candidates t.count t.period t.budget p.b p.o inversion) [])
            → (cond a (candidates t.count t.period t.budget p.b p.o inversion) [] ! i < 16) ⊎ (cond a (candidates t.count t.period t.budget p.b p.o inversion) [] ! i ≡ idle)
        entry true e i l =
            ⊎_elim (λ m. let there = m.there in let few = leb-true t.count 16 e in inl (omega arith)) (λ m. inr m.0)
            (candidate_cases t.count t.period t.budget p.b p.o inversion (candidates t.count t.period t.budget p.b p.o inversion ! i) (has_entry (candidates t.count t.period t.budget p.b p.o inversion) i l))
        entry false e i l = absurd (omega arith)

    module _ (s : Scales) (scales : ScalesAre p.b p.o (take r.length r.list) (replicate 17 0) s) where
      weights_are : s.weights ≡ onto scaled (replicate 17 0)
      weights_are = scales.weights ∙ ap (λ (cs : List ℕ). onto (weighed p.b p.o 0 cs) (replicate 17 0)) used

      sum_is : s.sum ≡ total scaled
      sum_is = scales.sum ∙ ap (λ (cs : List ℕ). total (weighed p.b p.o 0 cs)) used

      -- the decision over the list and its weights
      drawn : (word : ℕ) → t.count ≤ 16 → first_exceeding (position word s.sum) 0 listed scaled ≡ cond (leb t.count 16) (decision t.count t.period t.budget p.b p.o word) idle
      unfolding decision S
      drawn word few =
          (λ i. first_exceeding (position word (all_of_it i)) 0 (listed_whole few i) (scaled_whole few i))
          ∙ sym (ap (λ (a : Bool). cond a (decision t.count t.period t.budget p.b p.o word) idle) (le-leb t.count 16 few))
        where
          all_of_it : s.sum ≡ total (weights t.count t.period t.budget p.b p.o inversion)
          all_of_it = sum_is ∙ ap total (scaled_whole few)

      -- a sum of 0: no word picks anybody
      pub draws_idle : (word : ℕ) → s.sum ≡ 0 → ChooseIs t p word 255
      draws_idle word e = ⊎_elim many few (below_or_not 16 t.count)
        where
          few : t.count ≤ 16 → ChooseIs t p word 255
          few l = sym (weightless (position word s.sum) listed scaled (sym sum_is ∙ e)) ∙ drawn word l

          many : 16 < t.count → ChooseIs t p word 255
          many l = sym (ap (λ (a : Bool). cond a (decision t.count t.period t.budget p.b p.o word) idle) (lt-leb t.count 16 l))

      pub draws : (word at pick : ℕ) → (s.sum ≡ 0 → ⊥) → at ≡ position word s.sum → pick ≡ first_exceeding at 0 (take r.length r.list) s.weights → ChooseIs t p word pick
      unfolding weighed total
      draws word at pick some-weight there e =
          e
          ∙ (λ i. first_exceeding (there i) 0 (used i) (weights_are i))
          ∙ rest_unseen (position word s.sum) 0 listed scaled (drop (length scaled) (replicate 17 0)) (sym (weighed-length p.b p.o 0 listed))
          ∙ ⊎_elim many (drawn word) (below_or_not 16 t.count)
        where
          many : 16 < t.count → first_exceeding (position word s.sum) 0 listed scaled ≡ cond (leb t.count 16) (decision t.count t.period t.budget p.b p.o word) idle
          many l = absurd (some-weight (sum_is ∙ ap (λ (a : Bool). total (weighed p.b p.o 0 (cond a (candidates t.count t.period t.budget p.b p.o inversion) []))) (lt-leb t.count 16 l) ∙ nothing))
            where
              nothing : total (weighed p.b p.o 0 []) ≡ 0
              nothing = refl

      module _ (v : Result Unit Refusal) (judged : JudgeIs t p v) (d : v ≡ Ok tt) where
        pub weights_given : WeightsAre t p (Ok (record { list = r.list; weights = s.weights; length = r.length }))
        unfolding weighing padded
        weights_given =
            (λ i. record { list = found.list i; weights = in_places i; length = found.length i; refused = none })
            ∙ (λ i. record { list = padded 17 (listed_whole few i); weights = padded 17 (scaled_whole few i); length = length (listed_whole few i); refused = none })
            ∙ ap (λ (x : Option Refused). weighing x (candidates t.count t.period t.budget p.b p.o inversion) (weights t.count t.period t.budget p.b p.o inversion)) (sym (verdict_good v d) ∙ judged)
          where
            few : t.count ≤ 16
            few = few_of_state _ _ _ _ _ _ v judged d

            in_places : s.weights ≡ padded 17 scaled
            in_places = weights_are ∙ ap (λ (xs : List ℕ). scaled ++ xs) (drop-replicate (length scaled) 17 0)

-- ---- what is chosen is the decision, wherever a count has been judged
pub chosen : (n : ℕ) (T B b o : List ℕ) (word pick : ℕ) → n ≤ 16 → pick ≡ cond (leb n 16) (decision n T B b o word) idle → pick ≡ decision n T B b o word
chosen n T B b o word pick few e = e ∙ ap (λ (a : Bool). cond a (decision n T B b o word) idle) (le-leb n 16 few)

-- ---- the refusals
module _ (t : Table) (p : Pairs) (v : Result Unit Refusal) (judged : JudgeIs t p v) where
  pub weights-refused : (r : Refusal) → v ≡ Err r → WeightsAre t p (Err r)
  unfolding weighing
  weights-refused r d =
      ap (λ (x : Option Refused). weighing x (candidates t.count t.period t.budget p.b p.o inversion) (weights t.count t.period t.budget p.b p.o inversion)) (sym (verdict_refused v r d) ∙ judged)

  module _ (words : List ℕ) where
    says : (r : Option Refused) → refusal (table_bad t ∷ pairs_bad t p.b p.o ∷ no_word words ∷ []) ≡ r
        → unless_refused r (decision t.count t.period t.budget p.b p.o (words ! 0)) ≡ unless_refused (refusal (table_bad t ∷ pairs_bad t p.b p.o ∷ no_word words ∷ [])) (decision t.count t.period t.budget p.b p.o (words ! 0))
    says r e = ap (λ (x : Option Refused). unless_refused x (decision t.count t.period t.budget p.b p.o (words ! 0))) (sym e)

    pub decision-refused : (r : Refusal) → v ≡ Err r → DecideIs t p words (Err r)
    unfolding unless_refused
    decision-refused r d = says _ (refused_early (late_last _ _ _ four) v judged r d)

    -- the first word, if there is one
    pub decision_wordless : v ≡ Ok tt → length words ≡ 0 → DecideIs t p words (Err NoWord)
    unfolding unless_refused
    decision_wordless d e = says _ (late_decides _ _ _ four v judged d (some 0) (rw e))

    pub decision-made : (word pick : ℕ) → v ≡ Ok tt → 0 < length words → word ≡ words ! 0 → ChooseIs t p word pick → DecideIs t p words (Ok pick)
    unfolding unless_refused
    decision-made word pick d some_there same e =
        ap gives (chosen _ _ _ _ _ word pick (few_of_state _ _ _ _ _ _ v judged d) e ∙ ap (λ w. decision t.count t.period t.budget p.b p.o w) same)
        ∙ says none (late_decides _ _ _ four v judged d none (rw (lt-ltb 0 (length words) some_there)))
