-- From the search to what the calls say.
use Prim.Native.Nat.{ℕ}
use mathlib.Core.Path.{◌≡◌, sym, ◌∙◌, ap}
use mathlib.Core.Bool.{Bool, cond}
use mathlib.Core.List.{List, []}
use mathlib.Core.Option.{Option, none}
use borrow.Author.Tests.{le-leb}
use lib.ListN.{take}
use Rattle.std.specs.declared.result.Result.{Result}
use Rattle.std.specs.declared.result.Result.TheVariants.{Ok, Err}
use Rattle.basis.specs.Words.{has}
use Rattle.rules.specs.Candidates.{candidates, inversion}
use Rattle.rules.specs.Refusals.{Refused}
use Rattle.rules.specs.declared.Pairs.{Pairs}
use Rattle.rules.specs.declared.Refusal.{Refusal}
use Rattle.rules.specs.declared.Table.{Table}
use Rattle.verdicts.proofs.Verdicts.{verdict_refused, verdict_good}
use Rattle.pairs.specs.Promises.{JudgeIs}
use Rattle.pairs.proofs.Good.{few_of_state}
use Rattle.busy.specs.Promises.{Found, SearchIs}
use Rattle.busy.proofs.Listed.{found_list}
use Rattle.candidates.specs.Promises.{MemberIs, listing, CandidatesIs}

module _ (t : Table) (p : Pairs) (r : Found) (found : SearchIs t p r) where
  pub member_is : (pick : ℕ) (a : Bool) → a ≡ has (take r.length r.list) pick → MemberIs t p pick a
  member_is pick a e = e ∙ ap (λ (xs : List ℕ). has xs pick) (found_list _ _ _ _ _ r found)

module _ (t : Table) (p : Pairs) (v : Result Unit Refusal) (judged : JudgeIs t p v) where
  pub list_refused : (r : Refusal) → v ≡ Err r → CandidatesIs t p (Err r)
  unfolding listing
  list_refused r d = ap (λ (x : Option Refused). listing x (candidates t.count t.period t.budget p.b p.o inversion)) (sym (verdict_refused v r d) ∙ judged)

  pub list_given : v ≡ Ok tt → (r : Found) → SearchIs t p r → CandidatesIs t p (Ok (record { list = r.list; length = r.length }))
  unfolding listing
  list_given d r found =
      (λ i. record { list = found.list i; length = found.length i; refused = none })
      ∙ ap (λ (a : Bool). listing none (cond a (candidates t.count t.period t.budget p.b p.o inversion) [])) (le-leb t.count 16 (few_of_state _ _ _ _ _ _ v judged d))
      ∙ ap (λ (x : Option Refused). listing x (candidates t.count t.period t.budget p.b p.o inversion)) (sym (verdict_good v d) ∙ judged)
