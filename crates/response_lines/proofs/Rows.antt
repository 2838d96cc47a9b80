-- The rank of a task, counted, and its row.
use Prim.Native.Nat.{ℕ, zero, suc, ◌+◌, ◌≤◌, ◌<◌}
use mathlib.Core.Path.{◌≡◌, refl, sym, ◌∙◌, ap}
use mathlib.Core.Bool.{Bool, true, false, cond}
use mathlib.Core.List.{List, [], ◌∷◌}
use mathlib.Core.Option.{Option, some, none}
use native.Mathlib.Omega.{arith}
use borrow.Author.Tests.{ltb-true}
use lib.Dec.{ltb, eqb}
use lib.ListN.{length, take, length-append}
use lib.Seq.{take-suc}
use Rattle.std.proofs.lemmas.List.Elements.{filter-append}
use Rattle.std.specs.declared.option.Option.TheVariants.{Some}
use Rattle.std.specs.declared.result.Result.{Result}
use Rattle.std.specs.declared.result.Result.TheVariants.{Ok, Err}
use Rattle.std.specs.List.{filter}
use Rattle.rules.specs.Records.{table_bad, tasks_or_index_bad}
use Rattle.basis.specs.Words.{◌!◌, has, those, or_else, unless}
use Rattle.rules.specs.Numbers.{first_bad_task}
use Rattle.file_rules.specs.Printers.{response_line}
use Rattle.rules.specs.Refusals.{Refused, refused_as, refusal}
use Rattle.rules.specs.TaskResponse.{rank_of, response_of_task}
use Rattle.rules.specs.declared.Refusal.{Refusal}
use Rattle.rules.specs.declared.Table.{Table}
use Rattle.rules.specs.declared.Tasks.{Tasks}
use Rattle.laws.proofs.Tests.{some_is_none, unless-none}
use Rattle.laws.proofs.Numbers.{tasks_good}
use Rattle.laws.proofs.Refusals.{no_ground}
use Rattle.verdicts.proofs.Outcomes.{was_refused, was_given}
use Rattle.responses.specs.Answers.{response_as}
use Rattle.responses.specs.Promises.{TaskResponseIs}
use Rattle.lines.specs.Lines.{bytes_of}
use Rattle.lines.specs.Promises.{PutLineIs}
use Rattle.lines.specs.declared.Made.{Made}
use Rattle.lines.specs.declared.Line.TheVariants as line
use Rattle.response_lines.specs.Coming.{row}
use Rattle.response_lines.specs.Promises.{RowIs}
use Rattle.response_lines.specs.declared.Cursor.TheVariants as cursor
use Rattle.response_lines.specs.declared.Cursor.{Cursor}
use Rattle.response_lines.proofs.Puts.{line_refused, line_put}

-- ---- the rank of task i, counted
module _ (part : List ℕ) (own : ℕ) where
  pub counted : (i : ℕ) → i ≤ length part → length (filter (λ p. eqb p own) (take i part)) ≡ length (those i (λ j. eqb (part ! j) own))
  unfolding those
  counted zero l = refl
  counted (suc i) l =
      ap (λ (ps : List ℕ). length (filter (λ p. eqb p own) ps)) (take-suc part i 0 (omega arith))
      ∙ ap length (filter-append (λ p. eqb p own) (take i part) (part ! i ∷ []))
      ∙ length-append (filter (λ p. eqb p own) (take i part)) _
      ∙ ap (λ n. n + length (filter (λ p. eqb p own) (part ! i ∷ []))) (counted i (omega arith))
      ∙ ap (λ n. length (those i (λ j. eqb (part ! j) own)) + n) (one (eqb (part ! i) own))
      ∙ sym (length-append (those i (λ j. eqb (part ! j) own)) _)
    where
      one : (b : Bool) → length (cond b (part ! i ∷ []) []) ≡ length (cond b (i ∷ []) [])
      one true = refl
      one false = refl

-- ---- the row of task i
module _ (t : Table) (k : Tasks) (i : ℕ) (x : Result ℕ Refusal) (e : TaskResponseIs t k i x) where
  abbrev first : Option Refused
  first = refusal (table_bad t ∷ tasks_or_index_bad t k i ∷ [])

  abbrev ticks : ℕ
  ticks = response_of_task t.period t.budget k.count k.partition k.gap k.cost i

  pub row_refused : (q : Refusal) → x ≡ Err q → (buffer : List ℕ) → RowIs t k i buffer (Err q) buffer
  row_refused q d buffer = line_refused t k (row t k i) buffer q (was_refused ticks first (refused_as q) (sym (ap response_as d) ∙ e))

  module _ (n : ℕ) (d : x ≡ Ok n) where
    given : (first ≡ none) × (n ≡ ticks)
    given = was_given ticks first n (sym (ap response_as d) ∙ e)

    -- a task that has a response is there
    pub row_there : i < 64
    unfolding has
    row_there = go (first_bad_task t.count k.count k.partition k.gap k.cost) refl (no_ground _ given.0 9 refl)
      where
        go : (o : Option ℕ) → first_bad_task t.count k.count k.partition k.gap k.cost ≡ o → or_else o (unless (ltb i k.count) i) ≡ none → i < 64
        go (some j) f h = some_is_none h
        go none f h =
            let few = (tasks_good t.count k.count k.partition k.gap k.cost f).not_many in
            let there = ltb-true i k.count (unless-none (ltb i k.count) i h) in
            omega arith

    pub row_put : (rank : ℕ) → rank ≡ rank_of k.partition i → (buffer : List ℕ) (r : Result (Made Cursor) Refusal) (last : List ℕ)
        → PutLineIs (line.Response (k.partition ! i) rank n) (Some (cursor.Task (i + 1))) buffer r last → RowIs t k i buffer r last
    unfolding bytes_of
    row_put rank same buffer = line_put t k (row t k i) buffer given.0 (line.Response (k.partition ! i) rank n) bytes
      where
        bytes : bytes_of (line.Response (k.partition ! i) rank n) ≡ response_line (k.partition ! i) (rank_of k.partition i) ticks
        bytes = λ j. response_line (k.partition ! i) (same j) (given.1 j)
