-- The lines of the response printer's calls, joined, are the whole output: of every file, refused ones too.
use Prim.Native.Nat.{ℕ, zero, suc, ◌+◌, ◌-◌, ◌*◌, ◌≤◌, ◌<◌}
use mathlib.Core.Path.{◌≡◌, refl, sym, ◌∙◌, ap, subst}
use mathlib.Core.Bool.{Bool, true, false}
use mathlib.Core.List.{List, [], ◌∷◌, ◌++◌, append_assoc, append-nil}
use mathlib.Core.Option.{Option, none}
use native.Mathlib.Nat.{zero-add, add-zero}
use native.Mathlib.Numerals.{add-one}
use native.Mathlib.Omega.{arith}
use borrow.Author.Tests.{eqb-true, eqb-false, lt-ltb}
use lib.Dec.{eqb}
use lib.ListN.{length, length-append}
use Rattle.std.specs.Result.{IsOk, is_ok}
use Rattle.std.specs.declared.option.Option.{Option as Found}
use Rattle.std.specs.declared.option.Option.TheVariants.{Some, None}
use Rattle.std.specs.declared.result.Result.{Result}
use Rattle.std.specs.declared.result.Result.TheVariants.{Ok, Err}
use Rattle.basis.specs.Words.{◌!◌, onto}
use Rattle.rules.specs.TaskResponse.{rank_of, response_of_task}
use Rattle.rules.specs.Refusals.{Refused, ground, refusal}
use Rattle.file_rules.specs.MeterFile.{table_of, tasks_of}
use Rattle.file_rules.specs.Printers.{response_header, end_line, row_of, rows_of, response_output}
use Rattle.rules.specs.declared.Refusal.{Refusal}
use Rattle.rules.specs.declared.Table.{Table}
use Rattle.rules.specs.declared.Tasks.{Tasks}
use Rattle.laws.proofs.Numbers.{tasks_good}
use Rattle.verdicts.specs.Outcome.{gives}
use Rattle.verdicts.proofs.Outcomes.{given_as, never_both}
use Rattle.whole_file.specs.Promises.{Judged, JudgeFileIs}
use Rattle.whole_file.specs.declared.MeterFile.{MeterFile}
use Rattle.lines.specs.Lines.{bytes_of, longest_line}
use Rattle.lines.specs.declared.Line.TheVariants as line
use Rattle.lines.specs.declared.Made.{Made}
use Rattle.lines.proofs.Longest.{no_longer}
use Rattle.response_lines.specs.Coming.{Coming, plain, row, coming}
use Rattle.response_lines.specs.Promises.{OneLine, Printing, made_as, printed_as, printing, OneLineIs}
use Rattle.lines.specs.Promises as line_promises
use Rattle.response_lines.specs.declared.Cursor.{Cursor}
use Rattle.response_lines.specs.declared.Cursor.TheVariants as cursor
use Rattle.outputs.specs.ResponseMoments.{rows_left, rows_from, rows_to_write, RowAt}
use Rattle.outputs.specs.After.{lines_after, HoldsAfter, left_after}
use Rattle.outputs.specs.ResponseCalls.{Call, Lines, goes_on, ends, stops, ResponsePrinted}
use Rattle.outputs.specs.ResponseCalls as calls
use Rattle.outputs.proofs.LineInBuffer.{has_room, refused_written}
use Rattle.outputs.proofs.LineMade.{LineMade, line_last, line_then}
use Rattle.outputs.proofs.JudgedFile.{refused_outputs, output_good, holds, in_range, tasks_in_range}

-- neither 1 nor 9 nor 7
three_none : (x y z : Option ℕ) → x ≡ none → y ≡ none → z ≡ none → refusal (ground 1 x ∷ ground 9 y ∷ ground 7 z ∷ []) ≡ none
unfolding refusal
three_none x y z a b c = rw (a, b, c)

-- what a call made that gives a line
is_made : {n : ℕ} {next : Found Cursor} (r : Result (Made Cursor) Refusal) → made_as r ≡ gives (record { length = n; next = next }) → r ≡ Ok (record { length = n; next = next })
is_made (Ok made) e = ap (λ (x : OneLine Cursor). Ok (record { length = x.length; next = x.next })) (given_as e)
is_made (Err q) e = never_both (sym e)

module _ (t : Table) (k : Tasks) where
  -- ---- the rows from below and from above
  rows_meet : (n i : ℕ) → rows_of t k i ++ rows_from t k i n ≡ rows_of t k (i + n) ++ end_line k.count
  unfolding rows_from rows_of
  rows_meet zero i = ap (λ (j : ℕ). rows_of t k j ++ end_line k.count) (sym (add-zero i))
  rows_meet (suc n) i =
      sym (append_assoc (rows_of t k i) (row_of t k i) (rows_from t k (i + 1) n))
      ∙ ap (λ (j : ℕ). rows_of t k j ++ rows_from t k (i + 1) n) (sym (add-one i))
      ∙ rows_meet n (i + 1)
      ∙ ap (λ (j : ℕ). rows_of t k j ++ end_line k.count) counted
    where
      counted : i + 1 + n ≡ i + suc n
      counted = omega arith

  all-from_header : rows_to_write t k cursor.Header ≡ response_header ++ rows_of t k k.count ++ end_line k.count
  unfolding rows_to_write rows_of
  all-from_header =
      ap (λ (rows : List ℕ). response_header ++ rows) (rows_meet k.count 0 ∙ ap (λ (j : ℕ). rows_of t k j ++ end_line k.count) (zero-add k.count))
      ∙ sym (append_assoc response_header (rows_of t k k.count) (end_line k.count))

  -- ---- any line fits into 64 bytes
  row-short : (i : ℕ) → length (row_of t k i) ≤ longest_line
  unfolding bytes_of
  row-short i = no_longer (line.Response (k.partition ! i) (rank_of k.partition i) (response_of_task t.period t.budget k.count k.partition k.gap k.cost i))

  end_short : (count : ℕ) → length (end_line count) ≤ longest_line
  unfolding bytes_of
  end_short count = no_longer (line.End count)

  -- ---- one call
  module _ (c : Cursor) (call : Call t k c) where
    -- what a call does
    abbrev pub RowMade : Made Cursor → Type 0
    RowMade = LineMade (rows_to_write t k) (RowAt t k) (rows_left k) (rows_to_write t k c) (rows_left k c) call.buffer call.last

    -- one line, where what comes is known and nothing is against it
    one : (d : Coming) → coming t k c ≡ d → d.fault ≡ none → length d.line ≤ longest_line → RowAt t k c
        → rows_to_write t k c ≡ d.line ++ lines_after (rows_to_write t k) d.next → HoldsAfter (RowAt t k) d.next → left_after (rows_left k) d.next < rows_left k c
        → (made : Made Cursor) × (call.answer ≡ Ok made) × RowMade made
    unfolding line_promises.printing
    one d same fault short now all at nearer = (
      record { length = length d.line; next = d.next },
      is_made call.answer (ap (λ (x : Printing Cursor). x.says) said),
      record { bytes = d.line; short = short; count = refl; there = ap (λ (x : Printing Cursor). x.buffer) said; all = all; at = at; nearer = nearer },
    )
      where
        said : printed_as call.answer call.last ≡ record { says = gives (record { length = length d.line; next = d.next }); buffer = onto d.line call.buffer }
        said =
            subst (λ (x : Coming). OneLineIs t k x call.buffer call.answer call.last) same call.is
            ∙ ap (λ (o : Option Refused). printing o d call.buffer) (three_none _ _ _ now.table fault (has_room d.line call.buffer short call.room))

  -- a row, or the end
  task_made : (i : ℕ) (call : Call t k (cursor.Task i)) → RowAt t k (cursor.Task i) → (made : Made Cursor) × (call.answer ≡ Ok made) × RowMade (cursor.Task i) call made
  unfolding coming rows_to_write rows_left rows_from lines_after HoldsAfter left_after
  task_made i call now = go (eqb i k.count) refl
    where
      go : (a : Bool) → eqb i k.count ≡ a → (made : Made Cursor) × (call.answer ≡ Ok made) × RowMade (cursor.Task i) call made
      go true e =
          let last : i ≡ k.count = eqb-true i k.count e in
          one (cursor.Task i) call (plain t k (end_line k.count) None) (rw e) now.tasks (end_short k.count) now
          (ap (rows_from t k i) {x = k.count - i} {y = 0} (omega (arith, last)) ∙ sym (append-nil (end_line k.count))) tt (omega (arith, last))
      go false e =
          let least : i ≤ k.count = now.inside in
          let other : i ≡ k.count → ⊥ = eqb-false i k.count e in
          let below : i < k.count = omega (arith, least, other) in
          one (cursor.Task i) call (row t k i) (rw e) (rw (now.tasks, lt-ltb i k.count below)) (row-short i) now
          (ap (rows_from t k i) {x = k.count - i} {y = suc (k.count - (i + 1))} (omega (arith, below)))
          (record { table = now.table; tasks = now.tasks; inside = omega (arith, below) }) (omega (arith, below))

  went : (c : Cursor) (call : Call t k c) → RowAt t k c → (made : Made Cursor) × (call.answer ≡ Ok made) × RowMade c call made
  unfolding coming rows_to_write rows_left lines_after HoldsAfter left_after
  went cursor.Header call now =
      one cursor.Header call (plain t k response_header (Some (cursor.Task 0))) refl now.tasks (omega arith) now
      (ap (λ (n : ℕ). response_header ++ rows_from t k 0 n) {x = k.count} {y = k.count - 0} (omega arith))
      (record { table = now.table; tasks = now.tasks; inside = omega arith }) (omega arith)
  went (cursor.Task i) call now = task_made i call now

  -- no call is refused, and what its answer makes
  module _ (c : Cursor) (call : Call t k c) (now : RowAt t k c) where
    pub row_given : IsOk call.answer
    row_given = ap is_ok (went c call now).1

    pub row_made : (made : Made Cursor) → call.answer ≡ Ok made → RowMade c call made
    row_made made e = let same : (went c call now).0 ≡ made = let answer = (went c call now).1 in cc in subst (RowMade c call) same (went c call now).2

  -- ---- the calls from a cursor on write what is still to be written there
  joined : {c : Cursor} {output : List ℕ} → Lines t k c output → RowAt t k c → output ≡ rows_to_write t k c
  joined (goes_on {c} {rest} call made then e goes later) now = line_then _ _ _ _ _ call.buffer call.last made (row_made c call now made e) then goes rest (λ a. joined later a)
  joined (ends {c} call made e goes) now = line_last _ _ _ _ _ call.buffer call.last made (row_made c call now made e) goes
  joined (stops {c} {output} call q e written) now = let given = (went c call now).1 in cc

  -- ---- how much there can be to write
  rows_short : (n i : ℕ) → length (rows_from t k i n) ≤ 64 * (n + 1)
  unfolding rows_from
  rows_short zero i = end_short k.count
  rows_short (suc n) i =
      let all = length-append (row_of t k i) (rows_from t k (i + 1) n) in
      let row = row-short i in
      let rest = rows_short n (i + 1) in
      omega (arith, all, row, rest)

  pub little_rows : (c : Cursor) → RowAt t k c → length (rows_to_write t k c) ≤ 4224
  unfolding rows_to_write
  little_rows cursor.Header now =
      let few = (tasks_good t.count k.count k.partition k.gap k.cost now.tasks).not_many in
      let all = length-append response_header (rows_from t k 0 k.count) in
      let short = rows_short k.count 0 in
      omega (arith, few, all, short)
  little_rows (cursor.Task i) now =
      let few = (tasks_good t.count k.count k.partition k.gap k.cost now.tasks).not_many in
      let short = rows_short (k.count - i) i in
      omega (arith, few, short)

-- ---- the theorem
module _ (file : List ℕ) (m : MeterFile) (judged : JudgeFileIs file (Ok m)) where
  -- what holds at the header
  pub first_rows : RowAt m.table m.tasks cursor.Header
  first_rows =
      subst (λ (x : Judged). RowAt x.table x.tasks cursor.Header) (sym (holds file m judged))
      (record { table = in_range file m judged; tasks = tasks_in_range file m judged; inside = omega arith })

  -- all that is to be written
  pub all_rows : rows_to_write m.table m.tasks cursor.Header ≡ response_header ++ rows_of (table_of file) (tasks_of file) (tasks_of file).count ++ end_line (tasks_of file).count
  all_rows = ap (λ (x : Judged). rows_to_write x.table x.tasks cursor.Header) (holds file m judged) ∙ all-from_header (table_of file) (tasks_of file)

  -- is what the calls write
  pub rows_written : {output : List ℕ} → Lines m.table m.tasks cursor.Header output → output ≡ response_header ++ rows_of (table_of file) (tasks_of file) (tasks_of file).count ++ end_line (tasks_of file).count
  rows_written lines = joined m.table m.tasks lines first_rows ∙ all_rows

pub response_printed : (file : List ℕ) {output : List ℕ} → ResponsePrinted file output → output ≡ response_output file
unfolding response_output
response_printed file (calls.refused {output} q judged written) = refused_written q output written ∙ (refused_outputs file q judged).1
response_printed file (calls.printed m judged lines) = rows_written file m judged lines ∙ sym (output_good file m judged _)
