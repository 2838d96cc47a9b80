-- The rows of the response times, byte for byte: what the buffer holds and what is still to be written make the whole.
use Prim.Native.Nat.{ℕ, ◌+◌, ◌≤◌, ◌<◌}
use mathlib.Core.Path.{◌≡◌, refl, sym, ◌∙◌, ap, subst}
use mathlib.Core.List.{List, ◌++◌, append-nil}
use native.Mathlib.Omega.{arith}
use lib.ListN.{length, take, length-append}
use lib.Seq.{length-take-le}
use Rattle.std.specs.Result.{IsOk}
use Rattle.std.specs.declared.option.Option.{Option}
use Rattle.std.specs.declared.option.Option.TheVariants.{Some, None}
use Rattle.std.specs.declared.result.Result.{Result}
use Rattle.std.specs.declared.result.Result.TheVariants.{Ok}
use Rattle.file_rules.specs.Printers.{response_output}
use Rattle.rules.specs.declared.Refusal.{Refusal}
use Rattle.rules.specs.declared.Table.{Table}
use Rattle.rules.specs.declared.Tasks.{Tasks}
use Rattle.lines.specs.declared.Made.{Made}
use Rattle.response_lines.specs.Promises.{ResponseLineIs}
use Rattle.response_lines.specs.declared.Cursor.{Cursor}
use Rattle.response_lines.specs.declared.Cursor.TheVariants as cursor
use Rattle.outputs.proofs.LineInBuffer.{part_from, put_from, room_from}
use Rattle.outputs.proofs.LineMade.{line_put}
use Rattle.whole_file.specs.Promises.{JudgeFileIs}
use Rattle.whole_file.specs.declared.MeterFile.{MeterFile}
use Rattle.response_printing.specs.Promises.{RowsAre, PrintResponseIs}
use Rattle.outputs.proofs.JudgedFile.{output_good}
use Rattle.outputs.specs.ResponseCalls.{Call}
use Rattle.outputs.specs.ResponseMoments.{rows_to_write, RowAt, rows_left}
use Rattle.outputs.specs.After.{lines_after, HoldsAfter, left_after}
use Rattle.outputs.proofs.Response.{RowMade, row_given, row_made, little_rows, all_rows}

module _ (t : Table) (k : Tasks) where
  -- what the buffer holds and what is still to be written make all the rows
  pub record Rows (next : Option Cursor) (used : ℕ) (buffer : List ℕ) : Type 0 where
    pub long : length buffer ≡ 8192
    pub held : used ≤ length buffer
    pub at : HoldsAfter (RowAt t k) next
    pub all : take used buffer ++ lines_after (rows_to_write t k) next ≡ rows_to_write t k cursor.Header

  pub rows_begin : (buffer : List ℕ) → length buffer ≡ 8192 → RowAt t k cursor.Header → Rows (Some cursor.Header) 0 buffer
  unfolding lines_after HoldsAfter
  rows_begin buffer long at = record { long = long; held = omega arith; at = at; all = refl }

  module _ (next : Option Cursor) (used : ℕ) (buffer : List ℕ) (here : Rows next used buffer) where
    pub rows_end : next ≡ None → RowsAre t k buffer used
    unfolding lines_after
    rows_end e = (here.held, sym (append-nil (take used buffer)) ∙ ap (λ (o : Option Cursor). take used buffer ++ lines_after (rows_to_write t k) o) (sym e) ∙ here.all)

    module _ (c : Cursor) (goes : next ≡ Some c) where
      now : RowAt t k c
      unfolding HoldsAfter
      now = subst (HoldsAfter (RowAt t k)) goes here.at

      all : take used buffer ++ rows_to_write t k c ≡ rows_to_write t k cursor.Header
      unfolding lines_after
      all = ap (λ (o : Option Cursor). take used buffer ++ lines_after (rows_to_write t k) o) (sym goes) ∙ here.all

      -- there is room for what is still to be written
      few : used + length (rows_to_write t k c) ≤ 4224
      few =
          let most = little_rows t k cursor.Header (record { table = now.table; tasks = now.tasks; inside = omega arith }) in
          let sum = sym (length-append (take used buffer) (rows_to_write t k c)) ∙ ap length all in
          let held = length-take-le used buffer here.held in
          omega (arith, most, sum, held)

      -- a call that is lent the buffer from a place on: that what is held ends there is asked only where the bytes matter
      module _ (start : ℕ) (r : Result (Made Cursor) Refusal) (last : List ℕ) (is : ResponseLineIs t k c (part_from start buffer) r last) (near : start ≤ used) where
        call : Call t k c
        call =
            let long = here.long in
            let room = few in
            record { buffer = part_from start buffer; room = room_from start used buffer near (omega (arith, long, room)); answer = r; last = last; is = is }

        -- no row is refused
        pub given : IsOk r
        unfolding call
        given = row_given t k c call now

        module _ (made : Made Cursor) (e : r ≡ Ok made) where
          row : RowMade t k c call made
          unfolding call
          row = row_made t k c call now made e

          -- what it adds
          pub fits : used + made.length ≤ 4224
          fits =
              let room = few in
              let sum = ap length row.all ∙ length-append row.bytes (lines_after (rows_to_write t k) made.next) in
              let count = row.count in
              omega (arith, room, sum, count)

          pub added : start ≡ used → length (put_from start buffer last) ≡ length buffer → Rows made.next (used + made.length) (put_from start buffer last)
          unfolding call
          added there same_long =
              let long = here.long in
              let room = fits in
              record {
                long = same_long ∙ long;
                held = omega (arith, room, same_long, long);
                at = row.at;
                all = line_put _ _ _ _ _ start used buffer last made row there here.held ∙ all;
              }

          pub nearer : left_after (rows_left k) made.next < left_after (rows_left k) next
          unfolding left_after
          nearer = subst (λ (o : Option Cursor). left_after (rows_left k) made.next < left_after (rows_left k) o) (sym goes) row.nearer

-- the whole output
module _ (file : List ℕ) (m : MeterFile) (judged : JudgeFileIs file (Ok m)) (n : ℕ) (last : List ℕ) (are : RowsAre m.table m.tasks last n) where
  pub held_bytes : take n last ≡ response_output file
  unfolding response_output
  held_bytes = are.1 ∙ all_rows file m judged ∙ sym (output_good file m judged _)

  pub response_held : PrintResponseIs file n
  response_held = sym (length-take-le n last are.0) ∙ ap length held_bytes
