-- From a line to what comes at the cursor.
use Prim.Native.Nat.{ℕ}
use mathlib.Core.Path.{◌≡◌, sym, ◌∙◌, ap}
use mathlib.Core.List.{List}
use borrow.Author.Tests.{eq-eqb, ne_eqb}
use Rattle.std.specs.declared.option.Option.TheVariants.{Some, None}
use Rattle.std.specs.declared.result.Result.{Result}
use Rattle.file_rules.specs.Printers.{end_line}
use Rattle.rules.specs.Refusals.{refusal}
use Rattle.rules.specs.declared.Refusal.{Refusal}
use Rattle.rules.specs.declared.Table.{Table}
use Rattle.rules.specs.declared.Tasks.{Tasks}
use Rattle.lines.specs.Lines.{bytes_of}
use Rattle.lines.specs.declared.Line.TheVariants as line
use Rattle.response_lines.specs.Coming.{Coming, plain, row, coming}
use Rattle.response_lines.specs.Promises.{printing, against, OneLineIs, PlainIs, RowIs, ResponseLineIs}
use Rattle.response_lines.specs.declared.Cursor.{Cursor}
use Rattle.response_lines.specs.declared.Cursor.TheVariants as cursor
use Rattle.lines.specs.declared.Made.{Made}

module _ (t : Table) (k : Tasks) (at : Cursor) (buffer : List ℕ) (r : Result (Made Cursor) Refusal) (last : List ℕ) where
  -- a line that is put or refused is the one that comes
  comes : (c : Coming) → c ≡ coming t k at → OneLineIs t k c buffer r last → ResponseLineIs t k at buffer r last
  comes c same f = f ∙ ap (λ (d : Coming). printing (refusal (against t k d buffer)) d buffer) same

  pub header_comes : at ≡ cursor.Header → PlainIs t k line.ResponseHeader (Some (cursor.Task 0)) buffer r last → ResponseLineIs t k at buffer r last
  unfolding coming bytes_of
  header_comes d = comes _ (ap (coming t k) (sym d))

  module _ (i : ℕ) (d : at ≡ cursor.Task i) where
    pub end_comes : i ≡ k.count → PlainIs t k (line.End i) None buffer r last → ResponseLineIs t k at buffer r last
    unfolding coming bytes_of
    end_comes here = comes _ (same ∙ ap (coming t k) (sym d))
      where
        same : plain t k (end_line i) None ≡ coming t k (cursor.Task i)
        same = rw (eq-eqb i k.count here) (ap (λ n. plain t k (end_line n) None) here)

    pub row_comes : (i ≡ k.count → ⊥) → RowIs t k i buffer r last → ResponseLineIs t k at buffer r last
    unfolding coming
    row_comes elsewhere = comes _ (same ∙ ap (coming t k) (sym d))
      where
        same : row t k i ≡ coming t k (cursor.Task i)
        same = rw (ne_eqb i k.count elsewhere)
