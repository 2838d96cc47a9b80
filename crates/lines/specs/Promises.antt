-- What each public function of this crate promises of its answer r and the lent buffer.
use Rattle.std.specs.Prelude.{ℕ, ◌≡◌, List, [], ◌∷◌, length}
use Rattle.std.proofs.Math.Option.{Option, some, none}
use Rattle.std.specs.declared.option.Option.{Option as Found}
use Rattle.std.specs.declared.result.Result.{Result}
use Rattle.basis.specs.Words.{onto}
use Rattle.rules.specs.Refusals.{Refused, short_buffer, refusal}
use Rattle.rules.specs.declared.Refusal.{Refusal}
use Rattle.verdicts.specs.Outcome.{Outcome, refused, gives}
use Rattle.lines.specs.Lines.{bytes_of, written_as, OneLine, made_as}
use Rattle.lines.specs.declared.Line.{Line}
use Rattle.lines.specs.declared.Made.{Made}

-- the bytes that a line needs
abbrev pub LineLengthIs : Line → ℕ → Type 0
LineLengthIs l r = r ≡ length (bytes_of l)

-- what a call says that writes, and the buffer after it
pub record Writing : Type 0 where
  pub says : Outcome ℕ
  pub buffer : List ℕ

abbrev pub wrote_as : Result ℕ Refusal → List ℕ → Writing
wrote_as r buffer = record { says = written_as r; buffer = buffer }

-- "Nothing is written to lent memory on a refusal"
unfoldable pub writing : Option Refused → List ℕ → List ℕ → Writing
writing none bytes buffer = record { says = gives (length bytes); buffer = onto bytes buffer }
writing (some r) bytes buffer = record { says = refused r; buffer = buffer }

-- a line into a buffer, which is `last` after it: refusal 7
abbrev pub WriteLineIs : Line → List ℕ → Result ℕ Refusal → List ℕ → Type 0
WriteLineIs l buffer r last =
    wrote_as r last ≡ writing (refusal (short_buffer (length (bytes_of l)) (length buffer) ∷ [])) (bytes_of l) buffer

-- what a call made, and the buffer after it
pub record Printing (C : Type 0) : Type 0 where
  pub says : Outcome (OneLine C)
  pub buffer : List ℕ

module _ {C : Type 0} where
  abbrev pub printed_as : Result (Made C) Refusal → List ℕ → Printing C
  printed_as r buffer = record { says = made_as r; buffer = buffer }

  -- "Nothing is written to lent memory on a refusal"
  unfoldable pub printing : Option Refused → List ℕ → Found C → List ℕ → Printing C
  printing none bytes next buffer = record { says = gives (record { length = length bytes; next = next }); buffer = onto bytes buffer }
  printing (some r) bytes next buffer = record { says = refused r; buffer = buffer }

  -- a line into a buffer, which is `last` after it, and what comes next: refusal 7
  abbrev pub PutLineIs : Line → Found C → List ℕ → Result (Made C) Refusal → List ℕ → Type 0
  PutLineIs l next buffer r last =
      printed_as r last ≡ printing (refusal (short_buffer (length (bytes_of l)) (length buffer) ∷ [])) (bytes_of l) next buffer
