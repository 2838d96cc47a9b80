-- A line as the code takes it apart: a first field, and up to three later ones.
use Rattle.std.specs.Prelude.{ℕ, ◌+◌, ◌≡◌, List, [], ◌∷◌, ◌++◌, length}
use Rattle.std.proofs.lemmas.List.Edits.{sets}
use Rattle.std.specs.declared.option.Option.{Option as Found}
use Rattle.std.specs.declared.option.Option.TheVariants.{Some, None}
use Rattle.file_rules.specs.Printers.{ascii, decimal}
use Rattle.lines.specs.declared.Fields.{Fields}
use Rattle.lines.specs.declared.Field.{Field}
use Rattle.lines.specs.declared.Field.TheVariants as field
use Rattle.lines.specs.declared.Word.{Word}
use Rattle.lines.specs.declared.Word.TheVariants as word

-- the bytes of a word
abbrev pub word_text : Word → List ℕ
word_text word.ScheduleHeader = ascii "tick pick"
word_text word.ResponseHeader = ascii "partition task response"
word_text word.End = ascii "end"
word_text word.Refused = ascii "refused"
word_text word.Idle = ascii "idle"
word_text word.Release = ascii "release"
word_text word.Late = ascii "late"
word_text word.At = ascii "at"

-- the bytes of a field
abbrev pub field_text : Field → List ℕ
field_text (field.Word w) = word_text w
field_text (field.Number n) = decimal n

-- the bytes of later fields, with a space before each
abbrev pub later_text : List (Found Field) → List ℕ
later_text [] = []
later_text (None ∷ more) = later_text more
later_text (Some f ∷ more) = 32 ∷ field_text f ++ later_text more

-- the bytes of a line of these fields
unfoldable pub line_of : Fields → List ℕ
line_of f = field_text f.first ++ (later_text f.later ++ 10 ∷ [])

-- bytes put into a buffer from a place on, and r the place after them
pub record Put (at : ℕ) (bytes before after : List ℕ) (r : ℕ) : Type 0 where
  pub next : r ≡ at + length bytes
  pub buffer : after ≡ sets before at bytes
