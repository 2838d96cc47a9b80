-- 01, "Meter file and printers": a record, the records of a file, and what the file holds.
use Rattle.std.specs.Prelude.{ℕ, zero, suc, ◌+◌, ◌-◌, ◌*◌, Bool, cond, ◌&&◌, List, [], ◌∷◌, map, leb, ltb, eqb, length, take, drop}
use Rattle.std.proofs.Math.Option.{Option, some, none}
use Rattle.rules.specs.Records.{tables_bad}
use Rattle.basis.specs.Words.{◌!◌, has, or_else, unless, found, padded}
use Rattle.rules.specs.Numbers.{most_partitions, most_tasks}
use Rattle.rules.specs.Refusals.{Refused, malformed, refusal}
use Rattle.rules.specs.declared.Table.{Table}
use Rattle.rules.specs.declared.Tasks.{Tasks}

-- ---- a record

-- a number of 2 bytes at an offset, and one of 4, "all little-endian"
abbrev pub two : List ℕ → ℕ → ℕ
two file at = file ! at + 256 * file ! (at + 1)

abbrev pub four : List ℕ → ℕ → ℕ
four file at = two file at + 65536 * two file (at + 2)

-- "A record is: length (2 bytes, counting kind and payload), kind (2 bytes), payload"
abbrev pub length_at : List ℕ → ℕ → ℕ
length_at file at = two file at

abbrev pub kind_at : List ℕ → ℕ → ℕ
kind_at file at = two file (at + 2)

abbrev pub payload_at : List ℕ → ℕ → List ℕ
payload_at file at = take (length_at file at - 2) (drop (at + 4) file)

abbrev pub next_at : List ℕ → ℕ → ℕ
next_at file at = at + 2 + length_at file at

-- what a kind says of its records: their length, and their place in the order
pub record Form : Type 0 where
  pub length : ℕ
  pub place : ℕ

abbrev shaped : ℕ → ℕ → Form
shaped bytes place = record { length = bytes; place = place }

-- "Kind 1, partition: .. length 8. Kind 2, task: .. length 8. Kind 3, word: .. length 6. Kind 4, release: .. length 4."
-- "All kind 1 come first, then kind 2, then 3 and 4 mixed." What is no kind has no place.
unfoldable pub form : ℕ → Form
form kind =
    cond (eqb kind 1) (shaped 8 1)
    (cond (eqb kind 2) (shaped 8 2)
    (cond (eqb kind 3) (shaped 6 3)
    (cond (eqb kind 4) (shaped 4 3)
    (shaped 0 0))))

-- the kinds that 01's files may hold
abbrev pub meter_kinds : List ℕ
meter_kinds = 1 ∷ 2 ∷ 3 ∷ 4 ∷ []

-- "A file is at most 65,536 bytes."
abbrev pub most_bytes : ℕ
most_bytes = 65536

-- "a file over the limit (offset 65,536)"
abbrev pub over_limit : List ℕ → Option ℕ
over_limit file = unless (leb (length file) most_bytes) most_bytes

-- what a record at an offset is, in a file that may hold these kinds, after a record of the kind before (0 for none)
module _ (kinds : List ℕ) (before : ℕ) (file : List ℕ) (at : ℕ) where
  -- neither "a cut record, another kind or length" nor "a kind out of order"; "Asking for a record at or past the end counts as a cut one."
  unfoldable pub is_record : Bool
  is_record =
      leb (at + 4) (length file)
      && (has kinds (kind_at file at) && ltb 0 (form (kind_at file at)).place)
      && eqb (length_at file at) (form (kind_at file at)).length
      && leb (next_at file at) (length file)
      && leb (form before).place (form (kind_at file at)).place

  -- "malformed file | offset of the record"; "a file's size before its records"
  unfoldable pub malformed_at : Option ℕ
  malformed_at = or_else (over_limit file) (unless is_record at)

  -- "the payload is handed back as that stretch of the caller's file (an empty one where the record is refused)"
  unfoldable pub payload : List ℕ
  payload = cond (found malformed_at) [] (payload_at file at)

-- ---- the records of a file

-- a record of a file: its kind, and the offset where it begins
pub record Record : Type 0 where
  pub kind : ℕ
  pub at : ℕ

-- the records up to the end, or up to the first that is malformed and where that is
pub record Reading : Type 0 where
  pub records : List Record
  pub fault : Option ℕ

abbrev pub and_then : Record → Reading → Reading
and_then r later = record { records = r ∷ later.records; fault = later.fault }

-- of a file over the limit nothing is read
abbrev pub unless_over : Option ℕ → Reading → Reading
unless_over none whole = whole
unless_over (some limit) whole = record { records = []; fault = some limit }

module _ (kinds file : List ℕ) where
  -- from an offset on. A record has some bytes, so as many rounds as the file has bytes are enough.
  unfoldable pub read_from : ℕ → ℕ → ℕ → Reading
  read_from zero before at = record { records = []; fault = none }
  read_from (suc rounds) before at =
      let later : Reading = read_from rounds (kind_at file at) (next_at file at) in
      cond (leb (length file) at) (record { records = []; fault = none })
      (cond (is_record kinds before file at) (and_then (record { kind = kind_at file at; at = at }) later)
      (record { records = []; fault = some at }))

  -- "A count is judged before the fields, a file's size before its records."
  unfoldable pub reading : Reading
  reading = unless_over (over_limit file) (read_from (length file) 0 0)

-- ---- what a file holds

-- the offsets of the records of one kind
unfoldable pub of_kind : ℕ → List Record → List ℕ
of_kind kind [] = []
of_kind kind (r ∷ rs) =
    let later : List ℕ = of_kind kind rs in
    cond (eqb r.kind kind) (r.at ∷ later) later

-- a field of 2 bytes of each, in the places of a table; `past` is the bytes of the record before it
abbrev pub column : ℕ → List ℕ → ℕ → List ℕ → List ℕ
column places file past offsets = padded places (take places (map (λ at. two file (at + past)) offsets))

-- "Kind 1, partition: T, B, phase, 2 bytes each"
abbrev pub table_from : List ℕ → List ℕ → Table
table_from file offsets =
    record {
      count = length offsets;
      period = column most_partitions file 4 offsets;
      budget = column most_partitions file 6 offsets;
      phase = column most_partitions file 8 offsets;
    }

-- "Kind 2, task: partition, p, e, 2 bytes each"
abbrev pub tasks_from : List ℕ → List ℕ → Tasks
tasks_from file offsets =
    record {
      count = length offsets;
      partition = column most_tasks file 4 offsets;
      gap = column most_tasks file 6 offsets;
      cost = column most_tasks file 8 offsets;
    }

-- words and releases are what happens: they have the last place
abbrev pub is_event : ℕ → Bool
is_event kind = eqb (form kind).place 3

-- the first event and all after it
unfoldable pub events_of : List Record → List Record
events_of [] = []
events_of (r ∷ rs) =
    let later : List Record = events_of rs in
    cond (is_event r.kind) (r ∷ rs) later

-- where the first record begins, or where the file ends
abbrev pub beginning : List Record → ℕ → ℕ
beginning [] end = end
beginning (r ∷ rs) end = r.at

module _ (file : List ℕ) where
  -- the partition table, the tasks and the events that a meter file holds
  unfoldable pub table_of : Table
  table_of = table_from file (of_kind 1 (reading meter_kinds file).records)

  unfoldable pub tasks_of : Tasks
  tasks_of = tasks_from file (of_kind 2 (reading meter_kinds file).records)

  unfoldable pub events_in : List Record
  events_in = events_of (reading meter_kinds file).records

  -- the refusals of a whole file: 8, 1, 9 and 2
  unfoldable pub refusal_of : Option Refused
  refusal_of = refusal (malformed (reading meter_kinds file).fault ∷ tables_bad table_of tasks_of)
