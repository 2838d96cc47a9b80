-- 01, "Meter file and printers": the lines, and the whole output of each printer, as bytes.
use Rattle.std.specs.Prelude.{ℕ, zero, suc, ◌+◌, ◌/◌, ◌%◌, cond, List, [], ◌∷◌, ◌++◌, ltb, eqb}
use Prim.Native.String.{String, [] as no_text, ◌∷◌ as ◌then◌}
use Prim.Native.Char.{code}
use Rattle.std.proofs.Math.Option.{Option, some, none}
use Rattle.basis.specs.Words.{◌!◌}
use Rattle.rules.specs.declared.Pairs.{Pairs}
use Rattle.rules.specs.FreshStart.{fresh_start}
use Rattle.rules.specs.Candidates.{idle}
use Rattle.rules.specs.TaskResponse.{rank_of, response_of_task}
use Rattle.rules.specs.Refusals.{Refused}
use Rattle.file_rules.specs.MeterFile.{Record, table_of, tasks_of, events_in, refusal_of}
use Rattle.file_rules.specs.Events.{Event, ticked, released, event_at, after, inactive, ticks_after}
use Rattle.rules.specs.declared.Table.{Table}
use Rattle.rules.specs.declared.Tasks.{Tasks}

-- ---- fields

-- "The words are written byte for byte": a text as its bytes
abbrev pub ascii : String → List ℕ
ascii no_text = []
ascii (letter then letters) = code letter ∷ ascii letters

-- a number in decimal, the most significant digit first; so many digits at most
unfoldable pub decimal_within : ℕ → ℕ → List ℕ
decimal_within zero n = []
decimal_within (suc digits) n =
    let higher : List ℕ = decimal_within digits (n / 10) in
    cond (ltb n 10) [] higher ++ (48 + n % 10) ∷ []

-- 20 digits are enough for any number of 64 bits
abbrev pub decimal : ℕ → List ℕ
decimal = decimal_within 20

-- "index or `idle`"
abbrev pub pick_text : ℕ → List ℕ
pick_text pick = cond (eqb pick idle) (ascii "idle") (decimal pick)

-- "ticks or `late`": a response of 0 is late
abbrev pub response_text : ℕ → List ℕ
response_text ticks = cond (eqb ticks 0) (ascii "late") (decimal ticks)

-- ---- lines

-- "one space between fields, 0x0A after each line"
abbrev pub line : List ℕ → List (List ℕ) → List ℕ
line field [] = field ++ 10 ∷ []
line field (next ∷ more) = field ++ 32 ∷ line next more

-- "It writes `tick pick`"
abbrev pub schedule_header : List ℕ
schedule_header = line (ascii "tick") (ascii "pick" ∷ [])

-- "a line for each word (tick number from 0, index or `idle`)"
abbrev pub tick_line : ℕ → ℕ → List ℕ
tick_line ticks pick = line (decimal ticks) (pick_text pick ∷ [])

-- "or release (ticks made so far, `release`, index)"
abbrev pub release_line : ℕ → ℕ → List ℕ
release_line ticks index = line (decimal ticks) (ascii "release" ∷ decimal index ∷ [])

-- "then `end` and the ticks"; "then `end` and the count"
abbrev pub end_line : ℕ → List ℕ
end_line count = line (ascii "end") (decimal count ∷ [])

-- "A refused file gives the one line `refused N at M`."
abbrev pub refused_line : Refused → List ℕ
refused_line r = line (ascii "refused") (decimal r.number ∷ ascii "at" ∷ decimal r.second ∷ [])

-- "writes `partition task response`"
abbrev pub response_header : List ℕ
response_header = line (ascii "partition") (ascii "task" ∷ ascii "response" ∷ [])

-- "a line for each task in file order (partition, rank in it from 0, ticks or `late`)"
abbrev pub response_line : ℕ → ℕ → ℕ → List ℕ
response_line partition rank ticks = line (decimal partition) (decimal rank ∷ response_text ticks ∷ [])

-- the line of an event, after so many ticks
abbrev pub event_line : ℕ → Event → List ℕ
event_line ticks (ticked pick) = tick_line ticks pick
event_line ticks (released index) = release_line ticks index

-- ---- the whole output

-- "A refused file gives the one line `refused N at M`."
unfoldable pub unless_refused_file : Option Refused → List ℕ → List ℕ
unless_refused_file none output = output
unless_refused_file (some r) output = refused_line r

-- "Refusal 6 comes as it is met, as that same line after the lines before it, and ends the output"
unfoldable pub unless_inactive : Option ℕ → List ℕ → List ℕ
unless_inactive none output = output
unless_inactive (some index) output = refused_line (record { number = 6; second = index })

-- the lines of the events from a state on, and the end
unfoldable pub schedule_from : Table → List ℕ → Pairs → ℕ → List Record → List ℕ
schedule_from t file s ticks [] = end_line ticks
schedule_from t file s ticks (r ∷ rs) =
    let event : Event = event_at t s file r.kind r.at in
    let later : List ℕ = schedule_from t file (after t s event) (ticks_after ticks event) rs in
    unless_inactive (inactive t s event) (event_line ticks event ++ later)

-- the state at the fresh start of a table
abbrev pub fresh_of : Table → Pairs
fresh_of t = fresh_start t.count t.period t.budget t.phase

-- "The schedule printer": `tick pick`, the events from a fresh start on, `end` and the ticks
unfoldable pub schedule_output : List ℕ → List ℕ
schedule_output file =
    unless_refused_file (refusal_of file)
    (schedule_header ++ schedule_from (table_of file) file (fresh_of (table_of file)) 0 (events_in file))

-- the row of task i
abbrev pub row_of : Table → Tasks → ℕ → List ℕ
row_of t k i = response_line (k.partition ! i) (rank_of k.partition i) (response_of_task t.period t.budget k.count k.partition k.gap k.cost i)

-- the rows of the first m tasks
unfoldable pub rows_of : Table → Tasks → ℕ → List ℕ
rows_of t k zero = []
rows_of t k (suc m) = rows_of t k m ++ row_of t k m

-- "The response printer": `partition task response`, a line for each task in file order, `end` and the count
unfoldable pub response_output : List ℕ → List ℕ
response_output file =
    unless_refused_file (refusal_of file)
    (response_header ++ rows_of (table_of file) (tasks_of file) (tasks_of file).count ++ end_line (tasks_of file).count)
