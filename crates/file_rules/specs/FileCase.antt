-- 01's first case as a meter file, byte for byte, and files of our own, worked by hand: what the two printers write of them.
use Rattle.std.specs.Prelude.{ℕ, ◌≡◌, refl, List, [], ◌∷◌, ◌++◌, length}
use Rattle.basis.specs.Words.{has}
use Rattle.basis.specs.Rows.{Row, ◌is◌, Hold, answer}
use Rattle.rules.specs.Refusals.{refusal}
use Rattle.file_rules.specs.Worked.{file_worked}
use Rattle.file_rules.specs.MeterFile.{meter_kinds, form, is_record, malformed_at, payload, read_from, reading, refusal_of}
use Rattle.file_rules.specs.Printers.{ascii, decimal_within, unless_refused_file, schedule_output, response_output}

-- "`08 00 01 00 04 00 01 00 00 00`, `08 00 01 00 06 00 02 00 00 00`"
abbrev partitions : List ℕ
partitions = 0x08 ∷ 0x00 ∷ 0x01 ∷ 0x00 ∷ 0x04 ∷ 0x00 ∷ 0x01 ∷ 0x00 ∷ 0x00 ∷ 0x00 ∷ 0x08 ∷ 0x00 ∷ 0x01 ∷ 0x00 ∷ 0x06 ∷ 0x00 ∷ 0x02 ∷ 0x00 ∷ 0x00 ∷ 0x00 ∷ []

abbrev word : ℕ → ℕ → List ℕ
word low high = 0x06 ∷ 0x00 ∷ 0x03 ∷ 0x00 ∷ low ∷ high ∷ 0x00 ∷ 0x00 ∷ []

-- "then six kind 3 records with 20000, 40000, 60000, 5, 50000, 0"
abbrev pub file_case : List ℕ
file_case = partitions ++ word 0x20 0x4e ++ word 0x40 0x9c ++ word 0x60 0xea ++ word 0x05 0x00 ++ word 0x50 0xc3 ++ word 0x00 0x00

-- "The schedule printer writes:"
pub file_case_schedule : schedule_output file_case ≡ ascii "tick pick\n0 1\n1 idle\n2 idle\n3 0\n4 0\n5 1\nend 6\n"
unfolding file_worked
file_case_schedule = refl

-- ---- files of our own

-- records whose fields are a byte each, and zeros
abbrev pub partition : ℕ → ℕ → ℕ → List ℕ
partition T B phase = 0x08 ∷ 0x00 ∷ 0x01 ∷ 0x00 ∷ T ∷ 0x00 ∷ B ∷ 0x00 ∷ phase ∷ 0x00 ∷ []

abbrev pub task : ℕ → ℕ → ℕ → List ℕ
task partition p e = 0x08 ∷ 0x00 ∷ 0x02 ∷ 0x00 ∷ partition ∷ 0x00 ∷ p ∷ 0x00 ∷ e ∷ 0x00 ∷ []

-- a release, its index as two bytes
abbrev releasing : ℕ → ℕ → List ℕ
releasing low high = 0x04 ∷ 0x00 ∷ 0x04 ∷ 0x00 ∷ low ∷ high ∷ []

-- (4,1) alone: ten bytes
abbrev pub one : List ℕ
one = partition 4 1 0

-- records of 01's file, at an offset and after a kind
abbrev pub records : List Row
records =
    -- the payloads of the first and the third record of 01's file; after a word the first would be out of order, and then has none
    (payload meter_kinds 0 file_case 0 is 0x04 ∷ 0x00 ∷ 0x01 ∷ 0x00 ∷ 0x00 ∷ 0x00 ∷ [])
    ∷ (payload meter_kinds 1 file_case 20 is 0x20 ∷ 0x4e ∷ 0x00 ∷ 0x00 ∷ [])
    ∷ (answer (malformed_at meter_kinds 3 file_case 0) is 0 ∷ [])
    ∷ (payload meter_kinds 3 file_case 0 is [])
    ∷ (answer (malformed_at meter_kinds 3 file_case 20) is [])
    -- a word where a file may hold partitions alone; at the end, and past it
    ∷ (answer (malformed_at (1 ∷ []) 1 file_case 20) is 20 ∷ [])
    ∷ (answer (malformed_at meter_kinds 3 file_case 68) is 68 ∷ [])
    ∷ (answer (malformed_at meter_kinds 3 file_case 69) is 69 ∷ [])
    ∷ []

pub records_hold : Hold records
unfolding has form is_record malformed_at payload
records_hold = refl

-- files that are refused
abbrev pub refused_files : List Row
refused_files =
    -- no record: no partitions
    (schedule_output [] is ascii "refused 1 at 0\n")
    -- a record cut in its length, in its kind, in its payload
    ∷ (schedule_output (0x08 ∷ []) is ascii "refused 8 at 0\n")
    ∷ (schedule_output (one ++ 0x06 ∷ 0x00 ∷ 0x03 ∷ []) is ascii "refused 8 at 10\n")
    ∷ (schedule_output (one ++ 0x06 ∷ 0x00 ∷ 0x03 ∷ 0x00 ∷ 0x05 ∷ 0x00 ∷ []) is ascii "refused 8 at 10\n")
    -- kind 5; kind 0
    ∷ (schedule_output (one ++ 0x04 ∷ 0x00 ∷ 0x05 ∷ 0x00 ∷ 0x00 ∷ 0x00 ∷ []) is ascii "refused 8 at 10\n")
    ∷ (schedule_output (one ++ 0x02 ∷ 0x00 ∷ 0x00 ∷ 0x00 ∷ []) is ascii "refused 8 at 10\n")
    -- a task of length 6; a word of length 8
    ∷ (schedule_output (one ++ 0x06 ∷ 0x00 ∷ 0x02 ∷ 0x00 ∷ 0x00 ∷ 0x00 ∷ 0x09 ∷ 0x00 ∷ []) is ascii "refused 8 at 10\n")
    ∷ (schedule_output (one ++ 0x08 ∷ 0x00 ∷ 0x03 ∷ 0x00 ∷ 0x05 ∷ 0x00 ∷ 0x00 ∷ 0x00 ∷ 0x00 ∷ 0x00 ∷ []) is ascii "refused 8 at 10\n")
    -- a partition after a task, and a task after a word
    ∷ (schedule_output (one ++ task 0 9 1 ++ partition 6 2 0) is ascii "refused 8 at 20\n")
    ∷ (response_output (one ++ word 0x05 0x00 ++ task 0 9 1) is ascii "refused 8 at 18\n")
    -- a budget above its period; with a byte too much behind it; with a task of a partition that isn't there
    ∷ (schedule_output (one ++ partition 4 5 0) is ascii "refused 1 at 1\n")
    ∷ (schedule_output (one ++ partition 4 5 0 ++ 0x00 ∷ []) is ascii "refused 8 at 20\n")
    ∷ (schedule_output (one ++ partition 4 5 0 ++ task 2 9 1) is ascii "refused 1 at 1\n")
    -- a task of a partition that isn't there, also where the table isn't admitted
    ∷ (response_output (one ++ task 1 9 1) is ascii "refused 9 at 0\n")
    ∷ (response_output (partition 4 2 0 ++ partition 4 3 0 ++ task 0 9 1 ++ task 2 9 1) is ascii "refused 9 at 1\n")
    -- "(4,2), (4,3) refused, 2 at 1"
    ∷ (schedule_output (partition 4 2 0 ++ partition 4 3 0) is ascii "refused 2 at 1\n")
    ∷ (response_output (partition 4 2 0 ++ partition 4 3 0) is ascii "refused 2 at 1\n")
    ∷ []

pub refused_files_hold : Hold refused_files
unfolding file_worked
refused_files_hold = refl

-- schedules
abbrev pub schedules : List Row
schedules =
    -- no event
    (schedule_output one is ascii "tick pick\nend 0\n")
    -- a release between words, and one of an index that isn't active any more, which ends the output; of an index that isn't there, 300
    ∷ (schedule_output (partitions ++ word 0x20 0x4e ++ releasing 1 0 ++ word 0x05 0x00 ++ releasing 1 0 ++ word 0x05 0x00) is ascii "tick pick\n0 1\n1 release 1\n1 0\nrefused 6 at 1\n")
    ∷ (schedule_output (partitions ++ releasing 0x2c 0x01) is ascii "tick pick\nrefused 6 at 300\n")
    -- a phase: two ticks without a budget
    ∷ (schedule_output (partition 4 1 2 ++ word 0 0 ++ word 0 0 ++ word 0 0) is ascii "tick pick\n0 idle\n1 idle\n2 0\nend 3\n")
    -- (3,1), (3,2) weigh 21845 and 43690, and word 87380 leaves 21845
    ∷ (schedule_output (partition 3 1 0 ++ partition 3 2 0 ++ 0x06 ∷ 0x00 ∷ 0x03 ∷ 0x00 ∷ 0x54 ∷ 0x55 ∷ 0x01 ∷ 0x00 ∷ []) is ascii "tick pick\n0 1\nend 1\n")
    ∷ []

pub schedules_hold : Hold schedules
unfolding file_worked
schedules_hold = refl

-- response times
abbrev pub responses : List Row
responses =
    -- no task
    (response_output one is ascii "partition task response\nend 0\n")
    -- tasks of two partitions that interleave, one of them late; the release, refused above, is no matter here
    ∷ (response_output (one ++ partition 10 4 0 ++ task 0 9 1 ++ task 1 40 2 ++ task 0 9 1 ++ task 1 60 3 ++ releasing 0x2c 0x01) is ascii "partition task response\n0 0 7\n1 0 14\n0 1 late\n1 1 23\nend 4\n")
    ∷ []

pub responses_hold : Hold responses
unfolding file_worked
responses_hold = refl

-- a byte above the limit, whatever the bytes; and as many as the limit
pub over_the_limit : (file : List ℕ) → length file ≡ 65537 → schedule_output file ≡ ascii "refused 8 at 65536\n"
unfolding refusal reading refusal_of decimal_within unless_refused_file schedule_output
over_the_limit file e = rw e

pub at_the_limit : (file : List ℕ) → length file ≡ 65536 → reading meter_kinds file ≡ read_from meter_kinds file 65536 0 0
unfolding reading
at_the_limit file e = rw e
