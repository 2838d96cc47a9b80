-- 01, "Refusals and what their second number says".
use Rattle.std.specs.Prelude.{ℕ, cond, List, [], ◌∷◌, ltb, leb, eqb, length}
use Rattle.std.proofs.Math.Option.{Option, some, none}
use Rattle.basis.specs.Words.{or_else, unless}
use Rattle.rules.specs.Numbers.{first_bad_partition, first_bad_task, first_bad_pair}
use Rattle.rules.specs.Admission.{first_unadmitted}
use Rattle.rules.specs.Tick.{tick_allowed}
use Rattle.rules.specs.Release.{release_allowed}
use Rattle.rules.specs.declared.Refusal.{Refusal}
use Rattle.rules.specs.declared.Refusal.TheVariants.{BadPartition, NotAdmitted, BadPair, NoWord, NotListed, NotActive, ShortBuffer, BadRecord, BadTask}

-- a refusal as 01's table has it: its number, and its second number
pub record Refused : Type 0 where
  pub number : ℕ
  pub second : ℕ

-- "No. | When | Second number"
abbrev pub refused_as : Refusal → Refused
refused_as (BadPartition index) = record { number = 1; second = index }
refused_as (NotAdmitted partition) = record { number = 2; second = partition }
refused_as (BadPair index) = record { number = 3; second = index }
refused_as NoWord = record { number = 4; second = 0 }
refused_as (NotListed pick) = record { number = 5; second = pick }
refused_as (NotActive index) = record { number = 6; second = index }
refused_as (ShortBuffer needed) = record { number = 7; second = needed }
refused_as (BadRecord offset) = record { number = 8; second = offset }
refused_as (BadTask index) = record { number = 9; second = index }

-- "Where several apply: 8, 1, 9, 2, 3, 7, 4, 5, 6."
abbrev pub order : List ℕ
order = 8 ∷ 1 ∷ 9 ∷ 2 ∷ 3 ∷ 7 ∷ 4 ∷ 5 ∷ 6 ∷ []

-- a ground on which a call may refuse: the refusal's number and, where it applies, its second number
pub record Ground : Type 0 where
  pub number : ℕ
  pub applies : Option ℕ

abbrev pub ground : ℕ → Option ℕ → Ground
ground number applies = record { number = number; applies = applies }

-- "1 | partition count or a field out of range | first bad index; 0 for no partitions, 16 for more than 16"
abbrev pub bad_table : ℕ → List ℕ → List ℕ → List ℕ → Ground
bad_table n T B phase = ground 1 (first_bad_partition n T B phase)

-- "A partition .. asked for that isn't there is 1 .. with its index, after the fields"
abbrev pub bad_table_or_index : ℕ → List ℕ → List ℕ → List ℕ → ℕ → Ground
bad_table_or_index n T B phase h = ground 1 (or_else (first_bad_partition n T B phase) (unless (ltb h n) h))

-- "2 | table not admitted (fresh start, printers) | first failing partition"
abbrev pub not_admitted : ℕ → List ℕ → List ℕ → Ground
not_admitted n T B = ground 2 (first_unadmitted n T B)

-- "3 | state out of range | first bad pair"
abbrev pub bad_state : ℕ → List ℕ → List ℕ → List ℕ → List ℕ → Ground
bad_state n T B b o = ground 3 (first_bad_pair n T B b o)

-- "4 | single decision without a word | 0"
abbrev pub no_word : List ℕ → Ground
no_word words = ground 4 (unless (ltb 0 (length words)) 0)

-- "5 | tick for a pick not in the list | that pick"; "a tick .. of an index that isn't there is 5"
abbrev pub not_listed : ℕ → List ℕ → List ℕ → List ℕ → List ℕ → ℕ → Ground
not_listed n T B b o pick = ground 5 (unless (tick_allowed n T B b o pick) pick)

-- "6 | release of an index not active | that index"; "[a] release of an index that isn't there is .. 6"
abbrev pub not_active : ℕ → List ℕ → ℕ → Ground
not_active n b i = ground 6 (unless (release_allowed n b i) i)

-- "7 | buffer too short | length needed"
abbrev pub short_buffer : ℕ → ℕ → Ground
short_buffer needed room = ground 7 (unless (leb needed room) needed)

-- "8 | malformed file | offset of the record", where a record is malformed
abbrev pub malformed : Option ℕ → Ground
malformed offset = ground 8 offset

-- "9 | task count or a field out of range | first bad task; 64 for more than 64"
abbrev pub bad_tasks : ℕ → ℕ → List ℕ → List ℕ → List ℕ → Ground
bad_tasks n m partition p e = ground 9 (first_bad_task n m partition p e)

-- "A .. task asked for that isn't there is .. 9 with its index, after the fields"
abbrev pub bad_tasks_or_index : ℕ → ℕ → List ℕ → List ℕ → List ℕ → ℕ → Ground
bad_tasks_or_index n m partition p e i = ground 9 (or_else (first_bad_task n m partition p e) (unless (ltb i m) i))

-- "A call checks only what it is given.": what is not among its grounds does not apply
abbrev pub applies_to : List Ground → ℕ → Option ℕ
applies_to [] number = none
applies_to (g ∷ gs) number = cond (eqb g.number number) g.applies (applies_to gs number)

-- that number, where it applies; else what comes later
abbrev pub unless_before : ℕ → Option ℕ → Option Refused → Option Refused
unless_before number (some second) later = some (record { number = number; second = second })
unless_before number none later = later

-- the first number of a list that applies
abbrev pub first_applying : List ℕ → List Ground → Option Refused
first_applying [] gs = none
first_applying (number ∷ numbers) gs = unless_before number (applies_to gs number) (first_applying numbers gs)

-- why a call with these grounds is refused, if it is
unfoldable pub refusal : List Ground → Option Refused
refusal = first_applying order
