-- How what a call says is written in numbers: a refusal's two numbers, and then its values, which are 0 where it is refused, while a state is then the one that was given.
use Rattle.std.specs.Prelude.{ℕ}
use Rattle.std.proofs.Math.Option.{Option, some, none}
use Rattle.scheduler.specs.States.{state_of}
use Rattle.rules.specs.Refusals.{Refused}
use Rattle.verdicts.specs.Outcome.{Outcome, refused, gives}
use Rattle.candidates.specs.Promises.{Listing}
use Rattle.draw.specs.Promises.{Weighing}
use Rattle.scheduler.specs.Promises.{Change}
use Rattle.runs.specs.Promises.{Step}
use Rattle.numbers.specs.declared.RefusalNumbers.{RefusalNumbers}
use Rattle.numbers.specs.declared.Picked.{Picked}
use Rattle.numbers.specs.declared.Tested.{Tested}
use Rattle.numbers.specs.declared.Lasting.{Lasting}
use Rattle.numbers.specs.declared.Responded.{Responded}
use Rattle.numbers.specs.declared.After.{After}
use Rattle.numbers.specs.declared.ListNumbers.{ListNumbers}
use Rattle.numbers.specs.declared.WeightNumbers.{WeightNumbers}
use Rattle.numbers.specs.declared.Turned.{Turned}

-- a refusal: its number and its second number; 0, 0 where there is none
abbrev pub refusal_numbers : Option Refused → RefusalNumbers
refusal_numbers none = record { number = 0; second = 0 }
refusal_numbers (some r) = record { number = r.number; second = r.second }

-- a test of all partitions: 1 where none fails; else 0, and the first that does
abbrev pub test_numbers : Outcome (Option ℕ) → Tested
test_numbers (gives none) = record { refusal = refusal_numbers none; passes = 1; failing = 0 }
test_numbers (gives (some h)) = record { refusal = refusal_numbers none; passes = 0; failing = h }
test_numbers (refused r) = record { refusal = refusal_numbers (some r); passes = 0; failing = 0 }

-- a length: 1 and its ticks; 0 and 0 where there is none within the deadline
abbrev pub length_numbers : Outcome (Option ℕ) → Lasting
length_numbers (gives (some W)) = record { refusal = refusal_numbers none; within = 1; ticks = W }
length_numbers (gives none) = record { refusal = refusal_numbers none; within = 0; ticks = 0 }
length_numbers (refused r) = record { refusal = refusal_numbers (some r); within = 0; ticks = 0 }

-- a response: its ticks, 0 for late
abbrev pub response_numbers : Outcome ℕ → Responded
response_numbers (gives ticks) = record { refusal = refusal_numbers none; ticks = ticks }
response_numbers (refused r) = record { refusal = refusal_numbers (some r); ticks = 0 }

-- a pick, idle as 255
abbrev pub pick_numbers : Outcome ℕ → Picked
pick_numbers (gives pick) = record { refusal = refusal_numbers none; pick = pick }
pick_numbers (refused r) = record { refusal = refusal_numbers (some r); pick = 0 }

-- a state after a call: where it is refused, the state that was given
abbrev pub change_numbers : Change → After
change_numbers c = record { refusal = refusal_numbers c.refused; state = state_of c.after }

-- a candidate list
abbrev pub list_numbers : Listing → ListNumbers
list_numbers l = record { refusal = refusal_numbers l.refused; length = l.length; list = l.list }

-- a list and its weights
abbrev pub weight_numbers : Weighing → WeightNumbers
weight_numbers w = record { refusal = refusal_numbers w.refused; length = w.length; list = w.list; weights = w.weights }

-- a pick, and the state after its tick
abbrev pub turn_numbers : Step → Turned
turn_numbers s = record { picked = pick_numbers s.says; state = state_of s.after }
