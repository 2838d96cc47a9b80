-- One name for all definitions that an output worked by hand is computed by: to unfold `file_worked` is to unfold each of them.
use Rattle.std.specs.Prelude.{ℕ}
use Rattle.rules.specs.Worked.{worked}
use Rattle.file_rules.specs.MeterFile.{form, is_record, read_from, reading, of_kind, events_of, table_of, tasks_of, events_in, refusal_of, malformed_at, payload}
use Rattle.file_rules.specs.Events.{event_at}
use Rattle.file_rules.specs.Printers.{decimal_within, unless_refused_file, unless_inactive, schedule_from, schedule_output, rows_of, response_output}

unfoldable pub file_worked : ℕ
unfolding worked form is_record read_from reading of_kind events_of table_of tasks_of events_in refusal_of event_at decimal_within unless_refused_file unless_inactive schedule_from schedule_output malformed_at payload rows_of response_output
file_worked = 0
