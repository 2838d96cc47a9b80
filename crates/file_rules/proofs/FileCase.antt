-- The files of specs/FileCase.antt: all of their tables hold.
use Rattle.basis.specs.Rows.{Hold}
use Rattle.file_rules.specs.FileCase.{records, records_hold, refused_files, refused_files_hold, schedules, schedules_hold, responses, responses_hold}

pub files_hold : Hold records × Hold refused_files × Hold schedules × Hold responses
files_hold = (records_hold, refused_files_hold, schedules_hold, responses_hold)
