-- The exit statuses.
use Rattle.std.specs.Prelude.{ℕ}
use Rattle.dv_top.specs.declared.reading.ReadError.{ReadError}
use Rattle.dv_top.specs.declared.reading.ReadError.TheVariants as error
use Rattle.dv_top.specs.declared.status.Status.{Status}
use Rattle.dv_top.specs.declared.status.Status.TheVariants as status

-- their numbers
abbrev pub code_of : Status → ℕ
code_of status.Done = 0
code_of status.Uncaught = 1
code_of status.Usage = 2
code_of status.ReadFault = 3
code_of status.WriteFault = 4
code_of status.BadText = 5
code_of status.Refused = 6
code_of status.Blocked = 9
code_of status.Spent = 10
code_of status.NoMemory = 11
code_of status.Schedule = 12
code_of status.TooLarge = 13

-- why a source wasn't read
abbrev pub status_of_error : ReadError → Status
status_of_error error.Failed = status.ReadFault
status_of_error error.Memory = status.NoMemory
