-- The errors that faults of lines and of linking become.
use Rattle.dv_defs.specs.declared.faults.LineError.{LineError}
use Rattle.dv_defs.specs.declared.faults.LineError.TheVariants as line
use Rattle.dv_defs.specs.declared.faults.LinkError.{LinkError}
use Rattle.dv_defs.specs.declared.faults.LinkError.TheVariants as link
use Rattle.dv_console.specs.declared.refusals.Refusal.TheVariants as refusal
use Rattle.dv_load.specs.declared.errors.ProgramError.{ProgramError}
use Rattle.dv_load.specs.declared.errors.ProgramError.TheVariants as error

abbrev pub of_line : LineError → ProgramError
of_line (line.At number kind) = error.Refused (refusal.Line number kind)
of_line line.Memory = error.Memory

abbrev pub of_link : LinkError → ProgramError
of_link (link.At class kind) = error.Refused (refusal.Link class kind)
of_link link.Memory = error.Memory
