use Rattle.std.proofs.Common.{All}
use Rattle.std.proofs.lemmas.Result.{IfOk-at_ok}
use Rattle.dv_lex.specs.Lines.{reading_of}
use Rattle.dv_log.specs.Writing.{IsEntry}
use Rattle.dv_classread.specs.declared.text.Read.{Read}
use Rattle.law_listing.proofs.Programs.Logs.{log_of_listed}
use Rattle.law_listing.proofs.program_laws.read_schedules_are_read_again.Goals as goal

pub returns : goal.returns
returns c schedule text r read =
    c.schedules_are_read.ensures r.classes r.log (c.read_classes_are_listed.ensures schedule text r read)
    (IfOk-at_ok (λ (x : Read). All IsEntry x.log) read (log_of_listed schedule (reading_of text)))
