use Rattle.std.proofs.lemmas.Result.{IfOk-at_ok}
use Rattle.std.specs.List.{All}
use Rattle.dv_classread.specs.declared.text.Read.{Read}
use Rattle.law_listing.specs.ClassListable.{IsListedClass}
use Rattle.law_listing.proofs.ReadProgram.{program_listed}
use Rattle.law_listing.proofs.read_laws.read_classes_are_listed.Goals as goal

pub returns : goal.returns
returns c schedule text r read =
    let laws = c.printed_references_are_read.ensures in
    let P : Read → Type 0 = λ r. All IsListedClass r.classes in
    IfOk-at_ok P read (program_listed laws.types laws.prototypes schedule text)
