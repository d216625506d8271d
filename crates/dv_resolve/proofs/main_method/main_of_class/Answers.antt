use Rattle.std.proofs.Common.{sym, ◌∙◌}
use Rattle.dv_defs.specs.declared.faults.LinkKind.TheVariants as kind
use Rattle.dv_defs.specs.Linked.{main_of}
use Rattle.dv_resolve.specs.Answers.{numbered_main}
use Rattle.dv_resolve.specs.Mains.{main_or_none}
use Rattle.dv_resolve.proofs.MainLaws.{none_found, refused}
use Rattle.dv_resolve.proofs.main_method.main_of_class.Goals as goal

pub returns-in-None : goal.returns-in-None
returns-in-None c =
    let name = c.args.name.now in
    let method = main_of c.args.image.now c.args.class in
    refused (numbered_main (main_or_none name method)) name kind.NoMain c.error_of.result
    (none_found name method (sym c.in-None.is ∙ c.main_of.ensures)) c.error_of.ensures
