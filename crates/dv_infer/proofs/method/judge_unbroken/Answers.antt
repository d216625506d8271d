use Rattle.std.proofs.Common.{◌≡◌, Some, option_map, sym, ap, ◌∙◌, subst}
use Rattle.dv_defs.specs.Linked.{IsImage}
use Rattle.dv_defs.specs.Op.{code_at}
use Rattle.dv_ops.specs.Meaning.{code_of}
use Rattle.dv_infer.proofs.Finding.{is_ready}
use Rattle.dv_infer.proofs.method.judge_unbroken.Goals as goal

pub judge-requires : goal.judge-requires
judge-requires c =
    let code = code_of c.unwrap-code.result in
    let has : code_at c.args.image.now c.args.method.0 ≡ Some code = sym c.coded_at.ensures ∙ ap (option_map code_of) c.unwrap-code.ensures in
    let linked : IsImage c.args.image.now = subst IsImage c.image.view_is c.image.invariant.0 in
    record { table = c.requires.table; ready = is_ready c.args.image.now c.args.method.0 code linked has (c.requires.unbroken code has) }
