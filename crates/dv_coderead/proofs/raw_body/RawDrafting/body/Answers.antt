use Rattle.std.proofs.Common.{List, length, sym, ap, subst, ◌∙◌}
use Rattle.std.proofs.lemmas.Result.{IfOk-weaker}
use Rattle.dv_defs.specs.declared.code.Try.{Try}
use Rattle.dv_defs.specs.Body.{KindsIn}
use Rattle.dv_coderead.specs.RawBodies.{raw_tries, with_caught}
use Rattle.dv_coderead.proofs.RawAdding.{body_made}
use Rattle.dv_coderead.proofs.RawKinds.{kinds_in}
use Rattle.dv_coderead.proofs.raw_body.RawDrafting.body.Goals as goal

pub body_of-requires : goal.body_of-requires
body_of-requires c =
    let types = c.caught_tries.new.types in
    record {
      few_registers = c.requires.registers;
      short = c.requires.short;
      kinds = subst (λ (ts : List Try). KindsIn (length types) ts) (sym c.in-Ok.ensures.tries) (kinds_in types c.as_slice.result.now);
    }

pub returns-in-Ok : goal.returns-in-Ok
returns-in-Ok c =
    let d = c.args.self in
    let types = c.caught_tries.new.types in
    let caught = c.in-Ok.ensures.types ∙ ap (with_caught d.pools.types) c.as_slice.ensures.value in
    let entries = c.in-Ok.ensures.tries ∙ ap (raw_tries types) c.as_slice.ensures.value in
    IfOk-weaker c.body_of.result _ _ (λ b is. is ∙ body_made d types c.in-Ok.tries.items caught entries) c.body_of.ensures
