use Rattle.std.proofs.Common.{sym, ◌∙◌, arith}
use Rattle.std.proofs.lemmas.Grind.{common_steps}
use Rattle.std.proofs.lemmas.List.{at_drop_all}
use Rattle.dv_defs.specs.Types.{ty_eq}
use Rattle.dv_draft.proofs.KeyLemmas.{one_more}
use Rattle.dv_defs.proofs.Keys.{type_keys}
use Rattle.dv_coderead.specs.RawBodies.{kind_caught, with_caught}
use Rattle.dv_coderead.proofs.raw_body.add_caught.Goals.{in-Some+in_ok-add, in_default}
use Rattle.dv_coderead.proofs.raw_body.add_caught.Goals as goal

pub loop-handler-preserved : goal.loop-handler-preserved
loop-handler-preserved c =
    elim c.match-handler.branch [
      | in-Some+in_ok-add w ↦
          one_more _ ty_eq type_keys kind_caught c.args.handlers.now c.loop-handler.handler-index c.handler-item.result c.loop-handler.types c.match-handler.types _ w.in-Some.ty
          c.loop-handler-test.true c.handler-item.is (sym w.in-Some.is) (w.types-is ∙ w.in_ok-add.ensures) c.loop-handler.invariant
      | in_default w ↦ grind (arith, common_steps)
    ]

pub returns : goal.returns
returns c = sym (at_drop_all (with_caught c.loop-handler.types) c.args.handlers.now c.loop-handler.handler-index c.loop-handler-test.false) ∙ c.loop-handler.invariant
