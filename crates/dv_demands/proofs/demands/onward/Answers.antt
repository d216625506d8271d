use Rattle.std.proofs.Common.{Bool, sym, ap, ◌∙◌}
use Rattle.dv_defs.specs.declared.faults.Rule.TheVariants as rule
use Rattle.dv_typing.specs.Demands.{demand}
use Rattle.dv_ops.specs.Meaning.{code_of, meant}
use Rattle.dv_demands.proofs.Onward.{goes_on_to}
use Rattle.dv_demands.proofs.demands.onward.Goals as goal

pub returns-then-goes_on : goal.returns-then-goes_on
returns-then-goes_on c =
    λ at.
    c.demand.ensures ∙
    ap (λ (v : Bool). demand v (rule.V 1)) c.begins_insn_next.ensures ∙
    goes_on_to c.args.image.now (code_of c.args.code.now) (meant (code_of c.args.code.now) at c.args.op.now) c.args.next c.requires.clean (sym (c.goes_on.ensures (code_of c.args.code.now) at) ∙ c.if-goes_on.true)
