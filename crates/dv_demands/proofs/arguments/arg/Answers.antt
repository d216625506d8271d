use Rattle.std.proofs.Common.{sym, ◌∙◌, add-one}
use Rattle.dv_defs.specs.Op.{named_registers}
use Rattle.dv_demands.proofs.ArgumentLists.{no_arg, single_arg, long_arg}
use Rattle.dv_demands.proofs.arguments.arg.Goals as goal

pub returns-in_default-clause-arg : goal.returns-in_default-clause-arg
returns-in_default-clause-arg c = sym (no_arg c.args.image.now c.args.regs.now c.args.ty.now (named_registers c.args.named.now) c.args.place (sym c.in_default.ensures.place))

pub returns-then-is_long-clause-arg : goal.returns-then-is_long-clause-arg
returns-then-is_long-clause-arg c =
    c.long_arg.ensures ∙
    (rw c.register_at-then-is_long.ensures.place (rw add-one (sym (long_arg c.args.image.now c.args.regs.now c.args.ty.now (named_registers c.args.named.now) c.args.place c.in-Some.register (sym c.in-Some.ensures.place) (sym c.is_long.ensures ∙ c.if-is_long.true)))))

pub returns-else-is_long-clause-arg : goal.returns-else-is_long-clause-arg
returns-else-is_long-clause-arg c =
    c.single.ensures ∙ sym (single_arg c.args.image.now c.args.regs.now c.args.ty.now (named_registers c.args.named.now) c.args.place c.in-Some.register (sym c.in-Some.ensures.place) (sym c.is_long.ensures ∙ c.if-is_long.false))
