use Rattle.std.proofs.Common.{sym, ◌∙◌, add-one, arith}
use Rattle.dv_defs.specs.Op.{named_registers}
use Rattle.dv_image.specs.Common.{type_of}
use Rattle.dv_demands.proofs.ArgumentLists.{no_element, next_element, broken_element}
use Rattle.dv_demands.proofs.RegisterLists.{named_out}
use Rattle.dv_demands.proofs.arguments.each.Goals as goal

pub returns-in_default : goal.returns-in_default
returns-in_default c = sym (c.loop-place.invariant ∙ no_element c.args.image.now c.args.regs.now (type_of c.args.dims c.args.base.now) (named_registers c.args.named.now) c.loop-place.place (sym c.in_default.ensures.place))

pub returns-in-Some-single : goal.returns-in-Some-single
returns-in-Some-single c =
    sym
    (c.loop-place.invariant ∙
    broken_element c.args.image.now c.args.regs.now (type_of c.args.dims c.args.base.now) (named_registers c.args.named.now) c.loop-place.place c.in-Some.register c.in-Some-single.broken (sym c.in-Some.ensures.place) (sym c.in-Some-single.ensures))

pub loop-place-preserved : goal.loop-place-preserved
loop-place-preserved c =
    rw add-one
    (c.loop-place.invariant ∙
    next_element c.args.image.now c.args.regs.now (type_of c.args.dims c.args.base.now) (named_registers c.args.named.now) c.loop-place.place c.in-Some.register (sym c.in-Some.ensures.place) (sym c.in_default-single.ensures))

pub returns : goal.returns
returns c = sym (c.loop-place.invariant ∙ no_element c.args.image.now c.args.regs.now (type_of c.args.dims c.args.base.now) (named_registers c.args.named.now) c.loop-place.place (named_out c.args.named.now c.loop-place.place (omega arith)))
