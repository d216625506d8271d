use Rattle.std.proofs.Common.{ap, sym, ◌∙◌}
use Rattle.dv_defs.specs.declared.image.ClassInfo.{ClassInfo}
use Rattle.dv_vtable.proofs.PriorLaws.{declarers_range, none_before, own_range, priors_are}
use Rattle.dv_vtable.proofs.priors.priors_of.Goals as goal

pub interfaces_before-requires-clause-interfaces : goal.interfaces_before-requires-clause-interfaces
interfaces_before-requires-clause-interfaces c =
    own_range c.args.infos.now c.args.class c.index-infos-class.result c.items.result.now c.requires.ordered.range c.requires.class
    (c.items.ensures ∙ ap (λ (i : ClassInfo). i.interfaces) c.index-infos-class.is)

pub add_declarers-requires : goal.add_declarers-requires
add_declarers-requires c = declarers_range c.args.infos.now c.args.declares.now c.in_ok-before.before c.items-2.result.now c.requires.declares (cc) c.in_ok-before.ensures.range

pub returns-then-is_in : goal.returns-then-is_in
returns-then-is_in c =
    none_before c.args.infos.now c.args.class c.index-infos-class.result c.new-priors.result.items c.requires.class c.index-infos-class.is
    (sym c.is_in.ensures ∙ c.if-is_in.true) c.new-priors.ensures.items

pub returns : goal.returns
returns c =
    priors_are c.args.infos.now c.args.declares.now c.args.class c.index-infos-class.result c.items.result.now c.items-2.result.now c.new-priors.result.items c.add_parent.new.priors.items c.add_declarers.new.priors.items
    c.requires.class c.index-infos-class.is (sym c.is_in.ensures ∙ c.if-is_in.false)
    c.items.ensures (cc c.in_ok-before.ensures.before) c.new-priors.ensures.items c.in_ok-add_parent.ensures c.in_ok-add_declarers.ensures c.requires.declares
