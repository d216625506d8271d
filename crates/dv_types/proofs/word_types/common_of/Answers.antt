use Rattle.std.proofs.Common.{sym, ap, ◌∙◌}
use Rattle.dv_defs.specs.declared.names.Ty.{Ty}
use Rattle.dv_bases.specs.Bases.{base_of, type_of}
use Rattle.dv_types.specs.Numbers.{raised}
use Rattle.dv_types.proofs.Levels.{raised_flat, super_by_levels, super_same}
use Rattle.dv_types.proofs.word_types.common_of.Goals as goal

pub returns-then-is_same-clause-common : goal.returns-then-is_same-clause-common
returns-then-is_same-clause-common c =
    let names = c.args.bases.now in
    sym (super_same names.image (type_of names c.args.class) (type_of names c.args.other) (sym c.is_same.ensures ∙ c.if-is_same.true))

pub returns-clause-common : goal.returns-clause-common
returns-clause-common c =
    let names = c.args.bases.now in
    sym (raised_flat c.shared_levels-levels.result (base_of names c.common_flat.result)) ∙
    (ap (λ (t : Ty). raised c.shared_levels-levels.result t) c.common_flat.ensures.common ∙
    sym (super_by_levels names.image c.shared_levels-levels.result (type_of names c.args.class) (type_of names c.args.other)
    c.shared_levels-levels.ensures.class c.shared_levels-levels.ensures.other c.shared_levels-levels.ensures.last (sym c.is_same.ensures ∙ c.if-is_same.false)))
