use Rattle.std.proofs.Common.{sym, ap, ◌∙◌, ◌<◌, ◌^◌, length, List, subst}
use Rattle.dv_defs.specs.declared.image.ClassInfo.{ClassInfo}
use Rattle.dv_resolve.specs.Firsts.{first_methods_from, first_fields_from}
use Rattle.dv_resolve.proofs.Declared.{keyed_method, keyed_field}
use Rattle.dv_resolve.proofs.members.Members.of.Goals as goal

pub returns-clause-knows : goal.returns-clause-knows
returns-clause-knows c = λ image classes has_methods has_fields ordered names interfaces. record {
  classes = classes;
  few = subst (λ (cs : List ClassInfo). length cs < 2 ^ 32) (sym classes) c.requires.few;
  ordered = ordered;
  names = names;
  orders = c.in_ok-orders.ensures image classes ordered interfaces;
  methods = λ k. c.in_ok-methods.ensures k ∙ (ap (first_methods_from k 0 0) (sym classes) ∙ keyed_method image has_methods k);
  fields = λ k. c.in_ok-fields.ensures k ∙ (ap (first_fields_from k 0 0) (sym classes) ∙ keyed_field image has_fields k);
  method_declarers = c.in_ok-method_declarers.ensures;
  field_declarers = c.in_ok-field_declarers.ensures;
}
