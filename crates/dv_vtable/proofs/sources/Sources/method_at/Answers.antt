use Rattle.std.proofs.Common.{sym, ap, ◌∙◌}
use Rattle.std.specs.Prelude.{option_map, slice_get}
use Rattle.std.proofs.lemmas.Option.{slice_get_past}
use Rattle.dv_vtable.specs.Sources.{of_declared}
use Rattle.dv_vtable.proofs.SourceLaws.{read_some, shown_no_method, shown_no_class, shown_no_def, shown_def}
use Rattle.dv_vtable.proofs.sources.Sources.method_at.Goals as goal

pub returns-in_err-method-clause-method : goal.returns-in_err-method-clause-method
returns-in_err-method-clause-method c = λ image of.
    let s = c.args.self.now in
    ap (option_map of_declared) c.from_residual.ensures
    ∙ sym (shown_no_method s.infos.now s.methods.now image of.classes of.methods c.args.id.0
    (slice_get_past s.methods.now c.args.id.0 c.in_err-method.ensures.lookup.3))

pub returns-in_err-class-clause-method : goal.returns-in_err-class-clause-method
returns-in_err-class-clause-method c = λ image of.
    let s = c.args.self.now in
    let info = c.in_ok-method.method.now in
    ap (option_map of_declared) c.from_residual-in_err-class.ensures
    ∙ sym (shown_no_class s.infos.now s.methods.now image of.classes of.methods c.args.id.0 info
    (read_some s.methods.now c.args.id.0 info c.in_ok-method.ensures.lookup.0 c.in_ok-method.ensures.lookup.1)
    (slice_get_past s.infos.now info.class.0 c.in_err-class.ensures.lookup.3))

pub returns-in_err-def-clause-method : goal.returns-in_err-def-clause-method
returns-in_err-def-clause-method c = λ image of.
    let s = c.args.self.now in
    let info = c.in_ok-method.method.now in
    let class = c.in_ok-class.class.now in
    ap (option_map of_declared) c.from_residual-in_err-def.ensures
    ∙ sym (shown_no_def s.infos.now s.methods.now image of.classes of.methods c.args.id.0 info class
    (read_some s.methods.now c.args.id.0 info c.in_ok-method.ensures.lookup.0 c.in_ok-method.ensures.lookup.1)
    (read_some s.infos.now info.class.0 class c.in_ok-class.ensures.lookup.0 c.in_ok-class.ensures.lookup.1)
    (ap (λ ms. slice_get ms info.place) (sym c.items.ensures) ∙ slice_get_past c.items.result.now info.place c.in_err-def.ensures.lookup.3))

pub returns-clause-method : goal.returns-clause-method
returns-clause-method c = λ image of.
    let s = c.args.self.now in
    let info = c.in_ok-method.method.now in
    let class = c.in_ok-class.class.now in
    sym (shown_def s.infos.now s.methods.now image of.classes of.methods c.args.id.0 info class c.in_ok-def.def.now
    (read_some s.methods.now c.args.id.0 info c.in_ok-method.ensures.lookup.0 c.in_ok-method.ensures.lookup.1)
    (read_some s.infos.now info.class.0 class c.in_ok-class.ensures.lookup.0 c.in_ok-class.ensures.lookup.1)
    (ap (λ ms. slice_get ms info.place) (sym c.items.ensures)
    ∙ read_some c.items.result.now info.place c.in_ok-def.def.now c.in_ok-def.ensures.lookup.0 c.in_ok-def.ensures.lookup.1))
