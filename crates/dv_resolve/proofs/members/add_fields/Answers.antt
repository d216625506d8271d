use Rattle.std.proofs.Common.{◌≡◌, ◌+◌, ℕ, Some, cond, refl, ap, sym, ◌∙◌, arith}
use Rattle.std.specs.BTreeMap.{get}
use Rattle.std.specs.Ordering.{is_eq}
use Rattle.std.specs.Option.{option_or}
use Rattle.dv_defs.specs.declared.class.FieldDef.{FieldDef}
use Rattle.dv_resolve.proofs.Added.{field_laws, field_under, there_more, new_more, all_found}
use Rattle.dv_resolve.specs.declared.members.FieldKey.{FieldKey}
use Rattle.dv_resolve.specs.Firsts.{is_field_under, first_field_own}
use Rattle.dv_resolve.specs.Members.{field_key_cmp}
use Rattle.dv_resolve.proofs.members.add_fields.Goals as goal
use Rattle.dv_resolve.proofs.members.add_fields.Goals.{then-not-contains_key+in_ok-insert, else-not-contains_key}

pub returns : goal.returns
returns c =
    all_found field_key_cmp field_laws is_field_under (λ (f : FieldDef). f.flags) c.loop-place.found c.args.fields.now c.args.class.0 c.args.first c.loop-place.place _
    c.loop-place-test.false c.loop-place.invariant

pub loop-place-init : goal.loop-place-init
loop-place-init c = λ k. let e : c.args.first + 0 ≡ c.args.first = omega arith in
    ap (λ n. option_or (get field_key_cmp c.args.found.now k) (first_field_own k c.args.class.0 n c.args.fields.now)) e

pub loop-place-preserved : goal.loop-place-preserved
loop-place-preserved c =
    let m = c.index-fields-place.result in
    let key : FieldKey = record { class = c.args.class; name = record { ref_ptr = (0, 0); now = c.field.inside.name }; ty = record { ref_ptr = (0, 0); now = c.field.inside.ty } } in
    let under = λ (k : FieldKey). field_under key k c.args.class.0 m refl (ap (λ (f : FieldDef). f.name) c.field.view_is) (ap (λ (f : FieldDef). f.ty) c.field.view_is) in
    elim c.if-not-contains_key.branch [
      | then-not-contains_key+in_ok-insert w ↦ rw w.found-is
          (new_more field_key_cmp field_laws is_field_under (λ (f : FieldDef). f.flags) c.loop-place.found w.insert.new.self c.args.fields.now c.args.class.0 c.args.first c.loop-place.place m key _
          c.loop-place-test.true c.index-fields-place.is under
          (sym c.contains_key.ensures ∙ w.if-not-contains_key.true)
          (λ k. w.in_ok-insert.ensures.updates.0 k ∙
          ap (λ (n : ℕ). cond (is_eq (field_key_cmp key k)) (Some (record { id = c.args.first + c.loop-place.place; class = c.args.class; flags = n })) (get field_key_cmp c.loop-place.found k)) (ap (λ (f : FieldDef). f.flags) c.field.view_is))
          c.loop-place.invariant)
      | else-not-contains_key w ↦ rw w.found-is
          (there_more field_key_cmp field_laws is_field_under (λ (f : FieldDef). f.flags) c.loop-place.found c.args.fields.now c.args.class.0 c.args.first c.loop-place.place m key _
          c.loop-place-test.true c.index-fields-place.is under
          (sym c.contains_key.ensures ∙ w.if-not-contains_key.false) c.loop-place.invariant)
    ]
