-- The values of a linked image's fields stand where they may.
use Rattle.std.specs.Prelude.{ℕ, ◌≡◌, true, List, Option, Some, None, slice_get, option_map, All, IsTrue}
use Rattle.std.proofs.Common.{refl, ap, subst, ◌∙◌}
use Rattle.std.proofs.lemmas.Option.{slice_get-map}
use Rattle.std.proofs.lemmas.List.Elements.{All-nil}
use Rattle.dv_defs.specs.declared.class.FieldDef.{FieldDef}
use Rattle.dv_defs.specs.declared.image.ClassInfo.{ClassInfo}
use Rattle.dv_defs.specs.declared.image.FieldInfo.{FieldInfo}
use Rattle.dv_defs.specs.Images.{Image}
use Rattle.dv_defs.specs.Field.{may_stand}
use Rattle.dv_defs.specs.Pools.{Field, fields_of, field_at, with_field, with_field_info}
use Rattle.dv_defs.specs.Linked.{IsImage, HasValues, defs}
use Rattle.dv_machine.specs.Accepted.{HasInits}
use Rattle.law_flow.proofs.Each.{all_at}

abbrev Stands : FieldDef → Type 0
Stands f = IsTrue (may_stand f.init f.ty f.flags)

-- the values of a class's fields
class_stands : (cs : List ClassInfo) → All HasValues (defs cs) → (c : ℕ) (o : Option ClassInfo) → slice_get cs c ≡ o → All Stands (fields_of o)
class_stands cs all c None at = All-nil Stands
class_stands cs all c (Some info) at =
    all_at HasValues (defs cs) c info.def (slice_get-map (λ (i : ClassInfo). i.def) cs c ∙ ap (option_map (λ (i : ClassInfo). i.def)) at) all

-- the value of a field of such a class
field_stands : (x : ℕ) (info : FieldInfo) (fs : List FieldDef) → All Stands fs → (o : Option FieldDef) → slice_get fs info.place ≡ o → (f : Field) → with_field x info o ≡ Some f → may_stand f.def.init f.def.ty f.def.flags ≡ true
field_stands x info fs all None at f is = absurd (cc)
field_stands x info fs all (Some def) at f is =
    let made : Field = record { id = x; info = info; def = def } in
    let same : made ≡ f = cc in
    let stands : Stands def = all_at Stands fs info.place def at all in
    subst (λ (g : Field). may_stand g.def.init g.def.ty g.def.flags ≡ true) same stands

by_info : (image : Image) → All HasValues (defs image.classes) → (x : ℕ) (f : Field) (o : Option FieldInfo) → with_field_info image x o ≡ Some f → may_stand f.def.init f.def.ty f.def.flags ≡ true
by_info image all x f None is = absurd (cc)
by_info image all x f (Some info) is =
    let fs : List FieldDef = fields_of (slice_get image.classes info.class.0) in
    field_stands x info fs (class_stands image.classes all info.class.0 (slice_get image.classes info.class.0) refl) (slice_get fs info.place) refl f is

value_stands : (image : Image) → IsImage image → (x : ℕ) (f : Field) → field_at image x ≡ Some f → may_stand f.def.init f.def.ty f.def.flags ≡ true
unfolding field_at
value_stands image is x f at = by_info image is.values x f (slice_get image.fields x) at

pub image_inits : (image : Image) → IsImage image → HasInits image
image_inits image is = record { inits = value_stands image is }
