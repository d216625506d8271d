-- A member that is found has a class that is there.
use Rattle.std.specs.Prelude.{ℕ, ◌≡◌, ◌<◌, List, length, Option, Some, None, slice_get}
use Rattle.std.proofs.Common.{refl, sym, ap, ◌∙◌}
use Rattle.std.proofs.lemmas.Option.{slice_get_within}
use Rattle.dv_defs.specs.declared.class.MethodDef.{MethodDef}
use Rattle.dv_defs.specs.declared.class.FieldDef.{FieldDef}
use Rattle.dv_defs.specs.declared.image.ClassInfo.{ClassInfo}
use Rattle.dv_defs.specs.declared.image.FieldInfo.{FieldInfo}
use Rattle.dv_defs.specs.declared.image.MethodInfo.{MethodInfo}
use Rattle.dv_defs.specs.Images.{Image}
use Rattle.dv_defs.specs.Pools.{Method, Field, method_at, field_at, methods_of, fields_of, with_def, with_info, with_field, with_field_info}

-- a class that declares a member is there
declares_field : (cs : List ClassInfo) (c k : ℕ) (o : Option ClassInfo) → slice_get cs c ≡ o → (def : FieldDef) → slice_get (fields_of o) k ≡ Some def → c < length cs
declares_field cs c k None at def is = absurd (cc)
declares_field cs c k (Some info) at def is = slice_get_within cs c info at

declares_method : (cs : List ClassInfo) (c k : ℕ) (o : Option ClassInfo) → slice_get cs c ≡ o → (def : MethodDef) → slice_get (methods_of o) k ≡ Some def → c < length cs
declares_method cs c k None at def is = absurd (cc)
declares_method cs c k (Some info) at def is = slice_get_within cs c info at

-- a member with its definition
field_is : (x : ℕ) (info : FieldInfo) (o : Option FieldDef) (f : Field) → with_field x info o ≡ Some f → (info ≡ f.info) × (o ≡ Some f.def)
field_is x info None f is = absurd (cc)
field_is x info (Some def) f is =
    let made : Field = record { id = x; info = info; def = def } in
    let same : made ≡ f = cc in
    (ap (λ (g : Field). g.info) same, ap (λ (g : Field). Some g.def) same)

method_is : (n : ℕ) (info : MethodInfo) (o : Option MethodDef) (m : Method) → with_def n info o ≡ Some m → (info ≡ m.info) × (o ≡ Some m.def)
method_is n info None m is = absurd (cc)
method_is n info (Some def) m is =
    let made : Method = record { id = n; info = info; def = def } in
    let same : made ≡ m = cc in
    (ap (λ (g : Method). g.info) same, ap (λ (g : Method). Some g.def) same)

-- what a member's number stands for
abbrev pub IsFieldIn : Image → ℕ → Field → Type 0
IsFieldIn image x f = (slice_get image.fields x ≡ Some f.info) × (slice_get (fields_of (slice_get image.classes f.info.class.0)) f.info.place ≡ Some f.def)

abbrev pub IsMethodIn : Image → ℕ → Method → Type 0
IsMethodIn image n m = (slice_get image.methods n ≡ Some m.info) × (slice_get (methods_of (slice_get image.classes m.info.class.0)) m.info.place ≡ Some m.def)

field_in : (image : Image) (x : ℕ) (f : Field) (o : Option FieldInfo) → slice_get image.fields x ≡ o → with_field_info image x o ≡ Some f → IsFieldIn image x f
field_in image x f None at is = absurd (cc)
field_in image x f (Some info) at is =
    let parts = field_is x info (slice_get (fields_of (slice_get image.classes info.class.0)) info.place) f is in (
      at ∙ ap Some parts.0,
      sym (ap (λ (i : FieldInfo). slice_get (fields_of (slice_get image.classes i.class.0)) i.place) parts.0) ∙ parts.1,
    )

method_in : (image : Image) (n : ℕ) (m : Method) (o : Option MethodInfo) → slice_get image.methods n ≡ o → with_info image n o ≡ Some m → IsMethodIn image n m
method_in image n m None at is = absurd (cc)
method_in image n m (Some info) at is =
    let parts = method_is n info (slice_get (methods_of (slice_get image.classes info.class.0)) info.place) m is in (
      at ∙ ap Some parts.0,
      sym (ap (λ (i : MethodInfo). slice_get (methods_of (slice_get image.classes i.class.0)) i.place) parts.0) ∙ parts.1,
    )

pub field_there : (image : Image) (x : ℕ) (f : Field) → field_at image x ≡ Some f → IsFieldIn image x f
unfolding field_at
field_there image x f at = field_in image x f (slice_get image.fields x) refl at

pub method_there : (image : Image) (n : ℕ) (m : Method) → method_at image n ≡ Some m → IsMethodIn image n m
unfolding method_at
method_there image n m at = method_in image n m (slice_get image.methods n) refl at

pub class_of_field : (image : Image) (x : ℕ) (f : Field) → field_at image x ≡ Some f → f.info.class.0 < length image.classes
class_of_field image x f at =
    declares_field image.classes f.info.class.0 f.info.place (slice_get image.classes f.info.class.0) refl f.def (field_there image x f at).1

pub class_of_method : (image : Image) (n : ℕ) (m : Method) → method_at image n ≡ Some m → m.info.class.0 < length image.classes
class_of_method image n m at =
    declares_method image.classes m.info.class.0 m.info.place (slice_get image.classes m.info.class.0) refl m.def (method_there image n m at).1
