-- The first member that each class declares of a name and a prototype or a type.
use Rattle.std.specs.Prelude.{ℕ, suc, ◌+◌, Bool, ◌&&◌, List, [], ◌∷◌, length, Option, Some, None, nat_eq, bytes_eq, if◌then◌else◌}
use Rattle.std.specs.Option.{option_or}
use Rattle.dv_defs.specs.declared.class.FieldDef.{FieldDef}
use Rattle.dv_defs.specs.declared.class.MethodDef.{MethodDef}
use Rattle.dv_defs.specs.declared.image.ClassInfo.{ClassInfo}
use Rattle.dv_defs.specs.Numbering.{class_id}
use Rattle.dv_defs.specs.Types.{same_proto, ty_eq}
use Rattle.dv_resolve.specs.declared.members.Member.{Member}
use Rattle.dv_resolve.specs.declared.members.MethodKey.{MethodKey}
use Rattle.dv_resolve.specs.declared.members.FieldKey.{FieldKey}

-- the first of a class's members that a test picks, where they are numbered from an id on
abbrev pub first_own : {M : Type 0} → (ℕ → M → Bool) → (M → ℕ) → ℕ → ℕ → List M → Option Member
first_own like flags c id [] = None
first_own like flags c id (m ∷ ms) =
    if like c m then Some (record { id = id; class = class_id c; flags = flags m }) else first_own like flags c (suc id) ms

-- of all classes, numbered from one on
abbrev pub first_from : {M : Type 0} → (ClassInfo → List M) → (ℕ → M → Bool) → (M → ℕ) → ℕ → ℕ → List ClassInfo → Option Member
first_from members like flags c id [] = None
first_from members like flags c id (i ∷ is) =
    option_or (first_own like flags c id (members i)) (first_from members like flags (suc c) (id + length (members i)) is)

abbrev pub is_method_under : MethodKey → ℕ → MethodDef → Bool
is_method_under k c m = nat_eq c k.class.0 && (bytes_eq m.name k.name.now && same_proto m.proto k.proto.now)

abbrev pub is_field_under : FieldKey → ℕ → FieldDef → Bool
is_field_under k c f = nat_eq c k.class.0 && (bytes_eq f.name k.name.now && ty_eq f.ty k.ty.now)

abbrev pub first_method_own : MethodKey → ℕ → ℕ → List MethodDef → Option Member
first_method_own k = first_own (is_method_under k) (λ m. m.flags)

abbrev pub first_methods_from : MethodKey → ℕ → ℕ → List ClassInfo → Option Member
first_methods_from k = first_from (λ c. c.def.methods) (is_method_under k) (λ m. m.flags)

abbrev pub first_field_own : FieldKey → ℕ → ℕ → List FieldDef → Option Member
first_field_own k = first_own (is_field_under k) (λ f. f.flags)

abbrev pub first_fields_from : FieldKey → ℕ → ℕ → List ClassInfo → Option Member
first_fields_from k = first_from (λ c. c.def.fields) (is_field_under k) (λ f. f.flags)
