-- The classes that declare a member of a name and a prototype or a type.
use Rattle.std.specs.Prelude.{◌≡◌, true, List, [], Option, Some, None, is_some}
use Rattle.std.specs.Global.{Vec}
use Rattle.std.specs.BTreeMap.{BTreeMap, get}
use Rattle.std.specs.declared.cmp.Ordering.{Ordering}
use Rattle.dv_defs.specs.declared.names.ClassId.{ClassId}
use Rattle.dv_defs.specs.Order.{has_number, numbers}
use Rattle.dv_resolve.specs.declared.members.Member.{Member}
use Rattle.dv_resolve.specs.declared.members.MethodKey.{MethodKey}
use Rattle.dv_resolve.specs.declared.members.FieldKey.{FieldKey}
use Rattle.dv_resolve.specs.declared.declarers.MethodName.{MethodName}
use Rattle.dv_resolve.specs.declared.declarers.FieldName.{FieldName}
use Rattle.dv_resolve.specs.contracts.members.MethodKeyOrd.TheImpl as of_method_key
use Rattle.dv_resolve.specs.contracts.members.FieldKeyOrd.TheImpl as of_field_key
use Rattle.dv_resolve.specs.contracts.declarers.MethodNameOrd.TheImpl as of_method_name
use Rattle.dv_resolve.specs.contracts.declarers.FieldNameOrd.TheImpl as of_field_name

abbrev pub method_key_cmp : MethodKey → MethodKey → Ordering
method_key_cmp = (of_method_key.ghosts).cmp

abbrev pub field_key_cmp : FieldKey → FieldKey → Ordering
field_key_cmp = (of_field_key.ghosts).cmp

abbrev pub method_name_cmp : MethodName → MethodName → Ordering
method_name_cmp = (of_method_name.ghosts).cmp

abbrev pub field_name_cmp : FieldName → FieldName → Ordering
field_name_cmp = (of_field_name.ghosts).cmp

abbrev pub method_name : MethodKey → MethodName
method_name k = record { name = k.name; proto = k.proto }

abbrev pub field_name : FieldKey → FieldName
field_name k = record { name = k.name; ty = k.ty }

-- the classes that a look-up by a name finds
abbrev pub classes_in : Option (Vec ClassId) → List ClassId
classes_in None = []
classes_in (Some classes) = classes.items

-- each class that declares a method is told by the method's name and prototype
abbrev pub HasMethodDeclarers : BTreeMap MethodKey Member → BTreeMap MethodName (Vec ClassId) → Type 0
HasMethodDeclarers methods declarers =
    (k : MethodKey) → is_some (get method_key_cmp methods k) ≡ true → has_number k.class.0 (numbers (classes_in (get method_name_cmp declarers (method_name k)))) ≡ true

-- each class that declares a field by the field's name and type
abbrev pub HasFieldDeclarers : BTreeMap FieldKey Member → BTreeMap FieldName (Vec ClassId) → Type 0
HasFieldDeclarers fields declarers =
    (k : FieldKey) → is_some (get field_key_cmp fields k) ≡ true → has_number k.class.0 (numbers (classes_in (get field_name_cmp declarers (field_name k)))) ≡ true
