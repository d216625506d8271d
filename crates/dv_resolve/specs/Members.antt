-- What the members of a program are looked up by.
use Rattle.std.specs.Prelude.{◌≡◌, ◌<◌, ◌^◌, ℕ, Bool, true, List, Option, is_some, length, option_map}
use Rattle.std.specs.BTreeMap.{get}
use Rattle.dv_defs.specs.Images.{Image}
use Rattle.dv_defs.specs.Pools.{Method, Field, declared_by}
use Rattle.dv_defs.specs.declared.names.ClassId.{ClassId}
use Rattle.dv_defs.specs.LookUp.{field_declared, is_method_of}
use Rattle.dv_defs.specs.Numbering.{names_of}
use Rattle.dv_defs.specs.Order.{has_number, numbers}
use Rattle.law_linking.specs.Ordered.{IsOrdered}
use Rattle.dv_resolve.specs.declared.members.Member.{Member}
use Rattle.dv_resolve.specs.declared.members.Members.{Members}
use Rattle.dv_resolve.specs.declared.members.MethodKey.{MethodKey}
use Rattle.dv_resolve.specs.declared.members.FieldKey.{FieldKey}
pub use Rattle.dv_resolve.specs.Declarers.{method_key_cmp, field_key_cmp}
use Rattle.dv_resolve.specs.Declarers.{HasFieldDeclarers, HasMethodDeclarers}
use Rattle.dv_resolve.specs.Orders.{AreOrders}

abbrev pub of_method : Method → Member
of_method m = record { id = m.id; class = m.info.class; flags = m.def.flags }

abbrev pub of_field : Field → Member
of_field f = record { id = f.id; class = f.info.class; flags = f.def.flags }

-- each member is found by the class that declares it, its name and its prototype or type
pub record Knows (members : Members) (image : Image) : Type 0 where
  pub classes : image.classes ≡ members.infos.now
  pub few : length image.classes < 2 ^ 32
  pub ordered : IsOrdered image
  pub names : members.names.now ≡ names_of image.classes
  pub orders : AreOrders image members.orders.items
  pub methods : (k : MethodKey) → get method_key_cmp members.methods k ≡ option_map of_method (declared_by image k.class.0 (is_method_of k.name.now k.proto.now))
  pub fields : (k : FieldKey) → get field_key_cmp members.fields k ≡ option_map of_field (field_declared image k.name.now k.ty.now k.class.0)
  pub method_declarers : HasMethodDeclarers members.methods members.method_declarers
  pub field_declarers : HasFieldDeclarers members.fields members.field_declarers

-- each class in which a test finds something is among these
abbrev pub AreAllOf : {Y : Type 0} → (ℕ → Option Y) → List ClassId → Type 0
AreAllOf finds classes = (c : ℕ) → is_some (finds c) ≡ true → has_number c (numbers classes) ≡ true

-- the first method of a class that is good
abbrev pub declares : Image → (Method → Bool) → ℕ → Option Method
declares image good c = declared_by image c good
