-- An image without what linking adds after its classes know each other and its members are numbered.
use Rattle.std.specs.Prelude.{ℕ, ◌<◌, List, [], length, map, All, IfSome}
use Rattle.dv_defs.specs.declared.class.ClassDef.{ClassDef}
use Rattle.dv_defs.specs.declared.image.ClassInfo.{ClassInfo}
use Rattle.dv_defs.specs.declared.image.MethodInfo.{MethodInfo}
use Rattle.dv_defs.specs.declared.image.FieldInfo.{FieldInfo}
use Rattle.dv_defs.specs.Images.{Image}
use Rattle.dv_defs.specs.Pools.{Method, Field}

abbrev pub class_stripped : ClassInfo → ClassInfo
class_stripped c = record { def = c.def; parent = c.parent; interfaces = c.interfaces; slots = []; table = []; prior = [] }

abbrev pub method_info_stripped : MethodInfo → MethodInfo
method_info_stripped m = record { class = m.class; place = m.place; types = []; fields = []; methods = [] }

abbrev pub field_info_stripped : FieldInfo → FieldInfo
field_info_stripped f = record { class = f.class; place = f.place; slot = 0 }

abbrev pub stripped : Image → Image
stripped image =
    record {
      classes = map class_stripped image.classes;
      methods = map method_info_stripped image.methods;
      fields = map field_info_stripped image.fields;
      boot = image.boot;
    }

abbrev pub method_stripped : Method → Method
method_stripped m = record { id = m.id; info = method_info_stripped m.info; def = m.def }

abbrev pub field_stripped : Field → Field
field_stripped f = record { id = f.id; info = field_info_stripped f.info; def = f.def }

-- the names of class definitions in their order
abbrev pub def_names : List ClassDef → List (List ℕ)
def_names cs = map (λ c. c.name) cs

-- the numbers of superclasses and interfaces are those of classes
pub record IsInRange (count : ℕ) (c : ClassInfo) : Type 0 where
  pub parent : IfSome c.parent (λ p. p.0 < count)
  pub interfaces : All (λ i. i.0 < count) c.interfaces

abbrev pub AreInRange : List ClassInfo → Type 0
AreInRange cs = All (IsInRange (length cs)) cs
