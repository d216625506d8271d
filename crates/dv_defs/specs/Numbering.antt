-- The classes of a program before their members are resolved: each knows its superclass and its interfaces by number, and
-- all methods and fields are numbered.
use Rattle.std.specs.Prelude.{ℕ, suc, List, [], ◌∷◌, ◌++◌, length, map, filter_map, None, option_map, option_and_then}
use Rattle.std.specs.List.{range_with_len}
use Rattle.dv_defs.specs.declared.names.ClassId.{ClassId}
use Rattle.dv_defs.specs.declared.class.ClassDef.{ClassDef}
use Rattle.dv_defs.specs.declared.image.ClassInfo.{ClassInfo}
use Rattle.dv_defs.specs.declared.image.MethodInfo.{MethodInfo}
use Rattle.dv_defs.specs.declared.image.FieldInfo.{FieldInfo}
use Rattle.dv_defs.specs.Images.{Image}
use Rattle.dv_defs.specs.Pools.{class_named}

abbrev pub class_id : ℕ → ClassId
class_id c = record { 0 = c }

-- the methods of a class in their order, with nothing resolved
abbrev pub methods_declared : ℕ → ClassDef → List MethodInfo
methods_declared i c =
    map (λ k. record { class = class_id i; place = k; types = []; fields = []; methods = [] }) (range_with_len 0 (length c.methods))

-- of classes numbered from one on
abbrev pub all_methods_declared : ℕ → List ClassDef → List MethodInfo
all_methods_declared i [] = []
all_methods_declared i (c ∷ cs) = methods_declared i c ++ all_methods_declared (suc i) cs

abbrev pub fields_declared : ℕ → ClassDef → List FieldInfo
fields_declared i c = map (λ k. record { class = class_id i; place = k; slot = 0 }) (range_with_len 0 (length c.fields))

abbrev pub all_fields_declared : ℕ → List ClassDef → List FieldInfo
all_fields_declared i [] = []
all_fields_declared i (c ∷ cs) = fields_declared i c ++ all_fields_declared (suc i) cs

abbrev pub class_declared : ClassDef → ClassInfo
class_declared c = record { def = c; parent = None; interfaces = []; slots = []; table = []; prior = [] }

-- the classes as they are declared, which know no other
unfoldable pub declared : List ClassDef → ℕ → Image
declared cs boot =
    record {
      classes = map class_declared cs;
      methods = all_methods_declared 0 cs;
      fields = all_fields_declared 0 cs;
      boot = boot;
    }

-- with the superclass and the interfaces that an image has
abbrev pub class_numbered : Image → ClassDef → ClassInfo
class_numbered image c =
    record {
      def = c;
      parent = option_map class_id (option_and_then (class_named image) c.parent);
      interfaces = map class_id (filter_map (class_named image) c.interfaces);
      slots = [];
      table = [];
      prior = [];
    }

unfoldable pub numbered : List ClassDef → ℕ → Image
numbered cs boot =
    record {
      classes = map (class_numbered (declared cs boot)) cs;
      methods = all_methods_declared 0 cs;
      fields = all_fields_declared 0 cs;
      boot = boot;
    }

-- the names of classes in their order
abbrev pub names_of : List ClassInfo → List (List ℕ)
names_of cs = map (λ c. c.def.name) cs
