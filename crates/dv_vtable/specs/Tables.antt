-- What classes with tables of methods are seen as, and what they keep.
use Rattle.std.specs.Prelude.{◌≡◌, ℕ, List, [], map, Some, None, slice_get, slice_index_or}
use Rattle.dv_defs.specs.declared.class.ClassDef.{ClassDef}
use Rattle.dv_defs.specs.declared.image.MethodInfo.{MethodInfo}
use Rattle.dv_defs.specs.Images.{Image}
use Rattle.dv_defs.specs.Numbering.{numbered}
use Rattle.dv_defs.specs.Pools.{Method, method_at}
use Rattle.dv_defs.specs.Linked.{defs, slotted, tabled, method_phase, key_of, keyed_at}
use Rattle.dv_hier.specs.Hierarchies.{HierarchyValue}

pub record TabledValue : Type 0 where
  pub h : HierarchyValue
  pub methods : List MethodInfo

-- the hierarchy with tables, and the methods with nothing resolved
abbrev pub tabled_of : List ClassDef → ℕ → TabledValue
tabled_of cs boot =
    record {
      h = record {
        classes = (tabled (slotted (numbered cs boot))).classes;
        fields = (tabled (slotted (numbered cs boot))).fields;
        boot = boot;
      };
      methods = (tabled (slotted (numbered cs boot))).methods;
    }

-- it is what the phase of methods gives of the definitions in it
pub record IsTabled (t : TabledValue) : Type 0 where
  pub is_checked : method_phase (defs t.h.classes) t.h.boot ≡ None
  pub is : t ≡ tabled_of (defs t.h.classes) t.h.boot

-- the image of these classes and methods
abbrev pub image_of : TabledValue → Image
image_of t = record { classes = t.h.classes; methods = t.methods; fields = t.h.fields; boot = t.h.boot }

-- the numbers of names and prototypes: by method, and by class those for which the places of its table stand
pub record AreKeyed (keys : List ℕ) (places : List (List ℕ)) (image : Image) : Type 0 where
  pub keys_are : (n : ℕ) (m : Method) → method_at image n ≡ Some m → slice_get keys n ≡ Some (key_of image m)
  pub places_are : (c : ℕ) → slice_index_or places c [] ≡ map (key_of image) (keyed_at image c)
