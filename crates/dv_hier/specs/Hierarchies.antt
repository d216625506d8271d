-- What the classes that are linked, and their hierarchy, are seen as, and what each keeps.
use Rattle.std.specs.Prelude.{◌≡◌, ℕ, Bool, false, ◌||◌, List, [], map, All, Option, None, nat_eq, slice_index_or}
use Rattle.dv_defs.specs.declared.names.ClassId.{ClassId}
use Rattle.dv_defs.specs.declared.class.ClassDef.{ClassDef}
use Rattle.dv_defs.specs.declared.image.ClassInfo.{ClassInfo}
use Rattle.dv_defs.specs.declared.image.FieldInfo.{FieldInfo}
use Rattle.std.specs.Option.{option_or}
use Rattle.dv_defs.specs.Images.{Image}
use Rattle.dv_defs.specs.Order.{numbers, implements}
use Rattle.dv_defs.specs.LookUp.{interfaces_above, once}
use Rattle.dv_defs.specs.Numbering.{declared, numbered}
use Rattle.dv_defs.specs.LinkFaults.{Found, first_fault_by, boot_fault, limit_fault, is_twice, wrong_above}
use Rattle.dv_defs.specs.Linked.{defs, slotted, first_phases, AreNamed, HasValues}

pub record ClassesValue : Type 0 where
  pub list : List ClassDef
  pub boot : ℕ

pub record HierarchyValue : Type 0 where
  pub classes : List ClassInfo
  pub fields : List FieldInfo
  pub boot : ℕ

-- the classes with the numbers of those above them and with their cells, and the fields
abbrev pub hierarchy_of : List ClassDef → ℕ → HierarchyValue
hierarchy_of cs boot =
    record { classes = (slotted (numbered cs boot)).classes; fields = (slotted (numbered cs boot)).fields; boot = boot }

abbrev pub without_table : ClassInfo → ClassInfo
without_table c = record { def = c.def; parent = c.parent; interfaces = c.interfaces; slots = c.slots; table = []; prior = [] }

abbrev pub without_tables : HierarchyValue → HierarchyValue
without_tables h = record { classes = map without_table h.classes; fields = h.fields; boot = h.boot }

-- but for tables and what is initialised before each class, a hierarchy is what the first phases give of the definitions in it
pub record IsHierarchy (h : HierarchyValue) : Type 0 where
  pub is_built : first_phases (defs h.classes) h.boot ≡ None
  pub is : without_tables h ≡ hierarchy_of (defs h.classes) h.boot
  pub named : AreNamed (defs h.classes)
  pub values : All HasValues (defs h.classes)

-- by class, the interfaces that it names and those above them, and whether each class is above it
pub record AreAbove (interfaces : List (List ClassId)) (ancestors : List (List Bool)) (classes : List ClassInfo) : Type 0 where
  pub interfaces_are : (image : Image) → image.classes ≡ classes → (c : ℕ) → numbers (slice_index_or interfaces c []) ≡ once (interfaces_above image c)
  pub ancestors_are : (image : Image) → image.classes ≡ classes → (c d : ℕ)
      → (nat_eq c d || slice_index_or (slice_index_or ancestors c []) d false) ≡ implements image c d

-- the phases that go by names: the boot classes, limits, names, what stands above
unfoldable pub naming_phases : List ClassDef → ℕ → Option Found
naming_phases cs boot =
    option_or (boot_fault cs boot)
    (option_or (limit_fault cs boot)
    (option_or (first_fault_by (is_twice (declared cs boot)) cs) (first_fault_by (wrong_above (declared cs boot)) cs)))
