-- What the first phases of linking keep of the classes of an image.
use Rattle.std.specs.Prelude.{◌≡◌, ◌<◌, ℕ, true, false, [], length, Some, None, slice_get}
use Rattle.dv_defs.specs.Images.{Image}
use Rattle.dv_defs.specs.Names.{object_name}
use Rattle.dv_defs.specs.Pools.{class_named, parent_at, fields_of, is_interface}
use Rattle.dv_defs.specs.Order.{has_number, above, any_of, implements}
use Rattle.dv_defs.specs.LookUp.{interfaces_at}
use Rattle.law_linking.specs.Stripped.{AreInRange}

-- superclasses and interfaces are classes of the image, and none depends on itself; of all classes Object alone has no superclass,
-- and it has neither interface nor field; what is named as an interface is one, and an interface's superclass is Object
pub record IsOrdered (image : Image) : Type 0 where
  pub range : AreInRange image.classes
  pub acyclic : (c : ℕ) → c < length image.classes → any_of (λ d. implements image d c) (above image c) ≡ false
  pub object : ℕ
  pub object_named : class_named image object_name ≡ Some object
  pub object_in : object < length image.classes
  pub object_parent : parent_at image object ≡ None
  pub object_interfaces : interfaces_at image object ≡ []
  pub object_fields : fields_of (slice_get image.classes object) ≡ []
  pub parents : (c : ℕ) → c < length image.classes → parent_at image c ≡ None → c ≡ object
  pub interfaces : (c d : ℕ) → has_number d (interfaces_at image c) ≡ true → is_interface image d ≡ true
  pub of_interfaces : (d : ℕ) → is_interface image d ≡ true → parent_at image d ≡ Some object
