-- What the laws take of the classes of an image, and what follows for types.
use Rattle.std.specs.Prelude.{◌≡◌, ◌≢◌, ◌<◌, ℕ, true, [], length, Some, None, slice_get}
use Rattle.dv_defs.specs.declared.names.Ty.{Ty}
use Rattle.dv_defs.specs.Images.{Image}
use Rattle.dv_defs.specs.Names.{object_name}
use Rattle.dv_defs.specs.Types.{of_class, is_array, component, is_reference}
use Rattle.dv_defs.specs.Pools.{is_interface, class_named, name_at, parent_at}
use Rattle.dv_defs.specs.Order.{sub, instance, fits, assignable, has_number, above, interfaces_of}

-- the classes can be put in an order in which each stands after those that it names; names are told once
pub record IsHierarchy (image : Image) : Type 0 where
  pub place : ℕ → ℕ
  pub bounded : (c : ℕ) → c < length image.classes → place c < length image.classes
  pub inside : (c d : ℕ) → has_number d (above image c) ≡ true → d < length image.classes
  pub rises : (c d : ℕ) → has_number d (above image c) ≡ true → place d < place c
  pub once : (c : ℕ) → c < length image.classes → class_named image (name_at image c) ≡ Some c
  -- a class that is there has a name
  pub named : (c : ℕ) → c < length image.classes → name_at image c ≢ []
  -- only Object has no superclass, and an interface's is Object
  pub root : (c : ℕ) → c < length image.classes → parent_at image c ≡ None → name_at image c ≡ object_name
  pub interfaces : (c p : ℕ) → is_interface image c ≡ true → parent_at image c ≡ Some p → name_at image p ≡ object_name
  -- what stands as a superinterface is an interface
  pub superinterfaces : (c d : ℕ) → has_number d (interfaces_of (slice_get image.classes c)) ≡ true → is_interface image d ≡ true

-- the facts on types that the laws use
pub record IsOrder (image : Image) : Type 0 where
  pub same : (s : Ty) → sub image s s ≡ true
  pub trans : (s t u : Ty) → sub image s t ≡ true → sub image t u ≡ true → sub image s u ≡ true
  pub antisymmetric : (s t : Ty) → sub image s t ≡ true → sub image t s ≡ true → s ≡ t
  pub sub_instance : (s t : Ty) → sub image s t ≡ true → instance image s t ≡ true
  pub instance_trans : (s t u : Ty) → instance image s t ≡ true → instance image t u ≡ true → instance image s u ≡ true
  -- a value that fits a type fits each type above it, also one above by assignment or by a cast
  pub fits_up : (x s t : Ty) → fits image x s ≡ true → sub image s t ≡ true → fits image x t ≡ true
  pub fits_assignable : (x s t : Ty) → fits image x s ≡ true → assignable image s t ≡ true → fits image x t ≡ true
  pub instance_fits : (x t : Ty) → is_reference x ≡ true → instance image x t ≡ true → fits image x t ≡ true
  pub fits_through : (x s t : Ty) → fits image x s ≡ true → instance image s t ≡ true → fits image x t ≡ true
  -- of an array that fits an array type the components are instances
  pub components :
      (x t : Ty) → fits image x t ≡ true → is_array t ≡ true →
      (is_array x ≡ true) × (instance image (component x) (component t) ≡ true)
  pub object_fits : (x : Ty) → is_reference x ≡ true → fits image x (of_class object_name) ≡ true
