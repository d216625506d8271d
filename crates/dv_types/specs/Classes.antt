-- Which class of an image extends which, as a table.
use Rattle.std.specs.Prelude.{◌≡◌, ◌<◌, ℕ, Bool, false, List, [], length, slice_index_or}
use Rattle.dv_defs.specs.Images.{Image}
use Rattle.dv_defs.specs.Names.{object_name}
use Rattle.dv_defs.specs.Order.{extends}
use Rattle.dv_defs.specs.Pools.{name_at}
use Rattle.law_types.specs.Hierarchy.{IsHierarchy}

-- by class, whether it is above this one or this one itself
pub record IsRow (image : Image) (class : ℕ) (row : List Bool) : Type 0 where
  pub count : length row ≡ length image.classes
  pub each : (d : ℕ) → d < length image.classes → slice_index_or row d false ≡ extends image class d

-- a row for each class
pub record AreRows (image : Image) (rows : List (List Bool)) : Type 0 where
  pub count : length rows ≡ length image.classes
  pub each : (c : ℕ) → c < length image.classes → IsRow image c (slice_index_or rows c [])

-- the class is there, and is Object
pub record IsObject (image : Image) (object : ℕ) : Type 0 where
  pub inside : object < length image.classes
  pub named : name_at image object ≡ object_name

-- the classes of a hierarchy with its Object
pub record IsTable (image : Image) (rows : List (List Bool)) (object : ℕ) : Type 0 where
  pub hierarchy : IsHierarchy image
  pub filled : AreRows image rows
  pub top : IsObject image object
