-- What is found by going up from class to class.
use Rattle.std.specs.Prelude.{◌≡◌, ℕ, ◌+◌, ◌<◌, Bool, true, false, ◌&&◌, ◌||◌, not, List, [], length, count_by, Option, Some, None, slice_index_or}
use Rattle.std.specs.List.{list_all}
use Rattle.dv_defs.specs.declared.names.ClassId.{ClassId}
use Rattle.dv_defs.specs.declared.image.ClassInfo.{ClassInfo}
use Rattle.dv_defs.specs.Images.{Image}
use Rattle.dv_defs.specs.Pools.{class_number}
use Rattle.dv_defs.specs.Order.{has_number, numbers, with_parent, above, any_of, implements}

-- an image of these classes
abbrev pub bare : List ClassInfo → Image
bare cs = record { classes = cs; methods = []; fields = []; boot = 0 }

abbrev pub above_of : ClassInfo → List ℕ
above_of info = with_parent (class_number info.parent) (numbers info.interfaces)

unfoldable pub is_self_dependent : List ClassInfo → ℕ → Bool
is_self_dependent cs c = any_of (λ d. implements (bare cs) d c) (above (bare cs) c)

abbrev pub is_marked : List Bool → ℕ → Bool
is_marked marks c = slice_index_or marks c false

abbrev pub is_parent_marked : List Bool → Option ClassId → Bool
is_parent_marked marks None = true
is_parent_marked marks (Some c) = is_marked marks c.0

-- all that stands directly above a class is marked
abbrev pub is_ready : List Bool → ClassInfo → Bool
is_ready marks info = list_all (λ c. is_marked marks c.0) info.interfaces && is_parent_marked marks info.parent

-- no marked class depends on itself, and all that stands above one is marked
pub record AreFree (cs : List ClassInfo) (marks : List Bool) : Type 0 where
  pub closed : (c d : ℕ) → is_marked marks c ≡ true → has_number d (above (bare cs) c) ≡ true → is_marked marks d ≡ true
  pub free : (c : ℕ) → is_marked marks c ≡ true → is_self_dependent cs c ≡ false

-- of the first n classes, each above which all is marked is marked
abbrev pub HasEachReady : List ClassInfo → List Bool → ℕ → Type 0
HasEachReady cs marks n =
    (c : ℕ) → c < n → ((d : ℕ) → has_number d (above (bare cs) c) ≡ true → is_marked marks d ≡ true) → is_marked marks c ≡ true

abbrev pub unmarked : List Bool → ℕ
unmarked marks = count_by not marks

-- these classes are marked too, and those that weren't marked before wait
pub record HasMet (cs : List ℕ) (before : List Bool) (waiting_before : List ClassId) (marks : List Bool) (waiting : List ClassId) : Type 0 where
  pub many : length marks ≡ length before
  pub marked : (d : ℕ) → is_marked marks d ≡ is_marked before d || has_number d cs
  pub waits : (d : ℕ) → has_number d (numbers waiting) ≡ has_number d (numbers waiting_before) || (has_number d cs && not (is_marked before d))
  pub left : unmarked marks + length waiting ≡ unmarked before + length waiting_before
