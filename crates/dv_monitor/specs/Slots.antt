-- Monitors that are owned, in slots of which some are empty, and the places by object of those that stand far.
use Rattle.std.specs.Prelude.{◌≡◌, ◌≤◌, ℕ, List, [], ◌∷◌, Option, Some, None, nat_lt, slice_index_or, if◌then◌else◌}
use Rattle.dv_machine.specs.Monitors.{Held, held_in}
use Rattle.dv_monitor.specs.declared.holding.Holding.{Holding}
use Rattle.dv_monitor.specs.declared.slots.TheConstants.{NEAR}

abbrev pub held_value : Holding → Held
held_value h = record { object = h.object; thread = h.thread; count = h.count }

-- the monitors in the slots, in the slots' order
abbrev pub present : List (Option Holding) → List Held
present [] = []
present (None ∷ slots) = present slots
present (Some h ∷ slots) = held_value h ∷ present slots

-- past the end there is none
abbrev pub slot_at : List (Option Holding) → ℕ → Option Holding
slot_at slots place = slice_index_or slots place None

abbrev pub object_in : Option Holding → Option ℕ
object_in None = None
object_in (Some h) = Some h.object

-- what the map has of a monitor at a place
abbrev pub mapped : ℕ → Option ℕ
mapped place = if nat_lt place NEAR then None else Some place

-- the map has just the places of the monitors that stand far, and no two slots have one object
pub record IsIndexed (slots : List (Option Holding)) (place_of : ℕ → Option ℕ) : Type 0 where
  pub far : (object place : ℕ) → place_of object ≡ Some place → NEAR ≤ place
  pub stands : (object place : ℕ) → place_of object ≡ Some place → object_in (slot_at slots place) ≡ Some object
  pub found : (object place : ℕ) → NEAR ≤ place → object_in (slot_at slots place) ≡ Some object → place_of object ≡ Some place
  pub once : (object place other : ℕ) → object_in (slot_at slots place) ≡ Some object → object_in (slot_at slots other) ≡ Some object → other ≡ place

-- the owned monitors in the order of their first entering, and how many more find room without memory
pub record HeldList : Type 0 where
  pub held : List Held
  pub room : ℕ

abbrev pub owner_in : List Held → ℕ → Option ℕ
owner_in held object = elim (held_in held object) [ None ↦ None | Some h ↦ Some h.thread ]
