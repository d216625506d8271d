-- The orders in which look-ups go through classes.
use Rattle.std.specs.Prelude.{◌≡◌, ◌<◌, ◌≤◌, ℕ, Bool, true, false, List, [], ◌∷◌, length, drop, set, min, flat_map, slice_get, slice_index, slice_index_or, Option, Some}
use Rattle.std.specs.Option.{option_or}
use Rattle.dv_defs.specs.declared.names.ClassId.{ClassId}
use Rattle.dv_defs.specs.First.{first_in}
use Rattle.dv_defs.specs.Images.{Image}
use Rattle.dv_defs.specs.LookUp.{interfaces_above, method_classes, once}
use Rattle.dv_defs.specs.Order.{has_number, numbers}
use Rattle.dv_defs.specs.Pools.{supers}
use Rattle.dv_resolve.specs.declared.members.Member.{Member}
use Rattle.dv_resolve.specs.declared.orders.Order.{Order}
use Rattle.dv_resolve.specs.declared.orders.Orders.{Orders}

-- the place that is noted for a class; a class for which none can be noted may stand anywhere
abbrev pub place_of : List ℕ → ℕ → ℕ
place_of places c = slice_index places c

-- an order and what is left to add find what the whole finds, and each class that has a place is there, no earlier than at it
pub record GoesOn (order : Order) (rest whole : List ℕ) : Type 0 where
  pub first : (f : ℕ → Option Member) → option_or (first_in f (numbers order.classes.items)) (first_in f rest) ≡ first_in f whole
  pub there : (c : ℕ) → c < length order.places.items → place_of order.places.items c < 65535 → has_number c (numbers order.classes.items) ≡ true
  pub least : (j c : ℕ) → slice_get (numbers order.classes.items) j ≡ Some c → place_of order.places.items c ≤ j

-- the place of a class is noted where it has none, or none can be noted for it
abbrev pub IsNoted : List ℕ → List ℕ → ℕ → ℕ → Bool → Type 0
IsNoted old new c place true = (new ≡ set old c (min place 65535)) × (c < length old → 65535 ≤ place_of old c)
IsNoted old new c place false = (new ≡ old) × (c < length old) × (place_of old c < 65535)

abbrev pub listed_at : List (List ClassId) → ℕ → List ℕ
listed_at interfaces c = numbers (slice_index_or interfaces c [])

abbrev pub fields_through : List (List ClassId) → List ℕ → List ℕ
fields_through interfaces up = flat_map (λ c. c ∷ listed_at interfaces c) up

-- a search along the order finds what one through these classes finds, and no class stands before its place
pub record IsLookedUpIn (order : Order) (classes : List ℕ) : Type 0 where
  pub first : (f : ℕ → Option Member) → first_in f (numbers order.classes.items) ≡ first_in f classes
  pub least : (j c : ℕ) → slice_get (numbers order.classes.items) j ≡ Some c → place_of order.places.items c ≤ j

pub record IsOrdersOf (image : Image) (c : ℕ) (orders : Orders) : Type 0 where
  pub fields : IsLookedUpIn orders.fields (flat_map (λ d. d ∷ once (interfaces_above image d)) (supers image c))
  pub methods : IsLookedUpIn orders.methods (method_classes image c)

abbrev pub AreKnown : Image → List Orders → Type 0
AreKnown image all = (c : ℕ) (orders : Orders) → slice_get all c ≡ Some orders → IsOrdersOf image c orders

-- the orders that are known of classes among these find what a search from there on finds
abbrev pub KnowsRest : List Orders → List (List ClassId) → List ℕ → Type 0
KnowsRest known interfaces up =
    (i d : ℕ) (orders : Orders) → slice_get up i ≡ Some d → slice_get known d ≡ Some orders
    → (f : ℕ → Option Member) → first_in f (numbers orders.fields.classes.items) ≡ first_in f (fields_through interfaces (drop i up))

-- each class has its orders
pub record AreOrders (image : Image) (all : List Orders) : Type 0 where
  pub many : length all ≡ length image.classes
  pub each : AreKnown image all
