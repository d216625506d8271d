-- The table of a class, from the methods by key that it and its superclasses have and from those that interfaces offer.
use Rattle.std.specs.Prelude.{◌≡◌, ℕ, List, [], length, map, Some, None}
use Rattle.dv_defs.specs.declared.names.MethodId.{MethodId}
use Rattle.dv_defs.specs.declared.image.Select.{Select}
use Rattle.dv_defs.specs.Images.{Image}
use Rattle.dv_defs.specs.Pools.{Method, nearest, supers}
use Rattle.dv_defs.specs.Selecting.{chosen, offered}
use Rattle.dv_defs.specs.Linked.{callable_along, key_of}
use Rattle.dv_vtable.specs.declared.rows.Room.{Room}
use Rattle.dv_vtable.specs.declared.sources.Sources.{Sources}
use Rattle.dv_vtable.specs.Choosing.{AreMarked, methods_at}
use Rattle.dv_vtable.specs.Numbered.{numbers_of}
use Rattle.dv_vtable.specs.Offers.{offered_to}
use Rattle.dv_vtable.specs.Sources.{itself_at}

-- by key, the nearest method from a class up
abbrev pub nearest_id : Image → ℕ → Method → MethodId
nearest_id image c m = record { 0 = elim (nearest image c m.def.name m.def.proto) [ None ↦ m.id | Some n ↦ n.id ] }

abbrev pub chain_at : Image → ℕ → List (ℕ × MethodId)
chain_at image c = map (λ m. (key_of image m, nearest_id image c m)) (callable_along image (supers image c))

-- and what interfaces offer beside these
abbrev pub offers_at : Image → ℕ → List (ℕ × List MethodId)
offers_at image c = offered_to image (numbers_of (chain_at image c)) [] (offered image c)

-- what calls select by these
abbrev pub itself_row : Image → List (ℕ × MethodId) → List Select
itself_row image es = map (λ e. itself_at image e.1) es

abbrev pub chosen_row : Image → List (ℕ × List MethodId) → List Select
chosen_row image es = map (λ e. chosen image (methods_at image e.1)) es

-- there is room for the numbers of all keys, and a mark for each class, of which none is marked
pub record IsRoom (p : Sources) (room : Room) : Type 0 where
  pub chain : room.chain.count ≡ length p.keys.now.keys.items
  pub offers : room.offers.count ≡ length p.keys.now.keys.items
  pub count : length room.marks.items ≡ length p.infos.now
  pub marks : AreMarked room.marks.items []
