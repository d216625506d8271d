-- The addresses of items and labels, in units.
use Rattle.std.specs.Prelude.{ℕ, zero, suc, ◌≡◌, ◌+◌, ◌%◌, ◌^◌, ◌≤◌, ℤ, pos, ◌-ℤ◌, Bool, false, ◌&&◌, nat_eq, List, [], ◌∷◌, length, drop, position, slice_index, Option, option_map, if◌then◌else◌}
use Rattle.std.specs.Option.{option_map_or}
use Rattle.std.specs.BTreeMap.{BTreeMap, get}
use Rattle.std.specs.Cmp.Lexicographic.{slice_cmp}
use Rattle.std.specs.Ordering.{nat_cmp}
use Rattle.dv_draft.specs.declared.draft.Item.{Item}
use Rattle.dv_asm.specs.Items.{item_at, is_label, is_named, is_payload, label_of_switch, size_of}

-- whether a payload comes next, labels before it passed over
abbrev pub leads_to_payload : List Item → Bool
leads_to_payload [] = false
leads_to_payload (item ∷ items) = if is_label item.what then leads_to_payload items else is_payload item.what

-- where the first of these items stands, if those before it end at an address: a payload at an odd address has one nop
-- before it, and the labels that stand before it stand after that nop
abbrev pub aligned : ℕ → List Item → ℕ
aligned end items = if nat_eq (end % 2) 1 && leads_to_payload items then end + 1 else end

-- where the first k items end: the sum of their sizes, aligning nops included
abbrev pub end_of : List Item → ℕ → ℕ
end_of items zero = 0
end_of items (suc k) = aligned (end_of items k) (drop k items) + size_of (item_at items k).what

-- where item k stands; past the last one, where all end
abbrev pub address_of : List Item → ℕ → ℕ
address_of items k = aligned (end_of items k) (drop k items)

-- how many units there are
abbrev pub size_of_all : List Item → ℕ
size_of_all items = end_of items (length items)

-- the place among the items of the first label of a name
abbrev pub place_of : List Item → List ℕ → Option ℕ
place_of items name = position (is_named name) items

-- the address of a label; 0 where there is none
abbrev pub label_address : List Item → List ℕ → ℕ
label_address items name = option_map_or (address_of items) (place_of items name) 0

-- how far a label is from an address
abbrev pub distance : List Item → ℕ → List ℕ → ℤ
distance items from name = pos (label_address items name) -ℤ pos from

-- the address that a switch names
abbrev pub address_named_by : List Item → Item → Option ℕ
address_named_by items item = option_map (label_address items) (label_of_switch item.what)

-- the addresses of the items, and then where they end; no memory holds so many units
pub record AreAddresses (items : List Item) (addresses : List ℕ) : Type 0 where
  pub count : length addresses ≡ length items + 1
  pub addresses_at : (k : ℕ) → k ≤ length items → slice_index addresses k ≡ address_of items k
  pub small : (k : ℕ) → k ≤ length items → address_of items k ≤ 2 ^ 62

-- the names of the labels, each with the place of its first label
abbrev pub AreFirstLabels : List Item → BTreeMap (List ℕ) ℕ → Type 0
AreFirstLabels items labels = (name : List ℕ) → get (slice_cmp nat_cmp) labels name ≡ place_of items name

-- the addresses of the items, and the places of their labels
pub record ArePlaces (items : List Item) (addresses : List ℕ) (labels : BTreeMap (List ℕ) ℕ) : Type 0 where
  pub are_addresses : AreAddresses items addresses
  pub are_labels : AreFirstLabels items labels
