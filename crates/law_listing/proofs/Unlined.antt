-- What is laid out and what is refused of a draft are the same if each line is 0.
use Rattle.std.proofs.Common.{◌≡◌, ℕ, zero, suc, ◌+◌, ◌%◌, ℤ, pos, ◌-ℤ◌, Bool, true, false, not, cond, ◌&&◌, List, [], ◌∷◌, ◌++◌, length, map, drop, filter, fold, position, bytes_eq, nat_eq, nat_lt, Option, Some, None, if◌then◌else◌, unwrap_or, refl, sym, ap, ◌∙◌}
use Rattle.std.specs.List.{prefix_len}
use Rattle.std.specs.Option.{option_map_or, option_map, option_and_then}
use Rattle.std.proofs.lemmas.List.{length-map, drop-map}
use Rattle.dv_defs.specs.declared.code.Payload.TheVariants as payload
use Rattle.dv_defs.specs.declared.names.Ty.{Ty}
use Rattle.dv_defs.specs.Types.{ty_eq}
use Rattle.dv_defs.specs.Spelling.{spelling}
use Rattle.dv_defs.specs.Payloads.{payload_spelling}
use Rattle.dv_asm.specs.declared.tries.TryRange.{TryRange}
use Rattle.dv_draft.specs.declared.pools.Pools.{Pools}
use Rattle.dv_draft.specs.Draft.{DraftValue}
use Rattle.dv_draft.specs.declared.draft.Item.{Item}
use Rattle.dv_draft.specs.declared.draft.Catch.{Catch}
use Rattle.dv_draft.specs.declared.draft.What.{What}
use Rattle.dv_draft.specs.declared.draft.What.TheVariants as what
use Rattle.dv_asm.specs.Items.{item_at, is_label, is_named, is_payload, label_of_switch, size_of}
use Rattle.dv_asm.specs.Places.{leads_to_payload, aligned, end_of, address_of, place_of, label_address, distance, address_named_by}
use Rattle.dv_asm.specs.Refusals.{addresses_named, is_address, switch_of, range_of, ranges_of, is_same, with_operands}
use Rattle.dv_draft.specs.Pools.{with_entries, with_entry_if_any, chars_of, type_of, field_of, method_of, index_of}
use Rattle.dv_defs.specs.Types.{field_eq, method_eq}
use Rattle.dv_draft.specs.Pools.{pools_of}
use Rattle.dv_asm.specs.Layout.{with_range, sorted_ranges, kind_in, with_kinds, types_of, handler_of, catches_of, entry_of, tries_of, offset_of, base_of, targets_of, spelling_of, padded, units_of, body_of, layout}
use Rattle.law_listing.specs.DraftLaws.{what_of, unlined_catch, SameButLines}

-- ---- functions and lists

pub fun_ext : {A B : Type 0} {f g : A → B} → ((x : A) → f x ≡ g x) → f ≡ g
fun_ext h = λ i x. h x i

prefix-map : {X Y : Type 0} (f : X → Y) (p : Y → Bool) (xs : List X) → prefix_len p (map f xs) ≡ prefix_len (λ x. p (f x)) xs
prefix-map f p [] = refl
prefix-map f p (x ∷ xs) = ap (λ (n : ℕ). cond (p (f x)) (1 + n) 0) (prefix-map f p xs)

pub position-map : {X Y : Type 0} (f : X → Y) (p : Y → Bool) (xs : List X) → position p (map f xs) ≡ position (λ x. p (f x)) xs
position-map f p xs =
    let n = prefix-map f (λ y. not (p y)) xs in
    let m = length-map xs f in
    λ i. cond (nat_lt (n i) (m i)) (Some (n i)) None

pub map-map : {X Y Z : Type 0} (g : Y → Z) (f : X → Y) (xs : List X) → map g (map f xs) ≡ map (λ x. g (f x)) xs
map-map g f [] = refl
map-map g f (x ∷ xs) = ap (λ (zs : List _). g (f x) ∷ zs) (map-map g f xs)

map_cond : {X Y : Type 0} (f : X → Y) (b : Bool) (x : X) (xs : List X) → cond b (f x ∷ map f xs) (map f xs) ≡ map f (cond b (x ∷ xs) xs)
map_cond f true x xs = refl
map_cond f false x xs = refl

pub filter-map : {X Y : Type 0} (f : X → Y) (p : Y → Bool) (xs : List X) → filter p (map f xs) ≡ map f (filter (λ x. p (f x)) xs)
filter-map f p [] = refl
filter-map {X} {Y} f p (x ∷ xs) =
    ap (λ (ys : List Y). cond (p (f x)) (f x ∷ ys) ys) (filter-map f p xs) ∙ map_cond f (p (f x)) x (filter (λ y. p (f y)) xs)

-- ---- items whose lines are 0

abbrev pub unlined : Item → Item
unlined item = record { line = 0; what = item.what }

abbrev pub unlined_all : List Item → List Item
unlined_all items = map unlined items

pub unlined_at : (items : List Item) (k : ℕ) → (item_at (unlined_all items) k).what ≡ (item_at items k).what
unlined_at [] k = refl
unlined_at (item ∷ items) zero = refl
unlined_at (item ∷ items) (suc k) = unlined_at items k

leads_unlined : (items : List Item) → leads_to_payload (unlined_all items) ≡ leads_to_payload items
leads_unlined [] = refl
leads_unlined (item ∷ items) = ap (λ (b : Bool). if is_label item.what then b else is_payload item.what) (leads_unlined items)

aligned_unlined : (items : List Item) (end : ℕ) → aligned end (unlined_all items) ≡ aligned end items
aligned_unlined items end = ap (λ (b : Bool). if nat_eq (end % 2) 1 && b then end + 1 else end) (leads_unlined items)

aligned_at : (items : List Item) (k end : ℕ) → aligned end (drop k (unlined_all items)) ≡ aligned end (drop k items)
aligned_at items k end = ap (aligned end) (drop-map unlined k items) ∙ aligned_unlined (drop k items) end

pub end_unlined : (items : List Item) (k : ℕ) → end_of (unlined_all items) k ≡ end_of items k
end_unlined items zero = refl
end_unlined items (suc k) =
    let before = ap (λ (n : ℕ). aligned n (drop k (unlined_all items))) (end_unlined items k) ∙ aligned_at items k (end_of items k) in
    let size = ap size_of (unlined_at items k) in
    λ i. before i + size i

pub address_unlined : (items : List Item) (k : ℕ) → address_of (unlined_all items) k ≡ address_of items k
address_unlined items k = ap (λ (n : ℕ). aligned n (drop k (unlined_all items))) (end_unlined items k) ∙ aligned_at items k (end_of items k)

pub place_unlined : (items : List Item) (name : List ℕ) → place_of (unlined_all items) name ≡ place_of items name
place_unlined items name = position-map unlined (is_named name) items

pub label_unlined : (items : List Item) (name : List ℕ) → label_address (unlined_all items) name ≡ label_address items name
label_unlined items name =
    let addresses : address_of (unlined_all items) ≡ address_of items = fun_ext (address_unlined items) in
    let place = place_unlined items name in
    λ i. option_map_or (addresses i) (place i) 0

pub distance_unlined : (items : List Item) (from : ℕ) (name : List ℕ) → distance (unlined_all items) from name ≡ distance items from name
distance_unlined items from name = ap (λ (n : ℕ). pos n -ℤ pos from) (label_unlined items name)

named_unlined : (items : List Item) (item : Item) → address_named_by (unlined_all items) item ≡ address_named_by items item
named_unlined items item = ap (λ (f : List ℕ → ℕ). option_map f (label_of_switch item.what)) (fun_ext (label_unlined items))

pub all_named_unlined : (items : List Item) → addresses_named (unlined_all items) ≡ addresses_named items
all_named_unlined items =
    map-map (address_named_by (unlined_all items)) unlined items ∙
    ap (λ (f : Item → Option ℕ). map f items) (fun_ext (named_unlined items))

pub switch_unlined : (items : List Item) (address : ℕ) → switch_of (unlined_all items) address ≡ switch_of items address
switch_unlined items address = ap (position (is_address address)) (all_named_unlined items)

-- ---- handlers

pub range_unlined : (items : List Item) (c : Catch) → range_of (unlined_all items) c ≡ range_of items c
range_unlined items c =
    let start = label_unlined items c.from in
    let end = label_unlined items c.to in
    λ i. record { start = start i; end = end i }

pub ranges_unlined : (items : List Item) (catches : List Catch) → ranges_of (unlined_all items) (map unlined_catch catches) ≡ ranges_of items catches
ranges_unlined items catches =
    map-map (range_of (unlined_all items)) unlined_catch catches ∙
    ap (λ (f : Catch → TryRange). map f catches) (fun_ext (range_unlined items))

-- ---- pools

entries-map : {X Y Z : Type 0} (eq : X → X → Bool) (entry_of : Z → Option X) (f : Y → Z) (xs : List X) (ys : List Y) → with_entries eq entry_of xs (map f ys) ≡ with_entries eq (λ y. entry_of (f y)) xs ys
entries-map eq entry_of f xs [] = refl
entries-map eq entry_of f xs (y ∷ ys) = entries-map eq entry_of f (with_entry_if_any eq xs (entry_of (f y))) ys

pub pools_unlined : (items : List Item) → pools_of (unlined_all items) ≡ pools_of items
unfolding pools_of
pools_unlined items =
    let strings = entries-map bytes_eq chars_of unlined [] items in
    let types = entries-map ty_eq type_of unlined [] items in
    let fields = entries-map field_eq field_of unlined [] items in
    let methods = entries-map method_eq method_of unlined [] items in
    λ i. record { strings = strings i; types = types i; fields = fields i; methods = methods i }

kind_unlined : (items : List Item) (r : TryRange) (c : Catch) → kind_in (unlined_all items) r (unlined_catch c) ≡ kind_in items r c
kind_unlined items r c = ap (λ (s : TryRange). if is_same s r then c.kind else None) (range_unlined items c)

kinds_of_range : (items : List Item) (catches : List Catch) (ts : List Ty) (r : TryRange) → with_entries ty_eq (kind_in (unlined_all items) r) ts (map unlined_catch catches) ≡ with_entries ty_eq (kind_in items r) ts catches
kinds_of_range items catches ts r =
    entries-map ty_eq (kind_in (unlined_all items) r) unlined_catch ts catches ∙
    ap (λ (f : Catch → Option Ty). with_entries ty_eq f ts catches) (fun_ext (kind_unlined items r))

kinds_unlined : (items : List Item) (catches : List Catch) (ts : List Ty) (rs : List TryRange) → with_kinds (unlined_all items) (map unlined_catch catches) ts rs ≡ with_kinds items catches ts rs
kinds_unlined items catches ts [] = refl
kinds_unlined items catches ts (r ∷ rs) =
    ap (λ (us : List Ty). with_kinds (unlined_all items) (map unlined_catch catches) us rs) (kinds_of_range items catches ts r) ∙
    kinds_unlined items catches (with_entries ty_eq (kind_in items r) ts catches) rs

sorted_unlined : (items : List Item) (catches : List Catch) → sorted_ranges (unlined_all items) (map unlined_catch catches) ≡ sorted_ranges items catches
sorted_unlined items catches = ap (fold with_range []) (ranges_unlined items catches)

types_unlined : (items : List Item) (catches : List Catch) → types_of (unlined_all items) (map unlined_catch catches) ≡ types_of items catches
types_unlined items catches =
    let pools = pools_unlined items in
    let ranges = sorted_unlined items catches in
    (λ i. with_kinds (unlined_all items) (map unlined_catch catches) (pools i).types (ranges i)) ∙
    kinds_unlined items catches (pools_of items).types (sorted_ranges items catches)

-- ---- try entries

handler_unlined : (items : List Item) (types : List Ty) (c : Catch) → handler_of (unlined_all items) types (unlined_catch c) ≡ handler_of items types c
handler_unlined items types c =
    let at = label_unlined items c.at in
    λ i. record { kind = option_and_then (λ t. position (ty_eq t) types) c.kind; at = at i }

handlers_unlined : (items : List Item) (catches : List Catch) (types : List Ty) (r : TryRange) → map (handler_of (unlined_all items) types) (catches_of (unlined_all items) (map unlined_catch catches) r) ≡ map (handler_of items types) (catches_of items catches r)
handlers_unlined items catches types r =
    let ranges = fun_ext (range_unlined items) in
    let handlers = fun_ext (handler_unlined items types) in
    ap (map (handler_of (unlined_all items) types)) (filter-map unlined_catch (λ (c : Catch). is_same (range_of (unlined_all items) c) r) catches) ∙
    (map-map (handler_of (unlined_all items) types) unlined_catch (filter (λ (c : Catch). is_same (range_of (unlined_all items) c) r) catches) ∙
    (λ i. map (handlers i) (filter (λ (c : Catch). is_same (ranges i c) r) catches)))

entry_unlined : (items : List Item) (catches : List Catch) (types : List Ty) (r : TryRange) → entry_of (unlined_all items) (map unlined_catch catches) types r ≡ entry_of items catches types r
entry_unlined items catches types r =
    let handlers = handlers_unlined items catches types r in
    λ i. record { start = r.start; end = r.end; handlers = handlers i }

tries_unlined : (items : List Item) (catches : List Catch) (types : List Ty) → tries_of (unlined_all items) (map unlined_catch catches) types ≡ tries_of items catches types
tries_unlined items catches types =
    let ranges = sorted_unlined items catches in
    let entries = fun_ext (entry_unlined items catches types) in
    λ i. map (entries i) (ranges i)

-- ---- units

offset_unlined : (items : List Item) (k : ℕ) (label : Option (List ℕ)) → offset_of (unlined_all items) k label ≡ offset_of items k label
offset_unlined items k None = refl
offset_unlined items k (Some name) =
    ap (λ (n : ℕ). distance (unlined_all items) n name) (address_unlined items k) ∙ distance_unlined items (address_of items k) name

base_unlined : (items : List Item) (address : ℕ) → base_of (unlined_all items) address ≡ base_of items address
base_unlined items address =
    let addresses : address_of (unlined_all items) ≡ address_of items = fun_ext (address_unlined items) in
    let switch = switch_unlined items address in
    λ i. option_map_or (addresses i) (switch i) 0

targets_unlined : (items : List Item) (address : ℕ) (names : List (List ℕ)) → targets_of (unlined_all items) address names ≡ targets_of items address names
targets_unlined items address names =
    ap (λ (n : ℕ). map (distance (unlined_all items) n) names) (base_unlined items address) ∙
    ap (λ (f : List ℕ → ℤ). map f names) (fun_ext (distance_unlined items (base_of items address)))

targets_here : (items : List Item) (k : ℕ) (names : List (List ℕ)) → targets_of (unlined_all items) (address_of (unlined_all items) k) names ≡ targets_of items (address_of items k) names
targets_here items k names =
    ap (λ (n : ℕ). targets_of (unlined_all items) n names) (address_unlined items k) ∙ targets_unlined items (address_of items k) names

spelling_unlined : (items : List Item) (pools : Pools) (k : ℕ) (w : What) → spelling_of (unlined_all items) pools k w ≡ spelling_of items pools k w
spelling_unlined items pools k (what.Label name) = refl
spelling_unlined items pools k (what.Op op) =
    ap (λ (off : ℤ). spelling (with_operands op.insn off (index_of pools op.pool))) (offset_unlined items k op.label)
spelling_unlined items pools k (what.Packed first names) = ap (λ (zs : List ℤ). payload_spelling (payload.Packed first zs)) (targets_here items k names)
spelling_unlined items pools k (what.Sparse keys names) = ap (λ (zs : List ℤ). payload_spelling (payload.Sparse keys zs)) (targets_here items k names)
spelling_unlined items pools k (what.Data width bytes) = refl

units_unlined : (items : List Item) (pools : Pools) (k : ℕ) → units_of (unlined_all items) pools k ≡ units_of items pools k
units_unlined items pools zero = refl
units_unlined items pools (suc k) =
    let before = units_unlined items pools k in
    let address = address_unlined items k in
    let here = ap (spelling_of (unlined_all items) pools k) (unlined_at items k) ∙ spelling_unlined items pools k (item_at items k).what in
    λ i. padded (address i) (before i) ++ unwrap_or (here i) []

units_at : (items : List Item) → units_of (unlined_all items) (pools_of (unlined_all items)) (length (unlined_all items)) ≡ units_of items (pools_of items) (length items)
units_at items =
    let count = length-map items unlined in
    let pools = pools_unlined items in
    (λ i. units_of (unlined_all items) (pools i) (count i)) ∙ units_unlined items (pools_of items) (length items)

-- ---- the layout

abbrev pub unlined_draft : DraftValue → DraftValue
unlined_draft d = record { registers = d.registers; items = unlined_all d.items; catches = map unlined_catch d.catches }

tries_at : (items : List Item) (catches : List Catch) → tries_of (unlined_all items) (map unlined_catch catches) (types_of (unlined_all items) (map unlined_catch catches)) ≡ tries_of items catches (types_of items catches)
tries_at items catches =
    ap (tries_of (unlined_all items) (map unlined_catch catches)) (types_unlined items catches) ∙ tries_unlined items catches (types_of items catches)

pub layout_unlined : (d : DraftValue) → layout (unlined_draft d) ≡ layout d
unfolding body_of
layout_unlined d =
    let pools = pools_unlined d.items in
    let types = types_unlined d.items d.catches in
    let tries = tries_at d.items d.catches in
    let units = units_at d.items in
    λ i. record {
      registers = d.registers;
      units = units i;
      tries = tries i;
      strings = (pools i).strings;
      types = types i;
      fields = (pools i).fields;
      methods = (pools i).methods;
      raw = false;
    }

-- ---- drafts that differ in their lines

with_line_0 : What → Item
with_line_0 w = record { line = 0; what = w }

items_again : (items : List Item) → map with_line_0 (map what_of items) ≡ unlined_all items
unfolding with_line_0
items_again items = map-map with_line_0 what_of items

same_unlined : (d e : DraftValue) → SameButLines d e → unlined_draft d ≡ unlined_draft e
same_unlined d e same =
    let items = sym (items_again d.items) ∙ (ap (map with_line_0) same.items ∙ items_again e.items) in
    λ i. record { registers = same.registers i; items = items i; catches = same.catches i }

-- what doesn't look at lines is the same of both
pub same_of : {Y : Type 0} (f : DraftValue → Y) → ((d : DraftValue) → f (unlined_draft d) ≡ f d) → (d e : DraftValue) → SameButLines d e → f d ≡ f e
same_of f law d e same = sym (law d) ∙ (ap f (same_unlined d e same) ∙ law e)

pub layout_has_no_lines : (d e : DraftValue) → SameButLines d e → layout d ≡ layout e
layout_has_no_lines d e same = same_of layout layout_unlined d e same
