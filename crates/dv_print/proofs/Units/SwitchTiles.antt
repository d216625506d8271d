-- The switches that name a payload: in a draft, and among the pieces of the body that is laid out from it.
use Rattle.std.proofs.Common.{◌≡◌, ℕ, zero, suc, ◌<◌, Bool, true, false, not, ◌&&◌, ◌||◌, ◌⊎◌, ⊎_elim, inl, inr, List, [], ◌∷◌, length, map, find, nat_eq, cond, Option, Some, None, is_some, refl, ap, sym, ◌∙◌, subst, arith}
use Rattle.std.specs.Prelude.{option_map}
use Rattle.std.specs.Option.{option_map_or}
use Rattle.std.proofs.lemmas.Bool.{eqb-true}
use Rattle.std.proofs.lemmas.Bool.Decides.{nat_tests}
use Rattle.std.proofs.lemmas.List.{length-map, get_or-map}
use Rattle.std.proofs.lemmas.List.Quantifiers.{position-Some}
use Rattle.dv_defs.specs.declared.code.Insn.{Insn}
use Rattle.dv_defs.specs.Formats.{format_at, has_offset}
use Rattle.dv_defs.specs.Numbers.{jump}
use Rattle.dv_defs.specs.Spelling.{plain, few}
use Rattle.dv_defs.specs.Tiling as tiling
use Rattle.dv_defs.specs.Tiling.{IsInsn, IsPayload, Tile}
use Rattle.dv_draft.specs.declared.draft.Item.{Item}
use Rattle.dv_draft.specs.declared.draft.Draftop.{Draftop}
use Rattle.dv_draft.specs.declared.draft.What.{What}
use Rattle.dv_draft.specs.declared.draft.What.TheVariants as what
use Rattle.dv_draft.specs.declared.pools.Pools.{Pools}
use Rattle.dv_asm.specs.First.{any_below}
use Rattle.dv_draft.specs.Draft.{AreFormed, IsFormed, IsOp}
use Rattle.dv_asm.specs.Items.{item_at, no_item, size_of, is_payload, is_switch_opcode, label_of_switch}
use Rattle.dv_asm.specs.Places.{address_of, label_address, address_named_by}
use Rattle.dv_asm.specs.Refusals.{repeated, repeated_at, is_repeated, is_place, is_payload_at, stands_payload, is_address, addresses_named, switch_of}
use Rattle.dv_asm.specs.Layout.{insn_of, offset_of, base_of}
use Rattle.dv_asm.proofs.FirstLemmas.{first_line_none, not_when}
use Rattle.dv_print.specs.declared.pieces.Piece.{Piece}
use Rattle.dv_print.specs.Pieces.{part_of, piece_of}
use Rattle.dv_print.specs.Named as named
use Rattle.dv_print.specs.Named.{part_switches_to, switches_to}
use Rattle.dv_asm.specs.Tiles.{tiles_of}
use Rattle.dv_print.proofs.Truth.{both, either}
use Rattle.dv_print.proofs.Places.ItemTiles.{tile, tiles_at, nop, Mem, mem_to, OfItem, of_item}
use Rattle.dv_print.proofs.Places.Branches.{leads_back}

-- ---- switches of a draft

-- an item is a switch whose label leads to an address
pub record SwitchTo (items : List Item) (w : What) (a : ℕ) : Type 0 where
  pub op : Draftop
  pub name : List ℕ
  pub is : w ≡ what.Op op
  pub opcode : is_switch_opcode op.insn.op ≡ true
  pub label : op.label ≡ Some name
  pub leads : label_address items name ≡ a

abbrev label_if : Bool → Option (List ℕ) → Option (List ℕ)
label_if c label = elim c [ true ↦ label | false ↦ None ]

op_switch : (items : List Item) (a : ℕ) (op : Draftop) (c : Bool) (label : Option (List ℕ)) → is_switch_opcode op.insn.op ≡ c → op.label ≡ label → option_map (label_address items) (label_if c label) ≡ Some a → SwitchTo items (what.Op op) a
op_switch items a op true (Some name) opcode label e =
    record { op = op; name = name; is = refl; opcode = opcode; label = label; leads = cc }
op_switch items a op true None opcode label e = absurd (cc)
op_switch items a op false label opcode same e = absurd (cc)

pub is_switch : (items : List Item) (w : What) (a : ℕ) → option_map (label_address items) (label_of_switch w) ≡ Some a → SwitchTo items w a
is_switch items (what.Label name) a e = absurd (cc)
is_switch items (what.Op op) a e = op_switch items a op (is_switch_opcode op.insn.op) op.label refl refl e
is_switch items (what.Packed first names) a e = absurd (cc)
is_switch items (what.Sparse keys names) a e = absurd (cc)
is_switch items (what.Data width bytes) a e = absurd (cc)

pub names_it : (items : List Item) (w : What) (a : ℕ) → SwitchTo items w a → option_map (label_address items) (label_of_switch w) ≡ Some a
names_it items w a s =
    ap (λ x. option_map (label_address items) (label_of_switch x)) s.is ∙
    (ap (λ c. option_map (label_address items) (label_if c s.op.label)) s.opcode ∙
    (ap (option_map (label_address items)) s.label ∙ ap Some s.leads))

-- ---- a payload is named by one switch

not_both : (p q : Bool) → p ≡ true → (p && not q) ≡ false → q ≡ true
not_both true true e h = refl
not_both true false e h = absurd (cc)
not_both false q e h = absurd (cc)

place_is : (k : ℕ) (place : Option ℕ) → is_place k place ≡ true → place ≡ Some k
place_is k None e = absurd (cc)
place_is k (Some j) e = ap Some (eqb-true j k e)

less_or_same : (i n : ℕ) → i < suc n → (i < n) ⊎ (i ≡ n)
less_or_same i n within = grind arith

-- a test that a number below the bound passes is passed below it
any_below_found : (test : ℕ → Bool) (n k : ℕ) → test k ≡ true → k < n → any_below test n ≡ true
any_below_found test zero k here within = absurd (omega arith)
any_below_found test (suc n) k here within =
    ⊎_elim (λ less. rw (any_below_found test n k here less) refl) (λ same. let there : test n ≡ true = sym (ap test same) ∙ here in grind arith) (less_or_same k n within)

-- where no payload is named twice, a switch that names one is the first that does
pub own_switch : (items : List Item) (k p a : ℕ) → repeated items ≡ None → k < length items → p < length items → is_payload (item_at items p).what ≡ true → address_of items p ≡ a → address_named_by items (item_at items k) ≡ Some a → switch_of items a ≡ Some k
own_switch items k p a once within inside payload at e =
    let there : is_payload_at items a p ≡ true = ap (λ c. c && nat_eq (address_of items p) a) payload ∙ (ap (λ n. nat_eq n a) at ∙ (let same : nat_eq a a ≡ true = grind (arith, nat_tests) in same)) in
    let stands : stands_payload items a ≡ true = any_below_found (is_payload_at items a) (length items) p there inside in
    let none = not_when _ (item_at items k).line (first_line_none (repeated_at items) (length items) k once within) in
    place_is k (switch_of items a) (not_both (stands_payload items a) _ stands (ap (is_repeated items k) (sym e) ∙ none))

named_by : (a : ℕ) (o : Option ℕ) → is_address a o ≡ true → o ≡ Some a
named_by a None e = absurd (cc)
named_by a (Some n) e = ap Some (eqb-true n a e)

-- the first switch that names an address is an item that names it
pub switch_found : (items : List Item) (k a : ℕ) → switch_of items a ≡ Some k → (k < length items) × (address_named_by items (item_at items k) ≡ Some a)
switch_found items k a e =
    let found = position-Some (is_address a) (addresses_named items) k None e in
    let count : length (addresses_named items) ≡ length items = simp length-map in
    let within : k < length items = omega (arith, found.0, count) in
    (within, sym (get_or-map (address_named_by items) items k no_item None within) ∙ named_by a _ found.1)

-- ---- switches among the tiles

-- a tile is a switch that leads to an address
pub record TileTo (a : ℕ) (t : Tile) : Type 0 where
  pub insn : Insn
  pub is : t.item ≡ IsInsn insn
  pub opcode : is_switch_opcode insn.op ≡ true
  pub leads : jump t.at insn.off ≡ a

tile_by : (a : ℕ) (t : Tile) (x : tiling.Item) → t.item ≡ x → part_switches_to a t.at (part_of x) ≡ true → TileTo a t
tile_by a t (IsInsn i) e h =
    let p = both (is_switch_opcode i.op) _ h in
    record { insn = i; is = e; opcode = p.0; leads = eqb-true (jump t.at i.off) a p.1 }
tile_by a t (IsPayload p) e h = absurd (cc)

pub tile_to : (a : ℕ) (t : Tile) → switches_to a (piece_of t) ≡ true → TileTo a t
tile_to a t h = tile_by a t t.item refl h

pub tile_switches : (a : ℕ) (t : Tile) → TileTo a t → switches_to a (piece_of t) ≡ true
tile_switches a t s =
    ap (λ x. part_switches_to a t.at (part_of x)) s.is ∙
    (ap (λ c. c && nat_eq (jump t.at s.insn.off) a) s.opcode ∙
    (ap (λ n. nat_eq n a) s.leads ∙ (let same : nat_eq a a ≡ true = grind (arith, nat_tests) in same)))

-- a tile that is an instruction is that of an item
record OfOp (items : List Item) (pools : Pools) (t : Tile) (i : Insn) (k : ℕ) (w : What) : Type 0 where
  op : Draftop
  is : w ≡ what.Op op
  insn : insn_of items pools k op ≡ i
  at : t.at ≡ address_of items k

insn_same : (i j : Insn) → (let x : tiling.Item = IsInsn i in x) ≡ IsInsn j → i ≡ j
insn_same i j e = cc

of_op : (items : List Item) (pools : Pools) (t : Tile) (i : Insn) (k : ℕ) (w : What) → t.item ≡ IsInsn i → Mem t (tiles_at items pools k w) → OfOp items pools t i k w
of_op items pools t i k (what.Label name) e h = absurd h
of_op items pools t i k (what.Op op) e (inl same) =
    record { op = op; is = refl; insn = insn_same (insn_of items pools k op) i (ap (λ y. y.item) same ∙ e); at = ap (λ y. y.at) (sym same) }
of_op items pools t i k (what.Op op) e (inr h) = absurd h
of_op items pools t i k (what.Packed first names) e (inl same) = let no = ap (λ y. y.item) same ∙ e in absurd (cc)
of_op items pools t i k (what.Packed first names) e (inr h) = absurd h
of_op items pools t i k (what.Sparse keys names) e (inl same) = let no = ap (λ y. y.item) same ∙ e in absurd (cc)
of_op items pools t i k (what.Sparse keys names) e (inr h) = absurd h
of_op items pools t i k (what.Data width bytes) e (inl same) = let no = ap (λ y. y.item) same ∙ e in absurd (cc)
of_op items pools t i k (what.Data width bytes) e (inr h) = absurd h

-- a switch has an offset
switch_offset : (op : ℕ) → is_switch_opcode op ≡ true → has_offset (format_at op) ≡ true
unfolding format_at
switch_offset op e = at (either (nat_eq op 0x2b) (nat_eq op 0x2c) e)
  where
    at : (nat_eq op 0x2b ≡ true) ⊎ (nat_eq op 0x2c ≡ true) → has_offset (format_at op) ≡ true
    at (inl h) = ap (λ n. has_offset (format_at n)) (eqb-true op 0x2b h)
    at (inr h) = ap (λ n. has_offset (format_at n)) (eqb-true op 0x2c h)

some_label : (label : Option (List ℕ)) → is_some label ≡ true → (name : List ℕ) × (label ≡ Some name)
some_label None e = absurd (cc)
some_label (Some name) e = (name, refl)

formed_op : (w : What) (op : Draftop) → w ≡ what.Op op → IsFormed w → IsOp op
formed_op w op e formed = let P : What → Type 0 = λ x. IsFormed x in subst P e formed

-- an item that is a switch, and the tile that it is
pub record IsTiled (items : List Item) (t : Tile) (a : ℕ) : Type 0 where
  pub place : ℕ
  pub within : place < length items
  pub switch : SwitchTo items (item_at items place).what a
  pub at : t.at ≡ address_of items place

offset_to : (items : List Item) (k : ℕ) (label : Option (List ℕ)) (name : List ℕ) → label ≡ Some name → jump (address_of items k) (offset_of items k label) ≡ label_address items name
offset_to items k label name e =
    ap (λ o. jump (address_of items k) (offset_of items k o)) e ∙ leads_back (address_of items k) (label_address items name)

item_of_op : (items : List Item) (pools : Pools) (t : Tile) (a k : ℕ) → AreFormed items → k < length items → (s : TileTo a t) → OfOp items pools t s.insn k (item_at items k).what → IsTiled items t a
item_of_op items pools t a k formed within s o =
    let opcode : is_switch_opcode o.op.insn.op ≡ true = ap (λ i. is_switch_opcode i.op) o.insn ∙ s.opcode in
    let own = formed_op (item_at items k).what o.op o.is (formed k no_item within) in
    let (name, label) = some_label o.op.label (own.label ∙ switch_offset o.op.insn.op opcode) in
    let leads : label_address items name ≡ a =
    sym (offset_to items k o.op.label name label) ∙ (ap (λ i. jump (address_of items k) i.off) o.insn ∙ (ap (λ n. jump n s.insn.off) (sym o.at) ∙ s.leads)) in
    record {
      place = k;
      within = within;
      switch = record { op = o.op; name = name; is = o.is; opcode = opcode; label = label; leads = leads };
      at = o.at;
    }

-- a tile that is a switch is that of an item
pub switch_item : (items : List Item) (pools : Pools) (t : Tile) (a : ℕ) → AreFormed items → Mem t (tiles_of items pools (length items)) → TileTo a t → IsTiled items t a
switch_item items pools t a formed h s = at (of_item items pools (length items) t (omega arith) h)
  where
    at : (t.item ≡ nop) ⊎ OfItem items pools t → IsTiled items t a
    at (inl own) =
        let same = insn_same s.insn (plain 0 (few [])) (sym s.is ∙ own) in
        let no : is_switch_opcode 0 ≡ true = sym (ap (λ i. is_switch_opcode i.op) same) ∙ s.opcode in
        absurd (cc (no))
    at (inr o) = item_of_op items pools t a o.place formed o.within s (of_op items pools t s.insn o.place (item_at items o.place).what s.is o.own)

-- a tile of an item that is a switch
pub record HasTile (items : List Item) (pools : Pools) (k a : ℕ) : Type 0 where
  pub tile : Tile
  pub mem : Mem tile (tiles_of items pools (length items))
  pub to : TileTo a tile
  pub at : tile.at ≡ address_of items k

pub switch_tile : (items : List Item) (pools : Pools) (k a : ℕ) → k < length items → SwitchTo items (item_at items k).what a → HasTile items pools k a
switch_tile items pools k a within s =
    let t = tile (address_of items k) (size_of (what.Op s.op)) (IsInsn (insn_of items pools k s.op)) in
    record {
      tile = t;
      mem = mem_to items pools k (length items) t within (ap (tiles_at items pools k) s.is);
      to = record { insn = insn_of items pools k s.op; is = refl; opcode = s.opcode; leads = offset_to items k s.op.label s.name s.label ∙ s.leads };
      at = refl;
    }

-- ---- the address from which a payload's targets count

record FoundIn (a : ℕ) (ts : List Tile) (q : Piece) : Type 0 where
  tile : Tile
  mem : Mem tile ts
  switches : switches_to a (piece_of tile) ≡ true
  at : tile.at ≡ q.at

found_in : (a : ℕ) (ts : List Tile) (q : Piece) → find (switches_to a) (map piece_of ts) ≡ Some q → FoundIn a ts q
found_in a [] q e = absurd (cc)
found_in a (t ∷ ts) q e = at (switches_to a (piece_of t)) refl (found_in a ts q)
  where
    at : (c : Bool) → switches_to a (piece_of t) ≡ c → (find (switches_to a) (map piece_of ts) ≡ Some q → FoundIn a ts q) → FoundIn a (t ∷ ts) q
    at true h later =
        let same : Some (piece_of t) ≡ Some q = sym (ap (λ c. cond c (Some (piece_of t)) (find (switches_to a) (map piece_of ts))) h) ∙ e in
        let piece : piece_of t ≡ q = cc in
        record { tile = t; mem = inl refl; switches = h; at = ap (λ (p : Piece). p.at) piece }
    at false h later =
        let f = later (sym (ap (λ c. cond c (Some (piece_of t)) (find (switches_to a) (map piece_of ts))) h) ∙ e) in
        record { tile = f.tile; mem = inr f.mem; switches = f.switches; at = f.at }

none_in : (a : ℕ) (ts : List Tile) (t : Tile) → find (switches_to a) (map piece_of ts) ≡ None → Mem t ts → switches_to a (piece_of t) ≡ false
none_in a [] t e h = absurd h
none_in a (s ∷ ts) t e h = at (switches_to a (piece_of s)) refl h (λ n m. none_in a ts t n m)
  where
    at : (c : Bool) → switches_to a (piece_of s) ≡ c → Mem t (s ∷ ts) → (find (switches_to a) (map piece_of ts) ≡ None → Mem t ts → switches_to a (piece_of t) ≡ false) → switches_to a (piece_of t) ≡ false
    at true not_here m later =
        let none : Some (piece_of s) ≡ None = sym (ap (λ c. cond c (Some (piece_of s)) (find (switches_to a) (map piece_of ts))) not_here) ∙ e in
        absurd (cc (none))
    at false not_here (inl same) later = ap (λ x. switches_to a (piece_of x)) (sym same) ∙ not_here
    at false not_here (inr m) later = later (sym (ap (λ c. cond c (Some (piece_of s)) (find (switches_to a) (map piece_of ts))) not_here) ∙ e) m

-- a payload stands at an address
pub record HasPayload (items : List Item) (a : ℕ) : Type 0 where
  pub place : ℕ
  pub within : place < length items
  pub payload : is_payload (item_at items place).what ≡ true
  pub at : address_of items place ≡ a

-- the targets of a payload count from the same address among the pieces as among the items
pub base_before : (items : List Item) (pools : Pools) (a : ℕ) → AreFormed items → repeated items ≡ None → HasPayload items a → named.switch_address (map piece_of (tiles_of items pools (length items))) a ≡ base_of items a
base_before items pools a formed once p = at (find (switches_to a) (map piece_of (tiles_of items pools (length items)))) refl
  where
    without : (place : Option ℕ) → switch_of items a ≡ place → find (switches_to a) (map piece_of (tiles_of items pools (length items))) ≡ None → 0 ≡ option_map_or (address_of items) place 0
    without None e h = refl
    without (Some k) e h =
        let k_names = switch_found items k a e in
        let t = switch_tile items pools k a k_names.0 (is_switch items (item_at items k).what a k_names.1) in
        absurd (cc (none_in a (tiles_of items pools (length items)) t.tile h t.mem, tile_switches a t.tile t.to))

    at : (o : Option Piece) → find (switches_to a) (map piece_of (tiles_of items pools (length items))) ≡ o → option_map_or (λ (q : Piece). q.at) o 0 ≡ base_of items a
    at None e = without (switch_of items a) refl e
    at (Some q) e =
        let f = found_in a (tiles_of items pools (length items)) q e in
        let i = switch_item items pools f.tile a formed f.mem (tile_to a f.tile f.switches) in
        let own = own_switch items i.place p.place a once i.within p.within p.payload p.at (names_it items (item_at items i.place).what a i.switch) in
        sym f.at ∙ (i.at ∙ sym (ap (λ o. option_map_or (address_of items) o 0) own))
