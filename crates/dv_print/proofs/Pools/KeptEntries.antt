-- The draft that is made of a laid-out body names what the draft before it names.
use Rattle.std.proofs.Common.{◌≡◌, ℕ, ◌+◌, ◌<◌, ◌≤◌, zero, suc, Bool, true, false, List, [], ◌∷◌, ◌++◌, length, map, take, position, bytes_eq, nat_lt, Option, Some, None, IsSome, IsTrue, if◌then◌else◌, refl, ap, sym, ◌∙◌, arith, append-nil, append_assoc}
use Rattle.std.specs.Option.{unwrap_or}
use Rattle.std.specs.List.{slice_get, flat_map}
use Rattle.std.proofs.lemmas.List.{take_more, map-append}
use Rattle.std.proofs.lemmas.List.Concat.{flat_map-append}
use Rattle.std.proofs.lemmas.Option.{slice_get-get_or}
use Rattle.std.proofs.Math.Seq.{take-length}
use Rattle.dv_defs.specs.declared.code.Insn.{Insn}
use Rattle.dv_defs.specs.declared.names.Ty.{Ty}
use Rattle.dv_defs.specs.declared.names.FieldRef.{FieldRef}
use Rattle.dv_defs.specs.declared.names.MethodRef.{MethodRef}
use Rattle.dv_defs.specs.Body.{BodyValue}
use Rattle.dv_defs.specs.Families.{pool_at}
use Rattle.dv_defs.specs.Spelling.{all_fit, spelling}
use Rattle.dv_defs.specs.Types.{ty_eq}
use Rattle.dv_defs.specs.Tiling.{Tile, tiles_in}
use Rattle.dv_defs.proofs.SpellingFormats.{begins}
use Rattle.dv_defs.proofs.SpellingLaws.{spelled_in}
use Rattle.dv_draft.specs.declared.draft.Item.{Item}
use Rattle.dv_draft.specs.declared.draft.Catch.{Catch}
use Rattle.dv_draft.specs.declared.draft.Draftop.{Draftop}
use Rattle.dv_draft.specs.declared.draft.What.{What}
use Rattle.dv_draft.specs.declared.draft.What.TheVariants as what
use Rattle.dv_draft.specs.declared.draft.PoolRef.{PoolRef}
use Rattle.dv_draft.specs.declared.draft.PoolRef.TheVariants as pool
use Rattle.dv_draft.specs.declared.pools.Pools.{Pools}
use Rattle.dv_asm.specs.declared.tries.TryRange.{TryRange}
use Rattle.dv_draft.specs.Draft.{DraftValue, AreFormed, IsFormed, IsOp, is_entry, kind_of_entry, blank}
use Rattle.dv_asm.specs.Items.{item_at, no_item}
use Rattle.dv_asm.specs.Places.{address_of, end_of}
use Rattle.dv_asm.specs.Refusals.{item_refusal}
use Rattle.dv_draft.specs.Pools.{with_entry_if_any, with_entries, pool_ref, chars_in, type_in, field_in, method_in, chars_of, type_of, field_of, method_of, index_of}
use Rattle.dv_defs.specs.Types.{field_eq, method_eq}
use Rattle.dv_draft.specs.Pools.{pools_of}
use Rattle.dv_asm.specs.Layout.{kind_in, with_kinds, sorted_ranges, units_of, body_of, layout}
use Rattle.dv_print.specs.declared.pieces.Piece.{Piece}
use Rattle.dv_print.specs.Pieces.{piece_of, pieces_of}
use Rattle.dv_print.specs.Named.{is_label_address, label_addresses}
use Rattle.dv_print.specs.Drafting.{found_as, entry_in, piece_item, labels_at, items_at, items_in, draft_of}
use Rattle.dv_asm.specs.Tiles as laid
use Rattle.dv_asm.specs.Tiles.{nops_between}
use Rattle.dv_print.specs.Laws.{HaveNumbers, KeepsEntries, entries_in, item_entries, entries_of}
use Rattle.dv_print.proofs.Places.ItemTiles.{tile, tiles_at, nop}
use Rattle.dv_print.proofs.Pools.Entries.{Tells, bytes_tell, types_tell, fields_tell, methods_tell, kept, holds, at_index}
use Rattle.dv_print.proofs.Pools.PoolKinds.{no_pool}
use Rattle.dv_print.proofs.Units.LaidOut.{layout_is_tiled}

-- ---- an instruction's entry

-- the pools of a body
pub record HasPools (b : BodyValue) (items : List Item) : Type 0 where
  pub strings : b.strings ≡ (pools_of items).strings
  pub types : (j : ℕ) (t : Ty) → slice_get (pools_of items).types j ≡ Some t → slice_get b.types j ≡ Some t
  pub fields : b.fields ≡ (pools_of items).fields
  pub methods : b.methods ≡ (pools_of items).methods

named_at : {X : Type 0} (eq : X → X → Bool) (entry : Item → Option X) → Tells eq → (items : List Item) (k : ℕ) (x : X) → k < length items → entry (item_at items k) ≡ Some x → slice_get (with_entries eq entry [] items) (unwrap_or (position (eq x) (with_entries eq entry [] items)) 0) ≡ Some x
named_at eq entry t items k x within e =
    at_index eq t x (with_entries eq entry [] items) (holds eq entry t [] items k (item_at items k) x (slice_get-get_or items k no_item within) e)

-- the entry of an instruction stands at its index
found : (b : BodyValue) (items : List Item) (k : ℕ) (op : Draftop) (entry : PoolRef) → HasPools b items → k < length items → (item_at items k).what ≡ what.Op op → op.pool ≡ entry → entry_in b (kind_of_entry entry) (index_of (pools_of items) entry) ≡ entry
unfolding pools_of
found b items k op pool.None h within e p = refl
found b items k op (pool.Str chars) h within e p =
    let named : chars_of (item_at items k) ≡ Some chars = ap (λ w. chars_in (pool_ref w)) e ∙ ap chars_in p in
    ap (λ o. found_as pool.Str o) (ap (λ xs. slice_get xs (index_of (pools_of items) (pool.Str chars))) h.strings ∙ named_at bytes_eq chars_of bytes_tell items k chars within named)
found b items k op (pool.OfType ty) h within e p =
    let named : type_of (item_at items k) ≡ Some ty = ap (λ w. type_in (pool_ref w)) e ∙ ap type_in p in
    ap (λ o. found_as pool.OfType o) (h.types (index_of (pools_of items) (pool.OfType ty)) ty (named_at ty_eq type_of types_tell items k ty within named))
found b items k op (pool.Field field) h within e p =
    let named : field_of (item_at items k) ≡ Some field = ap (λ w. field_in (pool_ref w)) e ∙ ap field_in p in
    ap (λ o. found_as pool.Field o) (ap (λ xs. slice_get xs (index_of (pools_of items) (pool.Field field))) h.fields ∙ named_at field_eq field_of fields_tell items k field within named)
found b items k op (pool.Method method) h within e p =
    let named : method_of (item_at items k) ≡ Some method = ap (λ w. method_in (pool_ref w)) e ∙ ap method_in p in
    ap (λ o. found_as pool.Method o) (ap (λ xs. slice_get xs (index_of (pools_of items) (pool.Method method))) h.methods ∙ named_at method_eq method_of methods_tell items k method within named)

pub small_opcode : (i : Insn) (o : Option (List ℕ)) → spelling i ≡ o → IsSome o → i.op < 256
small_opcode i None e h = absurd (cc)
small_opcode i (Some us) e h = let (f, s) = spelled_in i us e in omega (arith, (begins f i us s.units).1)

-- the pool of an instruction is that of its entry
own_pool : (op : Draftop) (entry : PoolRef) → IsOp op → op.pool ≡ entry → pool_at op.insn.op ≡ kind_of_entry entry
own_pool op pool.None formed p =
    no_pool op.insn.op (small_opcode (blank op.insn) (spelling (blank op.insn)) refl formed.form) (sym formed.entry ∙ ap is_entry p)
own_pool op (pool.Str chars) formed p = sym (formed.kind (ap is_entry p)) ∙ ap kind_of_entry p
own_pool op (pool.OfType ty) formed p = sym (formed.kind (ap is_entry p)) ∙ ap kind_of_entry p
own_pool op (pool.Field field) formed p = sym (formed.kind (ap is_entry p)) ∙ ap kind_of_entry p
own_pool op (pool.Method method) formed p = sym (formed.kind (ap is_entry p)) ∙ ap kind_of_entry p

pub own_entry : (b : BodyValue) (items : List Item) (k : ℕ) (op : Draftop) → HasPools b items → k < length items → (item_at items k).what ≡ what.Op op → IsOp op → entry_in b (pool_at op.insn.op) (index_of (pools_of items) op.pool) ≡ op.pool
own_entry b items k op h within e formed =
    ap (λ q. entry_in b q (index_of (pools_of items) op.pool)) (own_pool op op.pool formed refl) ∙ found b items k op op.pool h within e refl

-- ---- the pieces name what the items name

abbrev piece_entries : BodyValue → List Piece → Piece → List PoolRef
piece_entries b all p = item_entries (piece_item b all p)

abbrev tile_entries : BodyValue → List Piece → List Tile → List PoolRef
tile_entries b all ts = flat_map (piece_entries b all) (map piece_of ts)

joined_entries : (b : BodyValue) (all : List Piece) (xs ys : List Tile) → tile_entries b all (xs ++ ys) ≡ tile_entries b all xs ++ tile_entries b all ys
joined_entries b all xs ys = ap (flat_map (piece_entries b all)) (map-append piece_of xs ys) ∙ flat_map-append (piece_entries b all) (map piece_of xs) (map piece_of ys)

pub nop_pool : pool_at 0 ≡ None
unfolding pool_at
nop_pool = refl

nop_names_none : (b : BodyValue) (index : ℕ) → entries_in (entry_in b (pool_at 0) index) ≡ []
nop_names_none b index = ap (λ q. entries_in (entry_in b q index)) nop_pool

nops_by : (c : Bool) (b : BodyValue) (all : List Piece) (end : ℕ) → tile_entries b all (if c then tile end 1 nop ∷ [] else []) ≡ []
nops_by true b all end = ap (λ xs. xs ++ []) (nop_names_none b 0)
nops_by false b all end = refl

own_entries : (b : BodyValue) (all : List Piece) (items : List Item) (k : ℕ) (w : What) → HasPools b items → k < length items → (item_at items k).what ≡ w → IsFormed w → tile_entries b all (tiles_at items (pools_of items) k w) ≡ entries_in (pool_ref w)
own_entries b all items k (what.Label name) h within e formed = refl
own_entries b all items k (what.Op op) h within e formed = append-nil _ ∙ ap entries_in (own_entry b items k op h within e formed)
own_entries b all items k (what.Packed first names) h within e formed = refl
own_entries b all items k (what.Sparse keys names) h within e formed = refl
own_entries b all items k (what.Data width bytes) h within e formed = refl

next_item : (items : List Item) (k : ℕ) → k < length items → take (suc k) items ≡ take k items ++ item_at items k ∷ []
next_item items k within = ap (λ (n : ℕ). take n items) (let n : suc k ≡ k + 1 = omega arith in n) ∙ take_more items k no_item within

entries_to : (b : BodyValue) (all : List Piece) (items : List Item) (k : ℕ) → HasPools b items → AreFormed items → k ≤ length items → tile_entries b all (laid.tiles_of items (pools_of items) k) ≡ entries_of (take k items)
entries_to b all items zero h formed within = refl
entries_to b all items (suc k) h formed within =
    let w = (item_at items k).what in
    let end = end_of items k in
    let address = address_of items k in
    let before = laid.tiles_of items (pools_of items) k in
    let nops = nops_between end address in
    let own = tiles_at items (pools_of items) k w in
    let here : tile_entries b all (nops ++ own) ≡ entries_in (pool_ref w) =
    joined_entries b all nops own ∙ (ap (λ xs. xs ++ tile_entries b all own) (nops_by (nat_lt end address) b all end) ∙ own_entries b all items k w h (omega arith) refl (formed k no_item (omega arith))) in
    let listed : entries_of (take (suc k) items) ≡ entries_of (take k items) ++ entries_in (pool_ref w) =
    ap entries_of (next_item items k (omega arith)) ∙ (flat_map-append item_entries (take k items) (item_at items k ∷ []) ∙ ap (λ xs. entries_of (take k items) ++ xs) (append-nil (entries_in (pool_ref w)))) in
    ap (tile_entries b all) (append_assoc before nops own) ∙
    (joined_entries b all before (nops ++ own) ∙
    (ap (λ xs. xs ++ tile_entries b all (nops ++ own)) (entries_to b all items k h formed (omega arith)) ∙
    (ap (λ xs. entries_of (take k items) ++ xs) here ∙ sym listed)))

-- ---- the items of the draft name what the pieces name

labels_by : (c : Bool) (item : Item) → item_entries item ≡ [] → entries_of (if c then item ∷ [] else []) ≡ []
labels_by true item e = ap (λ xs. xs ++ []) e
labels_by false item e = refl

labels_name_none : (named : List ℕ) (address : ℕ) → entries_of (labels_at named address) ≡ []
labels_name_none named address = labels_by (is_label_address named address) _ refl

at_entries : (b : BodyValue) (all : List Piece) (named : List ℕ) (p : Piece) → entries_of (items_at b all named p) ≡ piece_entries b all p
at_entries b all named p =
    flat_map-append item_entries (labels_at named p.at) (piece_item b all p ∷ []) ∙
    (ap (λ xs. xs ++ (piece_entries b all p ++ [])) (labels_name_none named p.at) ∙ append-nil (piece_entries b all p))

from_entries : (b : BodyValue) (all : List Piece) (named : List ℕ) (ps : List Piece) → entries_of (flat_map (items_at b all named) ps) ≡ flat_map (piece_entries b all) ps
from_entries b all named [] = refl
from_entries b all named (p ∷ ps) =
    flat_map-append item_entries (items_at b all named p) (flat_map (items_at b all named) ps) ∙
    (ap (λ xs. xs ++ entries_of (flat_map (items_at b all named) ps)) (at_entries b all named p) ∙
    ap (λ xs. piece_entries b all p ++ xs) (from_entries b all named ps))

items_entries : (b : BodyValue) (all : List Piece) (named : List ℕ) → entries_of (items_in b all named) ≡ flat_map (piece_entries b all) all
items_entries b all named =
    flat_map-append item_entries (flat_map (items_at b all named) all) (labels_at named (length b.units)) ∙
    (ap (λ xs. entries_of (flat_map (items_at b all named) all) ++ xs) (labels_name_none named (length b.units)) ∙
    (append-nil (entries_of (flat_map (items_at b all named) all)) ∙ from_entries b all named all))

-- ---- the pools

pub kinds_kept : (items : List Item) (catches : List Catch) (rs : List TryRange) (ts : List Ty) (j : ℕ) (t : Ty) → slice_get ts j ≡ Some t → slice_get (with_kinds items catches ts rs) j ≡ Some t
kinds_kept items catches [] ts j t e = e
kinds_kept items catches (r ∷ rs) ts j t e = kinds_kept items catches rs (with_entries ty_eq (kind_in items r) ts catches) j t (kept ty_eq (kind_in items r) ts catches j t e)

pub has_pools : (d : DraftValue) → HasPools (layout d) d.items
unfolding body_of
has_pools d = record {
  strings = refl;
  types = λ j t e. kinds_kept d.items d.catches (sorted_ranges d.items d.catches) (pools_of d.items).types j t e;
  fields = refl;
  methods = refl;
}

one_entry : {X : Type 0} (eq : X → X → Bool) (g : PoolRef → Option X) (r : PoolRef) (xs : List X) (rest : List PoolRef) → g pool.None ≡ None → with_entries eq g (with_entry_if_any eq xs (g r)) rest ≡ with_entries eq g xs (entries_in r ++ rest)
one_entry eq g pool.None xs rest none = ap (λ o. with_entries eq g (with_entry_if_any eq xs o) rest) none
one_entry eq g (pool.Str chars) xs rest none = refl
one_entry eq g (pool.OfType ty) xs rest none = refl
one_entry eq g (pool.Field field) xs rest none = refl
one_entry eq g (pool.Method method) xs rest none = refl

by_entries : {X : Type 0} (eq : X → X → Bool) (g : PoolRef → Option X) → g pool.None ≡ None → (xs : List X) (items : List Item) → with_entries eq (λ (item : Item). g (pool_ref item.what)) xs items ≡ with_entries eq g xs (entries_of items)
by_entries eq g none xs [] = refl
by_entries eq g none xs (item ∷ items) =
    by_entries eq g none (with_entry_if_any eq xs (g (pool_ref item.what))) items ∙ one_entry eq g (pool_ref item.what) xs (entries_of items) none

same_entries : {X : Type 0} (eq : X → X → Bool) (g : PoolRef → Option X) → g pool.None ≡ None → (before after : List Item) → entries_of after ≡ entries_of before → with_entries eq (λ (item : Item). g (pool_ref item.what)) [] after ≡ with_entries eq (λ (item : Item). g (pool_ref item.what)) [] before
same_entries eq g none before after e = by_entries eq g none [] after ∙ (ap (with_entries eq g []) e ∙ sym (by_entries eq g none [] before))

pools_by : (a a' : List (List ℕ)) (t t' : List Ty) (f f' : List FieldRef) (m m' : List MethodRef) → a ≡ a' → t ≡ t' → f ≡ f' → m ≡ m' → (let p : Pools = record { strings = a; types = t; fields = f; methods = m } in p) ≡ record { strings = a'; types = t'; fields = f'; methods = m' }
pools_by a a' t t' f f' m m' p q r s = cc

same_pools : (before after : List Item) → entries_of after ≡ entries_of before → pools_of after ≡ pools_of before
unfolding pools_of
same_pools before after e =
    pools_by _ _ _ _ _ _ _ _ (same_entries bytes_eq chars_in refl before after e) (same_entries ty_eq type_in refl before after e) (same_entries field_eq field_in refl before after e) (same_entries method_eq method_in refl before after e)

-- ---- the law

abbrev all_pieces : DraftValue → List Piece
all_pieces d = map piece_of (laid.tiles_of d.items (pools_of d.items) (length d.items))

pub units_are : (d : DraftValue) → (layout d).units ≡ units_of d.items (pools_of d.items) (length d.items)
unfolding body_of
units_are d = refl

pub pieces_are : (d : DraftValue) → AreFormed d.items → HaveNumbers d.items → item_refusal d.items ≡ None → IsTrue (all_fit 16 (layout d).units) → pieces_of (layout d).units ≡ all_pieces d
unfolding body_of
pieces_are d formed numbers none fit = ap (λ r. map piece_of (tiles_in r)) (layout_is_tiled d.items formed numbers none fit)

pub draft_items : (b : BodyValue) → (draft_of b).items ≡ items_in b (pieces_of b.units) (label_addresses (pieces_of b.units) b.tries)
unfolding draft_of
draft_items b = refl

pub draft_keeps_entries : (d : DraftValue) → AreFormed d.items → HaveNumbers d.items → item_refusal d.items ≡ None → IsTrue (all_fit 16 (layout d).units) → KeepsEntries d.items (draft_of (layout d)).items
draft_keeps_entries d formed numbers none fit =
    let b = layout d in
    let all = pieces_of b.units in
    let whole : entries_of (draft_of b).items ≡ entries_of d.items =
    ap entries_of (draft_items b) ∙ (items_entries b all (label_addresses all b.tries) ∙
    (ap (flat_map (piece_entries b all)) (pieces_are d formed numbers none fit) ∙
    (entries_to b all d.items (length d.items) (has_pools d) formed (omega arith) ∙ ap entries_of (take-length d.items)))) in
    record { entries = whole; pools = same_pools d.items (draft_of b).items whole }
