-- Pieces as items: their sizes and kinds.
use Rattle.std.proofs.Common.{◌≡◌, ℕ, ◌+◌, ◌*◌, ◌%◌, ◌<◌, ◌≤◌, suc, ℤ, Bool, true, false, ◌&&◌, ◌⊎◌, inl, inr, List, ◌∷◌, length, map, take, drop, nat_eq, Some, if◌then◌else◌, refl, ap, sym, ◌∙◌, arith, drop-cons}
use Rattle.std.specs.List.{flat_map}
use Rattle.std.proofs.lemmas.Bool.{eqb-true}
use Rattle.std.proofs.lemmas.Bool.Decides.{nat_tests}
use Rattle.std.proofs.lemmas.List.{length-map, length-take-le}
use Rattle.dv_defs.specs.declared.code.Payload.TheVariants as payload
use Rattle.dv_defs.specs.Body.{BodyValue}
use Rattle.dv_defs.specs.Tiling as tiling
use Rattle.dv_defs.specs.Tiling.{IsInsn, IsPayload, Tile}
use Rattle.dv_defs.specs.Layout.{item_spelling}
use Rattle.dv_defs.proofs.PayloadLaws.{where_fits_is}
use Rattle.dv_draft.specs.declared.draft.Item.{Item}
use Rattle.dv_draft.specs.declared.draft.What.{What}
use Rattle.dv_draft.specs.declared.draft.What.TheVariants as what
use Rattle.dv_draft.specs.declared.pools.Pools.{Pools}
use Rattle.dv_asm.specs.Items.{item_at, no_item, size_of, is_payload}
use Rattle.dv_asm.specs.Places.{address_of, end_of, leads_to_payload}
use Rattle.dv_asm.proofs.UnitLemmas.{insn_size, packed_size, sparse_size, data_size}
use Rattle.dv_print.specs.declared.pieces.Piece.{Piece}
use Rattle.dv_print.specs.Pieces.{part_of, piece_of}
use Rattle.dv_print.specs.Drafting.{labels_from, part_item, with_no_line, items_at}
use Rattle.dv_asm.specs.Tiles.{tiles_of}
use Rattle.dv_print.specs.Laws.{IsNamedBy}
use Rattle.dv_print.proofs.Truth.{both}
use Rattle.dv_print.proofs.Places.ItemTiles.{tiles_at, nop, Mem, OfItem, of_item}

-- the items of tiles
abbrev pub tile_items : BodyValue → List Piece → List ℕ → List Tile → List Item
tile_items b all named ts = flat_map (items_at b all named) (map piece_of ts)

-- ---- sizes and kinds of pieces

pub labels_length : (base : ℕ) (targets : List ℤ) → length (labels_from base targets) ≡ length targets
labels_length base targets = simp length-map

part_size : (b : BodyValue) (all : List Piece) (at : ℕ) (x : tiling.Item) (us : List ℕ) → item_spelling x ≡ Some us → size_of (part_item b all at (part_of x)) ≡ length us
part_size b all at (IsInsn i) us e = sym (insn_size i us e)
part_size b all at (IsPayload (payload.Packed first targets)) us e =
    ap (λ n. n * 2 + 4) (labels_length _ targets) ∙ sym (packed_size first targets us e)
part_size b all at (IsPayload (payload.Sparse keys targets)) us e =
    let fitting = both _ _ (where_fits_is _ _ us e).0 in
    let same = eqb-true _ _ (both _ _ fitting.1).0 in
    ap (λ n. n * 4 + 2) (labels_length _ targets) ∙ sym (sparse_size keys targets us same e)
part_size b all at (IsPayload (payload.Data width bytes)) us e = sym (data_size width bytes us e)

pub not_label : (b : BodyValue) (all : List Piece) (at : ℕ) (x : tiling.Item) (address : ℕ) → IsNamedBy (part_item b all at (part_of x)) address
not_label b all at (IsInsn i) address = tt
not_label b all at (IsPayload (payload.Packed first targets)) address = tt
not_label b all at (IsPayload (payload.Sparse keys targets)) address = tt
not_label b all at (IsPayload (payload.Data width bytes)) address = tt

abbrev is_payload_tile : tiling.Item → Bool
is_payload_tile (IsInsn i) = false
is_payload_tile (IsPayload p) = true

pub leads : (b : BodyValue) (all : List Piece) (at : ℕ) (x : tiling.Item) (more : List Item) → leads_to_payload (with_no_line (part_item b all at (part_of x)) ∷ more) ≡ is_payload_tile x
leads b all at (IsInsn i) more = refl
leads b all at (IsPayload (payload.Packed first targets)) more = refl
leads b all at (IsPayload (payload.Sparse keys targets)) more = refl
leads b all at (IsPayload (payload.Data width bytes)) more = refl

pub tile_size : (b : BodyValue) (all : List Piece) (t : Tile) (us : List ℕ) → t.size ≤ length us → item_spelling t.item ≡ Some (take t.size us) → size_of (part_item b all t.at (part_of t.item)) ≡ t.size
tile_size b all t us room e = part_size b all t.at t.item (take t.size us) e ∙ length-take-le t.size us room

-- ---- payloads stand at even addresses

abbrev pub IsEven : Tile → Type 0
IsEven t = is_payload_tile t.item ≡ true → t.at % 2 ≡ 0

aligned_even : (end : ℕ) (b : Bool) → b ≡ true → (if nat_eq (end % 2) 1 && b then end + 1 else end) % 2 ≡ 0
aligned_even end b e = grind (arith, nat_tests)

payload_next : (items : List Item) (k : ℕ) → k < length items → is_payload (item_at items k).what ≡ true → leads_to_payload (drop k items) ≡ true
payload_next items k within e = ap leads_to_payload (drop-cons items k no_item within) ∙ lead (item_at items k).what (drop (suc k) items) e
  where
    lead : (w : What) (more : List Item) → is_payload w ≡ true → leads_to_payload (record { line = (item_at items k).line; what = w } ∷ more) ≡ true
    lead (what.Label name) more e = absurd (cc)
    lead (what.Op op) more e = absurd (cc)
    lead (what.Packed first names) more e = refl
    lead (what.Sparse keys names) more e = refl
    lead (what.Data width bytes) more e = refl

even_address : (items : List Item) (k : ℕ) → k < length items → is_payload (item_at items k).what ≡ true → address_of items k % 2 ≡ 0
even_address items k within e = aligned_even (end_of items k) (leads_to_payload (drop k items)) (payload_next items k within e)

even_at : (items : List Item) (k : ℕ) (s t : Tile) → s ≡ t → s.at ≡ address_of items k → k < length items → is_payload (item_at items k).what ≡ true → t.at % 2 ≡ 0
even_at items k s t same at within payload = ap (λ (x : Tile). x.at % 2) (sym same) ∙ (ap (λ n. n % 2) at ∙ even_address items k within payload)

even_own : (items : List Item) (pools : Pools) (k : ℕ) (w : What) (t : Tile) → k < length items → (item_at items k).what ≡ w → Mem t (tiles_at items pools k w) → IsEven t
even_own items pools k (what.Label name) t within e h payload = absurd h
even_own items pools k (what.Op op) t within e (inl same) payload = let no = ap (λ (x : Tile). is_payload_tile x.item) same ∙ payload in absurd (cc)
even_own items pools k (what.Op op) t within e (inr h) payload = absurd h
even_own items pools k (what.Packed first names) t within e (inl same) payload = even_at items k _ t same refl within (ap is_payload e)
even_own items pools k (what.Packed first names) t within e (inr h) payload = absurd h
even_own items pools k (what.Sparse keys names) t within e (inl same) payload = even_at items k _ t same refl within (ap is_payload e)
even_own items pools k (what.Sparse keys names) t within e (inr h) payload = absurd h
even_own items pools k (what.Data width bytes) t within e (inl same) payload = even_at items k _ t same refl within (ap is_payload e)
even_own items pools k (what.Data width bytes) t within e (inr h) payload = absurd h

pub even_tiles : (items : List Item) (pools : Pools) (t : Tile) → Mem t (tiles_of items pools (length items)) → IsEven t
even_tiles items pools t mem payload = at (of_item items pools (length items) t (omega arith) mem)
  where
    at : (t.item ≡ nop) ⊎ OfItem items pools t → t.at % 2 ≡ 0
    at (inl e) = let no = sym (ap is_payload_tile e) ∙ payload in absurd (cc)
    at (inr o) = even_own items pools o.place (item_at items o.place).what t o.within refl o.own payload
