-- The draft of a body without switches and handlers is laid out as that body.
use Rattle.std.proofs.Common.{◌≡◌, ℕ, ◌+◌, ◌%◌, ◌<◌, zero, suc, pos, ◌-ℤ◌, Bool, true, false, ◌&&◌, ◌⊎◌, inl, inr, List, [], ◌∷◌, length, map, drop, nat_eq, Some, if◌then◌else◌, refl, ap, sym, ◌∙◌, subst, arith, drop-cons}
use Rattle.std.specs.Option.{option_to_list}
use Rattle.std.proofs.Math.Seq.{drop-length}
use Rattle.std.specs.List.{flat_map, list_any}
use Rattle.std.proofs.lemmas.Bool.Decides.{nat_tests}
use Rattle.std.proofs.lemmas.Int.{ints}
use Rattle.std.proofs.lemmas.List.Folds.{list_any-append}
use Rattle.dv_defs.specs.declared.code.Insn.{Insn}
use Rattle.dv_defs.specs.Numbers.{jump}
use Rattle.dv_defs.specs.Tiling.{IsInsn, Tile}
use Rattle.dv_draft.specs.declared.draft.Item.{Item}
use Rattle.dv_draft.specs.declared.draft.What.{What}
use Rattle.dv_draft.specs.declared.draft.What.TheVariants as what
use Rattle.dv_draft.specs.declared.pools.Pools.{Pools}
use Rattle.dv_asm.specs.Items.{item_at, no_item, size_of, is_label, is_payload}
use Rattle.dv_asm.specs.Places.{address_of, end_of, aligned, leads_to_payload}
use Rattle.dv_print.specs.declared.pieces.Piece.{Piece}
use Rattle.dv_print.specs.Named.{target_of, named_by_piece}
use Rattle.dv_print.specs.Pieces.{piece_of}
use Rattle.dv_asm.specs.Tiles.{tiles_of}
use Rattle.dv_print.proofs.Truth.{any_left, any_right, itself}
use Rattle.dv_print.proofs.Places.ItemTiles.{tile, tiles_at, Mem, mem_to}
use Rattle.dv_print.proofs.Places.Walk.{stays}
use Rattle.dv_print.proofs.Places.Resolved.{HasAt}

-- ---- the tiles of items

mem_has : (t : Tile) (ts : List Tile) → Mem t ts → HasAt t.at ts
mem_has t [] h = absurd h
mem_has t (s ∷ ts) (inl e) = inl (ap (λ x. x.at) e)
mem_has t (s ∷ ts) (inr h) = inr (mem_has t ts h)

own_has : (items : List Item) (pools : Pools) (k : ℕ) (w : What) → (item_at items k).what ≡ w → is_label w ≡ false → k < length items → HasAt (address_of items k) (tiles_of items pools (length items))
own_has items pools k (what.Label name) e h within = absurd (cc)
own_has items pools k (what.Op op) e h within = mem_has _ (tiles_of items pools (length items)) (mem_to items pools k (length items) _ within (ap (tiles_at items pools k) e))
own_has items pools k (what.Packed first names) e h within = mem_has _ (tiles_of items pools (length items)) (mem_to items pools k (length items) _ within (ap (tiles_at items pools k) e))
own_has items pools k (what.Sparse keys names) e h within = mem_has _ (tiles_of items pools (length items)) (mem_to items pools k (length items) _ within (ap (tiles_at items pools k) e))
own_has items pools k (what.Data width bytes) e h within = mem_has _ (tiles_of items pools (length items)) (mem_to items pools k (length items) _ within (ap (tiles_at items pools k) e))

pub label_size : (w : What) → is_label w ≡ true → size_of w ≡ 0
label_size (what.Label name) e = refl
label_size (what.Op op) e = absurd (cc)
label_size (what.Packed first names) e = absurd (cc)
label_size (what.Sparse keys names) e = absurd (cc)
label_size (what.Data width bytes) e = absurd (cc)

abbrev aligned_if : ℕ → Bool → ℕ
aligned_if end b = if nat_eq (end % 2) 1 && b then end + 1 else end

-- what is aligned stays where it is
aligned_again : (end : ℕ) (b : Bool) → aligned_if (aligned_if end b + 0) b ≡ aligned_if end b
aligned_again end b = grind (arith, nat_tests)

label_leads : (item : Item) (next : List Item) → is_label item.what ≡ true → leads_to_payload (item ∷ next) ≡ leads_to_payload next
label_leads item next e = ap (λ c. if c then leads_to_payload next else is_payload item.what) e

-- what stands behind a label has its address
label_passes : (items : List Item) (j : ℕ) → j < length items → is_label (item_at items j).what ≡ true → address_of items (suc j) ≡ address_of items j
label_passes items j within e =
    let next = drop (suc j) items in
    let here : leads_to_payload (drop j items) ≡ leads_to_payload next = ap leads_to_payload (drop-cons items j no_item within) ∙ label_leads (item_at items j) next e in
    let place : address_of items j ≡ aligned_if (end_of items j) (leads_to_payload next) = ap (aligned_if (end_of items j)) here in
    let ends : end_of items (suc j) ≡ address_of items j + 0 = ap (λ n. address_of items j + n) (label_size (item_at items j).what e) in
    ap (λ n. aligned n next) (ends ∙ ap (λ n. n + 0) place) ∙ (aligned_again (end_of items j) (leads_to_payload next) ∙ sym place)

-- an item stands where a tile does, or at the end
pub placed : (items : List Item) (pools : Pools) (end f j : ℕ) → end_of items (length items) ≡ end → f + j ≡ length items → HasAt (address_of items j) (tiles_of items pools (length items)) ⊎ (address_of items j ≡ end)
placed items pools end zero j e h =
    let all : j ≡ length items = omega arith in
    inr (ap (address_of items) all ∙ (stays (end_of items (length items)) (drop (length items) items) (λ l. absurd (cc (l, ap leads_to_payload (drop-length items)))) ∙ e))
placed items pools end (suc f) j e h = at (is_label (item_at items j).what) refl (placed items pools end f (suc j) e (omega arith))
  where
    at : (b : Bool) → is_label (item_at items j).what ≡ b → HasAt (address_of items (suc j)) (tiles_of items pools (length items)) ⊎ (address_of items (suc j) ≡ end) → HasAt (address_of items j) (tiles_of items pools (length items)) ⊎ (address_of items j ≡ end)
    at false l later = inl (own_has items pools j (item_at items j).what refl l (omega arith))
    at true l later =
        let P : ℕ → Type 0 = λ n. HasAt n (tiles_of items pools (length items)) ⊎ (n ≡ end) in
        subst P (label_passes items j (omega arith) l) later

-- ---- what an instruction names

pub leads_back : (from to : ℕ) → jump from (pos to -ℤ pos from) ≡ to
leads_back from to = grind (arith, ints)

-- what the piece of a tile names is among what all pieces name
pub named_by_tile : (all : List Piece) (a : ℕ) (t : Tile) (ts : List Tile) → list_any (λ n. nat_eq n a) (named_by_piece all (piece_of t)) ≡ true → Mem t ts → list_any (λ n. nat_eq n a) (flat_map (named_by_piece all) (map piece_of ts)) ≡ true
named_by_tile all a t [] e h = absurd h
named_by_tile all a t (s ∷ ts) e (inl same) =
    list_any-append (λ n. nat_eq n a) (named_by_piece all (piece_of s)) (flat_map (named_by_piece all) (map piece_of ts)) ∙
    any_left _ _ (ap (λ x. list_any (λ n. nat_eq n a) (named_by_piece all (piece_of x))) same ∙ e)
named_by_tile all a t (s ∷ ts) e (inr later) =
    list_any-append (λ n. nat_eq n a) (named_by_piece all (piece_of s)) (flat_map (named_by_piece all) (map piece_of ts)) ∙
    any_right _ _ (named_by_tile all a t ts e later)

pub named_in : (all : List Piece) (at size a : ℕ) (i : Insn) (ts : List Tile) → target_of at i ≡ Some a → Mem (tile at size (IsInsn i)) ts → list_any (λ n. nat_eq n a) (flat_map (named_by_piece all) (map piece_of ts)) ≡ true
named_in all at size a i ts e h =
    named_by_tile all a (tile at size (IsInsn i)) ts (ap (λ o. list_any (λ n. nat_eq n a) (option_to_list o)) e ∙ any_left (nat_eq a a) false (itself a)) h
