-- Layout of the draft that is made of a laid-out body puts each label at the address of its name.
use Rattle.std.proofs.Common.{◌≡◌, List, ◌++◌, length, None, IsTrue, refl, ap, ◌∙◌}
use Rattle.std.specs.List.{flat_map}
use Rattle.dv_defs.specs.Body.{BodyValue}
use Rattle.dv_defs.specs.Spelling.{all_fit}
use Rattle.dv_defs.specs.Tiling.{Tile}
use Rattle.dv_defs.specs.Layout.{AreTiles}
use Rattle.dv_defs.proofs.TilingLaws.{found_tiles}
use Rattle.dv_draft.specs.Draft.{DraftValue, AreFormed}
use Rattle.dv_asm.specs.Refusals.{item_refusal}
use Rattle.dv_draft.specs.Pools.{pools_of}
use Rattle.dv_asm.specs.Layout.{body_of, layout}
use Rattle.dv_print.specs.declared.pieces.Piece.{Piece}
use Rattle.dv_print.specs.Pieces.{pieces_of}
use Rattle.dv_print.specs.Named.{label_addresses}
use Rattle.dv_print.specs.Drafting.{labels_at, items_at, draft_of}
use Rattle.dv_asm.specs.Tiles.{tiles_of}
use Rattle.dv_print.specs.Laws.{HaveNumbers, KeepsAddresses, IsNamedBy}
use Rattle.dv_print.proofs.Units.LaidOut.{layout_is_tiled}
use Rattle.dv_print.proofs.Pools.KeptEntries.{draft_items, pieces_are}
use Rattle.dv_print.proofs.Places.PieceItems.{tile_items, not_label, even_tiles}
use Rattle.dv_print.proofs.Places.Placed.{HoldsOfLabels, HoldsOfTiles, items_placed}

labelled : HoldsOfLabels IsNamedBy
labelled a = refl

unlabelled : (b : BodyValue) (all : List Piece) (ts : List Tile) → HoldsOfTiles IsNamedBy b all ts
unlabelled b all ts t mem = not_label b all t.at t.item t.at

pub tiles_are : (d : DraftValue) → AreFormed d.items → HaveNumbers d.items → item_refusal d.items ≡ None → IsTrue (all_fit 16 (layout d).units) → AreTiles 0 (tiles_of d.items (pools_of d.items) (length d.items)) (layout d).units
unfolding body_of
tiles_are d formed numbers none fit = found_tiles _ 0 _ fit (layout_is_tiled d.items formed numbers none fit)

-- the items of the draft are those of the tiles
pub draft_starts : (d : DraftValue) → AreFormed d.items → HaveNumbers d.items → item_refusal d.items ≡ None → IsTrue (all_fit 16 (layout d).units) →
    (let b = layout d in let named = label_addresses (pieces_of b.units) b.tries in (draft_of b).items ≡ tile_items b (pieces_of b.units) named (tiles_of d.items (pools_of d.items) (length d.items)) ++ labels_at named (length b.units))
draft_starts d formed numbers none fit =
    let b = layout d in
    let all = pieces_of b.units in
    let named = label_addresses all b.tries in
    draft_items b ∙ ap (λ ps. flat_map (items_at b all named) ps ++ labels_at named (length b.units)) (pieces_are d formed numbers none fit)

pub draft_keeps_addresses : (d : DraftValue) → AreFormed d.items → HaveNumbers d.items → item_refusal d.items ≡ None → IsTrue (all_fit 16 (layout d).units) → KeepsAddresses (draft_of (layout d)).items (layout d).units
draft_keeps_addresses d formed numbers none fit =
    let b = layout d in
    let all = pieces_of b.units in
    let ts = tiles_of d.items (pools_of d.items) (length d.items) in
    let p = items_placed IsNamedBy b all (label_addresses all b.tries) (draft_of b).items ts labelled (unlabelled b all ts) (draft_starts d formed numbers none fit) (tiles_are d formed numbers none fit) (even_tiles d.items (pools_of d.items)) in
    record { labels = p.placed; size = p.size }
