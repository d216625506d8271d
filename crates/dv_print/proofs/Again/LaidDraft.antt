-- A draft that isn't refused, and what is known of the draft that is made of its body.
use Rattle.std.proofs.Common.{◌≡◌, ℕ, ◌<◌, true, false, not, List, [], ◌∷◌, length, nat_eq, Option, Some, None, IsTrue, if◌then◌else◌, refl, ap, sym, ◌∙◌, subst, arith}
use Rattle.std.specs.Option.{option_to_list}
use Rattle.std.proofs.lemmas.Bool.Decides.{nat_tests}
use Rattle.std.specs.List.{flat_map, list_any}
use Rattle.std.proofs.lemmas.List.Folds.{list_any-append}
use Rattle.dv_defs.specs.declared.faults.LineKind.TheVariants as kind
use Rattle.dv_defs.specs.Numbers.{jump}
use Rattle.dv_defs.specs.Spelling.{all_fit}
use Rattle.dv_defs.specs.Tiling.{Tile}
use Rattle.dv_draft.specs.declared.draft.Item.{Item}
use Rattle.dv_draft.specs.declared.draft.Catch.{Catch}
use Rattle.dv_draft.specs.Draft.{DraftValue, AreFormed}
use Rattle.dv_asm.specs.Items.{item_at, is_payload}
use Rattle.dv_asm.specs.Places.{address_of, end_of, label_address}
use Rattle.dv_asm.specs.Refusals.{refused, label_twice, no_label, no_label_at, no_label_of_catch_at, has_label, has_labels, has_label_if_any, catch_at, catch_has_labels, repeated, label_refusal, item_refusal, range_refusal, refusal}
use Rattle.dv_asm.specs.First.{first_line, earlier}
use Rattle.dv_asm.proofs.FirstLemmas.{first_line_none, not_when}
use Rattle.dv_draft.specs.Pools.{pools_of}
use Rattle.dv_asm.specs.Layout.{types_of, tries_of, body_of, layout}
use Rattle.dv_asm.proofs.PlaceLemmas.{ends_within}
use Rattle.dv_print.specs.declared.pieces.Piece.{Piece}
use Rattle.dv_print.specs.Numbers.{label_name}
use Rattle.dv_print.specs.Pieces.{part_of, piece_of, pieces_of}
use Rattle.dv_print.specs.Named as named
use Rattle.dv_print.specs.Named.{target_of, named_by_part, named_by_piece, named_by_try, label_addresses}
use Rattle.dv_print.specs.Drafting.{labels_at, draft_of}
use Rattle.dv_asm.specs.Tiles.{tiles_of}
use Rattle.dv_print.specs.Laws.{HaveNumbers}
use Rattle.dv_print.proofs.Truth.{both, any_left, any_right, not_false, none_of, refused_none}
use Rattle.dv_print.proofs.Pools.KeptEntries.{has_pools, units_are, pieces_are}
use Rattle.dv_print.proofs.Places.PieceItems.{even_tiles}
use Rattle.dv_print.proofs.Units.KeptAddresses.{tiles_are, draft_starts, draft_keeps_addresses}
use Rattle.dv_print.proofs.Units.LaidOut.{layout_size, are_short}
use Rattle.dv_print.proofs.Units.KnownDraft.{Known, leads_to, tile_listed}
use Rattle.dv_print.proofs.Places.Placed.{items_placed}
use Rattle.dv_print.proofs.Units.SwitchTiles.{SwitchTo, HasPayload, switch_tile, base_before}
use Rattle.dv_print.proofs.Units.Rebased.{IsPlaced, Drafts, labels_placed, tiles_placed, switch_offset, base_after}
use Rattle.dv_print.proofs.Units.SpelledAgain.{IsRebased}
use Rattle.dv_print.proofs.Ranges.KeptHandlers.{LeadsTo, Leads}
use Rattle.dv_print.proofs.Ranges.NamedHandlers.{entry_names, handler_named}

-- ---- the refusals

pub earlier_none : (a c : Option ℕ) → earlier a c ≡ None → (a ≡ None) × (c ≡ None)
earlier_none None c none = (refl, none)
earlier_none (Some a) None none = absurd (cc)
earlier_none (Some a) (Some c) none = absurd (cc)

pub no_label_refused : (items : List Item) (catches : List Catch) → label_refusal items catches ≡ None → no_label items catches ≡ None
no_label_refused items catches none =
    refused_none kind.NoLabel (no_label items catches) (none_of (refused kind.LabelTwice (label_twice items)) (refused kind.NoLabel (no_label items catches)) none).1

-- the labels that items name are there
pub items_labelled : (items : List Item) (catches : List Catch) → label_refusal items catches ≡ None → (k : ℕ) → k < length items → has_labels items (item_at items k).what ≡ true
items_labelled items catches none k within =
    let first = (earlier_none (first_line (no_label_at items) (length items)) _ (no_label_refused items catches none)).0 in
    not_false _ (not_when (not (has_labels items (item_at items k).what)) (item_at items k).line (first_line_none (no_label_at items) (length items) k first within))

-- and those that handlers name
pub catches_labelled : (items : List Item) (catches : List Catch) → label_refusal items catches ≡ None → (j : ℕ) → j < length catches → catch_has_labels items (catch_at catches j) ≡ true
catches_labelled items catches none j within =
    let second = (earlier_none (first_line (no_label_at items) (length items)) _ (no_label_refused items catches none)).1 in
    not_false _ (not_when (not (catch_has_labels items (catch_at catches j))) (catch_at catches j).line (first_line_none (no_label_of_catch_at items catches) (length catches) j second within))

-- ---- what is known of the draft

-- what layout takes for granted of the draft before
pub record IsLaidOut (d : DraftValue) : Type 0 where
  pub formed : AreFormed d.items
  pub numbers : HaveNumbers d.items
  pub labels : label_refusal d.items d.catches ≡ None
  pub none : item_refusal d.items ≡ None
  pub ranges : range_refusal d.items d.catches ≡ None
  pub fit : IsTrue (all_fit 16 (layout d).units)

pub laid_out : (d : DraftValue) → AreFormed d.items → HaveNumbers d.items → refusal d ≡ None → IsTrue (all_fit 16 (layout d).units) → IsLaidOut d
laid_out d formed numbers none fit =
    let first = none_of (label_refusal d.items d.catches) _ none in
    let rest = none_of (item_refusal d.items) (range_refusal d.items d.catches) first.1 in
    record { formed = formed; numbers = numbers; labels = first.0; none = rest.0; ranges = rest.1; fit = fit }

abbrev pub after_of : DraftValue → List Item
after_of d = (draft_of (layout d)).items

abbrev pub pieces : DraftValue → List Piece
pieces d = pieces_of (layout d).units

abbrev pub all_named : DraftValue → List ℕ
all_named d = label_addresses (pieces d) (layout d).tries

abbrev pub tiles : DraftValue → List Tile
tiles d = tiles_of d.items (pools_of d.items) (length d.items)

pub known : (d : DraftValue) → IsLaidOut d → Known d.items (after_of d) (layout d) (pieces d) (all_named d)
known d l =
    let short = are_short d.items l.none in
    let ends : end_of d.items (length d.items) ≡ length (layout d).units = sym (layout_size d.items l.formed l.numbers l.none) ∙ sym (ap length (units_are d)) in
    record {
      short = omega (arith, ends, ends_within d.items short (length d.items) (omega arith));
      ends = ends;
      pieces = pieces_are d l.formed l.numbers l.none l.fit;
      names_are = refl;
      start = draft_starts d l.formed l.numbers l.none l.fit;
      kept = draft_keeps_addresses d l.formed l.numbers l.none l.fit;
      pools = has_pools d;
    }

-- the label of a switch leads where it led
pub switch_leads : (d : DraftValue) → IsLaidOut d → (k a : ℕ) → k < length d.items → SwitchTo d.items (item_at d.items k).what a → label_address (after_of d) (label_name a) ≡ a
switch_leads d l k a within s =
    let t = switch_tile d.items (pools_of d.items) k a within s in
    let has : has_label d.items s.name ≡ true =
    sym (ap (has_label_if_any d.items) s.label) ∙ (sym (ap (has_labels d.items) s.is) ∙ items_labelled d.items d.catches l.labels k within) in
    let same : nat_eq a a ≡ true = grind (arith, nat_tests) in
    let target : target_of t.tile.at t.to.insn ≡ Some a = ap (λ c. if c then Some (jump t.tile.at t.to.insn.off) else None) (switch_offset t.to.insn.op t.to.opcode) ∙ ap Some t.to.leads in
    let names : named_by_piece (pieces d) (piece_of t.tile) ≡ a ∷ [] = ap (λ x. named_by_part (pieces d) t.tile.at (part_of x)) t.to.is ∙ ap option_to_list target in
    let listed = tile_listed d.items (after_of d) (layout d) (pieces d) (all_named d) a t.tile (known d l) (ap (list_any (λ n. nat_eq n a)) names ∙ any_left (nat_eq a a) false same) t.mem in
    let P : ℕ → Type 0 = λ n. label_address (after_of d) (label_name n) ≡ n in
    subst P s.leads (leads_to d.items (after_of d) (layout d) (pieces d) (all_named d) s.name (known d l) (are_short d.items l.none) has (ap (named.is_label_address (all_named d)) s.leads ∙ listed))

pub none_repeated : (items : List Item) → item_refusal items ≡ None → repeated items ≡ None
none_repeated items none = refused_none kind.Repeated (repeated items) (none_of (refused kind.Repeated (repeated items)) _ none).0

pub drafts : (d : DraftValue) → IsLaidOut d → Drafts d.items (after_of d) (pools_of d.items) (layout d) (pieces d) (all_named d) (labels_at (all_named d) (length (layout d).units))
drafts d l = record {
  formed = l.formed;
  once = none_repeated d.items l.none;
  start = draft_starts d l.formed l.numbers l.none l.fit;
  placed = (items_placed (IsPlaced (layout d) (pieces d) (tiles d)) (layout d) (pieces d) (all_named d) (after_of d) (tiles d) (labels_placed (layout d) (pieces d) (tiles d)) (tiles_placed (layout d) (pieces d) (tiles d)) (draft_starts d l.formed l.numbers l.none l.fit) (tiles_are d l.formed l.numbers l.none l.fit) (even_tiles d.items (pools_of d.items))).placed;
  leads = switch_leads d l;
}

pub rebased : (d : DraftValue) → IsLaidOut d → (k : ℕ) → k < length d.items → is_payload (item_at d.items k).what ≡ true → IsRebased d.items (after_of d) (pieces d) k
rebased d l k within payload =
    let p : HasPayload d.items (address_of d.items k) = record { place = k; within = within; payload = payload; at = refl } in
    record {
      before = ap (λ ps. named.switch_address ps (address_of d.items k)) (pieces_are d l.formed l.numbers l.none l.fit) ∙ base_before d.items (pools_of d.items) (address_of d.items k) l.formed (none_repeated d.items l.none) p;
      after_it = base_after d.items (after_of d) (pools_of d.items) (layout d) (pieces d) (all_named d) (labels_at (all_named d) (length (layout d).units)) (address_of d.items k) (drafts d l) p;
    }

-- ---- handlers

pub tries_are : (d : DraftValue) → (layout d).tries ≡ tries_of d.items d.catches (types_of d.items d.catches)
unfolding body_of
tries_are d = refl

pub entry_listed : (d : DraftValue) (a : ℕ) → named.is_label_address (entry_names d.items d.catches) a ≡ true → named.is_label_address (all_named d) a ≡ true
entry_listed d a e =
    list_any-append (λ n. nat_eq n a) (flat_map (named_by_piece (pieces d)) (pieces d)) (flat_map named_by_try (layout d).tries) ∙
    any_right _ _ (ap (λ ts. named.is_label_address (flat_map named_by_try ts) a) (tries_are d) ∙ e)

pub handler_leads : (d : DraftValue) → IsLaidOut d → (j : ℕ) → j < length d.catches → Leads d.items (after_of d) (catch_at d.catches j)
handler_leads d l j within =
    let c = catch_at d.catches j in
    let first = both (has_label d.items c.from) _ (catches_labelled d.items d.catches l.labels j within) in
    let rest = both (has_label d.items c.to) (has_label d.items c.at) first.1 in
    let names = handler_named d.items d.catches j within in
    let to : (name : List ℕ) → has_label d.items name ≡ true → named.is_label_address (entry_names d.items d.catches) (label_address d.items name) ≡ true → LeadsTo (after_of d) (label_address d.items name) =
    λ name has e. leads_to d.items (after_of d) (layout d) (pieces d) (all_named d) name (known d l) (are_short d.items l.none) has (entry_listed d (label_address d.items name) e) in
    record {
      start = to c.from first.0 names.start;
      end = to c.to rest.0 names.end;
      at = to c.at rest.1 names.at;
    }
