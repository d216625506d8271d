-- What each item of the draft that is made of a laid-out body comes from.
use Rattle.std.proofs.Common.{◌≡◌, ℕ, ◌<◌, true, ◌⊎◌, inl, inr, [], length, refl, ap, sym, ◌∙◌, subst, arith}
use Rattle.dv_defs.specs.declared.code.Payload.{Payload}
use Rattle.dv_defs.specs.declared.code.Payload.TheVariants as payload
use Rattle.dv_defs.specs.Spelling.{plain, few}
use Rattle.dv_defs.specs.Tiling as tiling
use Rattle.dv_defs.specs.Tiling.{IsInsn, IsPayload, Tile}
use Rattle.dv_draft.specs.declared.draft.Draftop.{Draftop}
use Rattle.dv_draft.specs.declared.draft.What.{What}
use Rattle.dv_draft.specs.declared.draft.What.TheVariants as what
use Rattle.dv_draft.specs.Draft.{DraftValue}
use Rattle.dv_asm.specs.Items.{item_at, is_label}
use Rattle.dv_asm.specs.Places.{address_of}
use Rattle.dv_draft.specs.Pools.{pools_of}
use Rattle.dv_asm.specs.Layout.{insn_of, packed_of, sparse_of, layout}
use Rattle.dv_print.specs.Pieces.{part_of}
use Rattle.dv_print.specs.Named as named
use Rattle.dv_print.specs.Drafting.{drafted_op, payload_item, part_item}
use Rattle.dv_print.proofs.Places.ItemTiles.{tiles_at, nop, Mem, OfItem, of_item}
use Rattle.dv_print.proofs.Units.Rebased.{IsOfTile, IsPlaced}
use Rattle.dv_print.proofs.Again.LaidDraft.{IsLaidOut, after_of, pieces, tiles, drafts}

-- what is at place p of the draft before is this payload
abbrev pub HasContent : DraftValue → ℕ → What → Payload → Type 0
HasContent d p (what.Label name) x = ⊥
HasContent d p (what.Op op) x = ⊥
HasContent d p (what.Packed first names) x = packed_of d.items (address_of d.items p) first names ≡ x
HasContent d p (what.Sparse keys names) x = sparse_of d.items (address_of d.items p) keys names ≡ x
HasContent d p (what.Data width bytes) x = payload.Data width bytes ≡ x

-- item k of the draft is a nop that layout put before a payload
pub record FromNop (d : DraftValue) (k : ℕ) : Type 0 where
  pub is : (item_at (after_of d) k).what ≡ what.Op (drafted_op (layout d) (address_of (after_of d) k) (plain 0 (few [])))

-- item k of the draft is made of an instruction of the draft before, and stands where that stands
pub record FromOp (d : DraftValue) (k : ℕ) : Type 0 where
  pub place : ℕ
  pub within : place < length d.items
  pub op : Draftop
  pub own : (item_at d.items place).what ≡ what.Op op
  pub is : (item_at (after_of d) k).what ≡ what.Op (drafted_op (layout d) (address_of d.items place) (insn_of d.items (pools_of d.items) place op))
  pub at : address_of (after_of d) k ≡ address_of d.items place

-- item k of the draft is made of a payload of the draft before, and stands where that stands
pub record FromPayload (d : DraftValue) (k : ℕ) : Type 0 where
  pub place : ℕ
  pub within : place < length d.items
  pub payload : Payload
  pub own : HasContent d place (item_at d.items place).what payload
  pub is : (item_at (after_of d) k).what ≡ payload_item (named.switch_address (pieces d) (address_of d.items place)) payload
  pub at : address_of (after_of d) k ≡ address_of d.items place

abbrev pub Origin : DraftValue → ℕ → Type 0
Origin d k = (is_label (item_at (after_of d) k).what ≡ true) ⊎ (FromNop d k ⊎ (FromOp d k ⊎ FromPayload d k))

abbrev pub part_at : DraftValue → ℕ → tiling.Item → What
part_at d at x = part_item (layout d) (pieces d) at (part_of x)

of_tile : (d : DraftValue) (k p : ℕ) (t : Tile) (w : What) → p < length d.items → (item_at d.items p).what ≡ w → Mem t (tiles_at d.items (pools_of d.items) p w) → (item_at (after_of d) k).what ≡ part_at d t.at t.item → t.at ≡ address_of (after_of d) k → Origin d k
of_tile d k p t (what.Label name) within e h is at = absurd h
of_tile d k p t (what.Op op) within e (inr h) is at = absurd h
of_tile d k p t (what.Op op) within e (inl same) is at =
    inr (inr (inl (record { place = p; within = within; op = op; own = e; is = is ∙ ap (λ (x : Tile). part_at d x.at x.item) (sym same); at = sym at ∙ ap (λ (x : Tile). x.at) (sym same) })))
of_tile d k p t (what.Packed first names) within e (inr h) is at = absurd h
of_tile d k p t (what.Packed first names) within e (inl same) is at =
    let P : What → Type 0 = λ w. HasContent d p w (packed_of d.items (address_of d.items p) first names) in
    inr (inr (inr (record { place = p; within = within; payload = packed_of d.items (address_of d.items p) first names; own = subst P (sym e) refl; is = is ∙ ap (λ (x : Tile). part_at d x.at x.item) (sym same); at = sym at ∙ ap (λ (x : Tile). x.at) (sym same) })))
of_tile d k p t (what.Sparse keys names) within e (inr h) is at = absurd h
of_tile d k p t (what.Sparse keys names) within e (inl same) is at =
    let P : What → Type 0 = λ w. HasContent d p w (sparse_of d.items (address_of d.items p) keys names) in
    inr (inr (inr (record { place = p; within = within; payload = sparse_of d.items (address_of d.items p) keys names; own = subst P (sym e) refl; is = is ∙ ap (λ (x : Tile). part_at d x.at x.item) (sym same); at = sym at ∙ ap (λ (x : Tile). x.at) (sym same) })))
of_tile d k p t (what.Data width bytes) within e (inr h) is at = absurd h
of_tile d k p t (what.Data width bytes) within e (inl same) is at =
    let P : What → Type 0 = λ w. HasContent d p w (payload.Data width bytes) in
    inr (inr (inr (record { place = p; within = within; payload = payload.Data width bytes; own = subst P (sym e) refl; is = is ∙ ap (λ (x : Tile). part_at d x.at x.item) (sym same); at = sym at ∙ ap (λ (x : Tile). x.at) (sym same) })))

-- each item of the draft is a label, or comes from a nop or an item of the draft before
pub origin : (d : DraftValue) → IsLaidOut d → (k : ℕ) → k < length (after_of d) → Origin d k
origin d l k within = at ((drafts d l).placed k within)
  where
    made : (f : IsOfTile (layout d) (pieces d) (tiles d) (item_at (after_of d) k).what (address_of (after_of d) k)) → (f.tile.item ≡ nop) ⊎ OfItem d.items (pools_of d.items) f.tile → Origin d k
    made f (inl own) = inr (inl (record { is = f.is ∙ (ap (part_at d f.tile.at) own ∙ ap (λ n. what.Op (drafted_op (layout d) n (plain 0 (few [])))) f.at) }))
    made f (inr o) = of_tile d k o.place f.tile (item_at d.items o.place).what o.within refl o.own f.is f.at

    at : IsPlaced (layout d) (pieces d) (tiles d) (item_at (after_of d) k).what (address_of (after_of d) k) → Origin d k
    at (inl label) = inl label
    at (inr f) = made f (of_item d.items (pools_of d.items) (length d.items) f.tile (omega arith) f.mem)
