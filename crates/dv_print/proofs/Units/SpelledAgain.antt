-- The draft that is made of a laid-out body is spelled as that body.
use Rattle.std.proofs.Common.{◌≡◌, ℕ, ◌<◌, ℤ, pos, ◌-ℤ◌, Bool, true, false, ◌⊎◌, inl, inr, List, [], ◌∷◌, length, map, nat_eq, Option, Some, None, is_some, if◌then◌else◌, refl, ap, sym, ◌∙◌, subst, arith}
use Rattle.std.specs.Prelude.{option_map}
use Rattle.std.specs.List.{list_any, list_all}
use Rattle.std.specs.Option.{option_to_list}
use Rattle.std.proofs.lemmas.Bool.Decides.{nat_tests}
use Rattle.dv_defs.specs.declared.code.Insn.{Insn}
use Rattle.dv_defs.specs.declared.code.Payload.{Payload}
use Rattle.dv_defs.specs.declared.code.Payload.TheVariants as payload
use Rattle.dv_defs.specs.Payloads.{payload_spelling}
use Rattle.dv_defs.specs.Tiling.{IsInsn, IsPayload, Tile}
use Rattle.dv_defs.specs.Body.{BodyValue}
use Rattle.dv_defs.specs.Numbers.{jump}
use Rattle.dv_defs.specs.Spelling.{spelling}
use Rattle.dv_draft.specs.declared.draft.Item.{Item}
use Rattle.dv_draft.specs.declared.draft.Draftop.{Draftop}
use Rattle.dv_draft.specs.declared.draft.What.{What}
use Rattle.dv_draft.specs.declared.draft.What.TheVariants as what
use Rattle.dv_draft.specs.declared.pools.Pools.{Pools}
use Rattle.dv_draft.specs.Draft.{AreFormed, IsFormed, IsOp, blank}
use Rattle.dv_asm.specs.Items.{item_at, no_item, size_of, is_payload}
use Rattle.dv_asm.specs.Places.{address_of, label_address, distance}
use Rattle.dv_asm.specs.Refusals.{has_label, has_labels, has_label_if_any, too_long}
use Rattle.dv_draft.specs.Pools.{index_of}
use Rattle.dv_draft.specs.Pools.{pools_of}
use Rattle.dv_asm.specs.Layout.{insn_of, offset_of, base_of, targets_of}
use Rattle.dv_print.specs.declared.pieces.Piece.{Piece}
use Rattle.dv_print.specs.Numbers.{label_name}
use Rattle.dv_defs.specs.Families.{pool_at}
use Rattle.dv_defs.specs.Formats.{format_at, has_offset}
use Rattle.dv_print.specs.Named as named
use Rattle.dv_print.specs.Named.{target_of, named_by_try, label_addresses}
use Rattle.dv_print.specs.Drafting.{entry_in, drafted_op, labels_from}
use Rattle.dv_asm.specs.Tiles.{tiles_of}
use Rattle.dv_print.proofs.Truth.{both, any_left, any_right}
use Rattle.dv_print.proofs.Places.ItemTiles.{tile, tiles_at, nop, Mem, mem_to, OfItem, of_item}
use Rattle.dv_print.proofs.Pools.KeptEntries.{own_entry, small_opcode}
use Rattle.dv_print.proofs.Units.KeptUnits.{IsSpelledAs}
use Rattle.dv_print.proofs.Places.Branches.{leads_back}
use Rattle.dv_print.proofs.Units.KnownDraft.{Known, leads_to, tile_listed}
use Rattle.dv_print.proofs.Units.Straight.{insn_by, offset_none, same_insn, nop_spelled}

target_is : (at : ℕ) (i : Insn) (c : Bool) → c ≡ true → (if c then Some (jump at i.off) else None) ≡ Some (jump at i.off)
target_is at i true e = refl
target_is at i false e = absurd (cc)

offset_some : (after : List Item) (k : ℕ) (label : Option (List ℕ)) (name : List ℕ) (off : ℤ) → label ≡ Some name → distance after (address_of after k) name ≡ off → offset_of after k label ≡ off
offset_some after k None name off e h = absurd (cc)
offset_some after k (Some own) name off e h = let same : own ≡ name = cc in ap (λ n. distance after (address_of after k) n) same ∙ h

-- the target of a branch is the address of its label, which is among the addresses that are named
pub branch_to : (items after : List Item) (b : BodyValue) (all : List Piece) (names : List ℕ) (k : ℕ) (op : Draftop) (name : List ℕ) → Known items after b all names → k < length items → (item_at items k).what ≡ what.Op op → op.label ≡ Some name → has_offset (format_at op.insn.op) ≡ true → (target_of (address_of items k) (insn_of items (pools_of items) k op) ≡ Some (label_address items name)) × (named.is_label_address names (label_address items name) ≡ true)
branch_to items after b all names k op name h within e labelled offset =
    let i = insn_of items (pools_of items) k op in
    let from = address_of items k in
    let to = label_address items name in
    let off : i.off ≡ pos to -ℤ pos from = offset_some items k op.label name (pos to -ℤ pos from) labelled refl in
    let target : target_of from i ≡ Some to = target_is from i (has_offset (format_at op.insn.op)) offset ∙ ap (λ z. Some (jump from z)) off ∙ ap Some (leads_back from to) in
    let t = tile from (size_of (what.Op op)) (IsInsn i) in
    let member = mem_to items (pools_of items) k (length items) t within (ap (tiles_at items (pools_of items) k) e) in
    let same : nat_eq to to ≡ true = grind (arith, nat_tests) in
    (target, tile_listed items after b all names to t h (ap (λ o. list_any (λ n. nat_eq n to) (option_to_list o)) target ∙ any_left (nat_eq to to) false same) member)

-- a branch leads where it led
pub branch_same : (items after : List Item) (b : BodyValue) (all : List Piece) (names : List ℕ) (k : ℕ) (op : Draftop) (name : List ℕ) → Known items after b all names → too_long items ≡ None → k < length items → (item_at items k).what ≡ what.Op op → op.label ≡ Some name → has_label items name ≡ true → has_offset (format_at op.insn.op) ≡ true → (j : ℕ) → address_of after j ≡ address_of items k → offset_of after j (drafted_op b (address_of items k) (insn_of items (pools_of items) k op)).label ≡ (insn_of items (pools_of items) k op).off
branch_same items after b all names k op name h short within e labelled has offset j at =
    let i = insn_of items (pools_of items) k op in
    let from = address_of items k in
    let to = label_address items name in
    let off : i.off ≡ pos to -ℤ pos from = offset_some items k op.label name (pos to -ℤ pos from) labelled refl in
    let target = branch_to items after b all names k op name h within e labelled offset in
    let leads = leads_to items after b all names name h short has target.1 in
    offset_some after j (drafted_op b from i).label (label_name to) i.off (ap (option_map label_name) target.0)
    (ap (λ n. pos (label_address after (label_name to)) -ℤ pos n) at ∙ (ap (λ n. pos n -ℤ pos from) leads ∙ sym off))

-- ---- each piece is spelled as it was

op_spelled : (items after : List Item) (b : BodyValue) (all : List Piece) (names : List ℕ) (k : ℕ) (op : Draftop) (label : Option (List ℕ)) → Known items after b all names → k < length items → (item_at items k).what ≡ what.Op op → IsOp op → op.label ≡ label → has_label_if_any items label ≡ true → too_long items ≡ None → IsSpelledAs after (pools_of items) b all (tile (address_of items k) (size_of (what.Op op)) (IsInsn (insn_of items (pools_of items) k op)))
op_spelled items after b all names k op None h within e formed labelled has short =
    let small = small_opcode (blank op.insn) (spelling (blank op.insn)) refl formed.form in
    let none : has_offset (format_at op.insn.op) ≡ false = sym formed.label ∙ ap is_some labelled in
    λ j at. ap spelling (same_insn after (pools_of items) b j (address_of items k) (insn_of items (pools_of items) k op) none (offset_none items k op.label labelled) (ap (index_of (pools_of items)) (own_entry b items k op h.pools within e formed)))
op_spelled items after b all names k op (Some name) h within e formed labelled has short =
    let small = small_opcode (blank op.insn) (spelling (blank op.insn)) refl formed.form in
    let some : has_offset (format_at op.insn.op) ≡ true = sym formed.label ∙ ap is_some labelled in
    let i = insn_of items (pools_of items) k op in
    λ j at. ap spelling (insn_by i.op i.regs i.lit (offset_of after j (drafted_op b (address_of items k) i).label) i.off (index_of (pools_of items) (entry_in b (pool_at i.op) i.index)) i.index
    (branch_same items after b all names k op name h short within e labelled has some j at)
    (ap (index_of (pools_of items)) (own_entry b items k op h.pools within e formed)))

-- ---- the targets of switches

-- the addresses that these labels have are among those that are named
abbrev pub AreListed : List Item → List ℕ → List (List ℕ) → Type 0
AreListed items names [] = Unit {0}
AreListed items names (target ∷ targets) = (named.is_label_address names (label_address items target) ≡ true) × AreListed items names targets

pub are_listed : (items : List Item) (names : List ℕ) (base : ℕ) (targets : List (List ℕ)) → ((a : ℕ) → list_any (λ n. nat_eq n a) (map (jump base) (map (distance items base) targets)) ≡ true → named.is_label_address names a ≡ true) → AreListed items names targets
are_listed items names base [] h = tt
are_listed items names base (target ∷ targets) h =
    let to = label_address items target in
    let back : jump base (distance items base target) ≡ to = leads_back base to in
    let same : nat_eq to to ≡ true = grind (arith, nat_tests) in
    let first = h to (any_left (nat_eq (jump base (distance items base target)) to) _ (ap (λ n. nat_eq n to) back ∙ same)) in
    (first, are_listed items names base targets (λ a e. h a (any_right (nat_eq (jump base (distance items base target)) a) _ e)))

-- the distances of the labels of these distances are these
targets_same : (items after : List Item) (b : BodyValue) (all : List Piece) (names : List ℕ) (base : ℕ) (targets : List (List ℕ)) → Known items after b all names → too_long items ≡ None → list_all (has_label items) targets ≡ true → AreListed items names targets → map (distance after base) (labels_from base (map (distance items base) targets)) ≡ map (distance items base) targets
targets_same items after b all names base [] h short has listed = refl
targets_same items after b all names base (target ∷ targets) h short has listed =
    let to = label_address items target in
    let here = both (has_label items target) _ has in
    let back : jump base (distance items base target) ≡ to = leads_back base to in
    let leads = leads_to items after b all names target h short here.0 listed.0 in
    let first : distance after base (label_name (jump base (distance items base target))) ≡ distance items base target =
    ap (λ n. distance after base (label_name n)) back ∙ ap (λ n. pos n -ℤ pos base) leads in
    cc (first, targets_same items after b all names base targets h short here.1 listed.1)

-- the targets of a payload in the draft are those in the draft before it
pub record IsRebased (items after : List Item) (all : List Piece) (k : ℕ) : Type 0 where
  pub before : named.switch_address all (address_of items k) ≡ base_of items (address_of items k)
  pub after_it : base_of after (address_of items k) ≡ base_of items (address_of items k)

switch_same : (items after : List Item) (b : BodyValue) (all : List Piece) (names : List ℕ) (k j : ℕ) (targets : List (List ℕ)) → Known items after b all names → too_long items ≡ None → IsRebased items after all k → list_all (has_label items) targets ≡ true → ((a : ℕ) → list_any (λ n. nat_eq n a) (map (jump (named.switch_address all (address_of items k))) (targets_of items (address_of items k) targets)) ≡ true → named.is_label_address names a ≡ true) → address_of after j ≡ address_of items k → targets_of after (address_of after j) (labels_from (named.switch_address all (address_of items k)) (targets_of items (address_of items k) targets)) ≡ targets_of items (address_of items k) targets
switch_same items after b all names k j targets h short r has listed at =
    let address = address_of items k in
    let base = base_of items address in
    let ds = targets_of items address targets in
    let P : ℕ → Type 0 = λ n. (a : ℕ) → list_any (λ m. nat_eq m a) (map (jump n) ds) ≡ true → named.is_label_address names a ≡ true in
    ap (λ n. targets_of after n (labels_from (named.switch_address all address) ds)) at ∙
    (ap (λ n. map (distance after n) (labels_from (named.switch_address all address) ds)) r.after_it ∙
    (ap (λ n. map (distance after base) (labels_from n ds)) r.before ∙
    targets_same items after b all names base targets h short has (are_listed items names base targets (subst P r.before listed))))

-- ---- all items

-- what is known of the items and of the draft
pub record Laid (items after : List Item) (b : BodyValue) (all : List Piece) (names : List ℕ) : Type 0 where
  pub known : Known items after b all names
  pub formed : AreFormed items
  pub labelled : (k : ℕ) → k < length items → has_labels items (item_at items k).what ≡ true
  pub short : too_long items ≡ None
  pub rebased : (k : ℕ) → k < length items → is_payload (item_at items k).what ≡ true → IsRebased items after all k

payload_listed : (items after : List Item) (b : BodyValue) (all : List Piece) (names : List ℕ) (k : ℕ) (w : What) (p : Payload) → Laid items after b all names → k < length items → (item_at items k).what ≡ w → tiles_at items (pools_of items) k w ≡ tile (address_of items k) (size_of w) (IsPayload p) ∷ [] → (a : ℕ) → list_any (λ n. nat_eq n a) (named.named_by_payload (named.switch_address all (address_of items k)) p) ≡ true → named.is_label_address names a ≡ true
payload_listed items after b all names k w p l within e tiles a h =
    let t = tile (address_of items k) (size_of w) (IsPayload p) in
    tile_listed items after b all names a t l.known h (mem_to items (pools_of items) k (length items) t within (ap (tiles_at items (pools_of items) k) e ∙ tiles))

-- a tile that is spelled as it was, by a tile that it is
same_tile : (after : List Item) (pools : Pools) (b : BodyValue) (all : List Piece) (s t : Tile) → s ≡ t → IsSpelledAs after pools b all s → IsSpelledAs after pools b all t
same_tile after pools b all s t same h = let P : Tile → Type 0 = λ x. IsSpelledAs after pools b all x in subst P same h

own_spelled : (items after : List Item) (b : BodyValue) (all : List Piece) (names : List ℕ) (k : ℕ) (w : What) (t : Tile) → Laid items after b all names → k < length items → (item_at items k).what ≡ w → IsFormed w → has_labels items w ≡ true → Mem t (tiles_at items (pools_of items) k w) → IsSpelledAs after (pools_of items) b all t
own_spelled items after b all names k (what.Label name) t l within e formed has h = absurd h
own_spelled items after b all names k (what.Op op) t l within e formed has (inl own) =
    same_tile after (pools_of items) b all _ t own (op_spelled items after b all names k op op.label l.known within e formed refl has l.short)
own_spelled items after b all names k (what.Op op) t l within e formed has (inr h) = absurd h
own_spelled items after b all names k (what.Packed first targets) t l within e formed has (inl own) =
    let same = λ (j : ℕ) (at : address_of after j ≡ address_of items k).
    switch_same items after b all names k j targets l.known l.short (l.rebased k within (ap is_payload e)) has (payload_listed items after b all names k _ _ l within e refl) at in
    same_tile after (pools_of items) b all _ t own (λ j at. ap (λ ts. payload_spelling (payload.Packed first ts)) (same j at))
own_spelled items after b all names k (what.Packed first targets) t l within e formed has (inr h) = absurd h
own_spelled items after b all names k (what.Sparse keys targets) t l within e formed has (inl own) =
    let same = λ (j : ℕ) (at : address_of after j ≡ address_of items k).
    switch_same items after b all names k j targets l.known l.short (l.rebased k within (ap is_payload e)) has (payload_listed items after b all names k _ _ l within e refl) at in
    same_tile after (pools_of items) b all _ t own (λ j at. ap (λ ts. payload_spelling (payload.Sparse keys ts)) (same j at))
own_spelled items after b all names k (what.Sparse keys targets) t l within e formed has (inr h) = absurd h
own_spelled items after b all names k (what.Data width bytes) t l within e formed has (inl own) = same_tile after (pools_of items) b all _ t own (λ j at. refl)
own_spelled items after b all names k (what.Data width bytes) t l within e formed has (inr h) = absurd h

-- each tile is spelled as it was
pub tiles_spelled : (items after : List Item) (b : BodyValue) (all : List Piece) (names : List ℕ) → Laid items after b all names → (t : Tile) → Mem t (tiles_of items (pools_of items) (length items)) → IsSpelledAs after (pools_of items) b all t
tiles_spelled items after b all names l t mem = at (of_item items (pools_of items) (length items) t (omega arith) mem)
  where
    at : (t.item ≡ nop) ⊎ OfItem items (pools_of items) t → IsSpelledAs after (pools_of items) b all t
    at (inl e) = nop_spelled after (pools_of items) b all t e
    at (inr o) = own_spelled items after b all names o.place (item_at items o.place).what t l o.within refl (l.formed o.place no_item o.within) (l.labelled o.place o.within) o.own
