-- The items of the draft that is made of a laid-out body have their forms, and their registers and offsets fit.
use Rattle.std.proofs.Common.{◌≡◌, ℕ, ◌<◌, Bool, true, false, not, inl, inr, List, [], length, get_or, map, Option, Some, None, is_some, IsTrue, if◌then◌else◌, refl, ap, sym, ◌∙◌, subst}
use Rattle.std.specs.Prelude.{option_map}
use Rattle.std.proofs.lemmas.List.{length-map}
use Rattle.std.proofs.lemmas.Option.{slice_get-get_or}
use Rattle.dv_defs.specs.declared.code.Payload.{Payload}
use Rattle.dv_defs.specs.declared.code.Payload.TheVariants as payload
use Rattle.dv_defs.specs.Families.{pool_at}
use Rattle.dv_defs.specs.Formats.{format_at, has_offset, offset_bits}
use Rattle.dv_defs.specs.Numbers.{jump}
use Rattle.dv_defs.specs.Spelling.{plain, few, spelling, insn_eq, fits_signed}
use Rattle.dv_draft.specs.declared.draft.Item.{Item}
use Rattle.dv_draft.specs.declared.draft.Draftop.{Draftop}
use Rattle.dv_draft.specs.declared.draft.PoolRef.{PoolRef}
use Rattle.dv_draft.specs.declared.draft.What.{What}
use Rattle.dv_draft.specs.declared.draft.What.TheVariants as what
use Rattle.dv_draft.specs.Draft.{DraftValue, AreFormed, IsFormed, IsOp, is_entry, kind_of_entry, blank}
use Rattle.dv_asm.specs.Items.{item_at, no_item, is_label}
use Rattle.dv_asm.specs.Places.{address_of, distance}
use Rattle.dv_asm.specs.Refusals.{is_over_registers, register_range, register_range_at, offset_fits, is_over_offset, offset_range, offset_range_at, item_refusal, has_label_if_any, has_labels, refused, repeated, too_long}
use Rattle.dv_draft.specs.Pools.{pools_of}
use Rattle.dv_asm.specs.Layout.{insn_of, offset_of, base_of, layout}
use Rattle.dv_asm.proofs.FirstLemmas.{first_line_none, not_when}
use Rattle.dv_defs.specs.declared.faults.LineKind.TheVariants as kind
use Rattle.dv_print.specs.Numbers.{label_name}
use Rattle.dv_print.specs.Named as named
use Rattle.dv_print.specs.Named.{target_of}
use Rattle.dv_print.specs.Laws.{HasNumbers, HaveNumbers}
use Rattle.dv_print.specs.Drafting.{entry_in, drafted_op, payload_item}
use Rattle.dv_print.proofs.Truth.{not_false, none_of, refused_none, no_line, when_not}
use Rattle.dv_print.proofs.Pools.KeptEntries.{own_entry, has_pools, small_opcode}
use Rattle.dv_print.proofs.Units.LaidOut.{are_short}
use Rattle.dv_print.proofs.Again.LaidDraft.{IsLaidOut, after_of, pieces, all_named, known, items_labelled}
use Rattle.dv_print.proofs.Again.Origins.{Origin, FromOp, HasContent, origin}
use Rattle.dv_print.proofs.Places.PieceItems.{labels_length}
use Rattle.dv_print.proofs.Units.SpelledAgain.{branch_same}
use Rattle.dv_print.proofs.Units.Straight.{no_label_by}

-- ---- forms

label_formed : (w : What) → is_label w ≡ true → IsFormed w
label_formed (what.Label name) e = tt
label_formed (what.Op op) e = absurd (cc)
label_formed (what.Packed first names) e = absurd (cc)
label_formed (what.Sparse keys names) e = absurd (cc)
label_formed (what.Data width bytes) e = absurd (cc)

some_if : (c : Bool) (a : ℕ) → is_some (option_map label_name (if c then Some a else None)) ≡ c
some_if true a = refl
some_if false a = refl

op_formed : (d : DraftValue) (p : ℕ) (op : Draftop) → p < length d.items → (item_at d.items p).what ≡ what.Op op → IsOp op → IsOp (drafted_op (layout d) (address_of d.items p) (insn_of d.items (pools_of d.items) p op))
op_formed d p op within e f =
    let i = insn_of d.items (pools_of d.items) p op in
    let small = small_opcode (blank op.insn) (spelling (blank op.insn)) refl f.form in
    let entry : entry_in (layout d) (pool_at i.op) i.index ≡ op.pool = own_entry (layout d) d.items p op (has_pools d) within e f in
    let P : PoolRef → Type 0 = λ r. is_entry r ≡ true → kind_of_entry r ≡ pool_at op.insn.op in
    record {
      form = f.form;
      registers = f.registers;
      label = some_if (has_offset (format_at i.op)) (jump (address_of d.items p) i.off);
      offset = λ none. refl;
      entry = ap is_entry entry ∙ f.entry;
      kind = subst P (sym entry) f.kind;
      index = λ none. refl;
    }

nop_formed : (d : DraftValue) (at : ℕ) → IsOp (drafted_op (layout d) at (plain 0 (few [])))
unfolding format_at pool_at insn_eq
nop_formed d at = record {
  form = refl;
  registers = refl;
  label = refl;
  offset = λ none. refl;
  entry = refl;
  kind = λ some. absurd (cc);
  index = λ none. refl;
}

payload_formed : (d : DraftValue) (p base : ℕ) (w : What) (x : Payload) → HasContent d p w x → IsFormed w → IsFormed (payload_item base x)
payload_formed d p base (what.Label name) x e formed = absurd e
payload_formed d p base (what.Op op) x e formed = absurd e
payload_formed d p base (what.Packed first names) x e formed = let P : Payload → Type 0 = λ y. IsFormed (payload_item base y) in subst P e tt
payload_formed d p base (what.Sparse keys names) x e formed =
    let P : Payload → Type 0 = λ y. IsFormed (payload_item base y) in
    let counted : length (map (distance d.items (base_of d.items (address_of d.items p))) names) ≡ length names = simp length-map in
    subst P e (labels_length base (map (distance d.items (base_of d.items (address_of d.items p))) names) ∙ (counted ∙ formed))
payload_formed d p base (what.Data width bytes) x e formed = let P : Payload → Type 0 = λ y. IsFormed (payload_item base y) in subst P e formed

-- each item of the draft has its form
item_formed : (d : DraftValue) → IsLaidOut d → (k : ℕ) → k < length (after_of d) → IsFormed (item_at (after_of d) k).what
item_formed d l k within = at (origin d l k within)
  where
    P : What → Type 0
    P w = IsFormed w

    at : Origin d k → IsFormed (item_at (after_of d) k).what
    at (inl label) = label_formed (item_at (after_of d) k).what label
    at (inr (inl f)) = subst P (sym f.is) (nop_formed d (address_of (after_of d) k))
    at (inr (inr (inl f))) = subst P (sym f.is) (op_formed d f.place f.op f.within f.own (subst P f.own (l.formed f.place no_item f.within)))
    at (inr (inr (inr f))) = subst P (sym f.is) (payload_formed d f.place (named.switch_address (pieces d) (address_of d.items f.place)) (item_at d.items f.place).what f.payload f.own (l.formed f.place no_item f.within))

label_numbered : (w : What) → is_label w ≡ true → HasNumbers w
label_numbered (what.Label name) e = tt
label_numbered (what.Op op) e = absurd (cc)
label_numbered (what.Packed first names) e = absurd (cc)
label_numbered (what.Sparse keys names) e = absurd (cc)
label_numbered (what.Data width bytes) e = absurd (cc)

payload_numbered : (d : DraftValue) (p base : ℕ) (w : What) (x : Payload) → HasContent d p w x → HasNumbers w → HasNumbers (payload_item base x)
payload_numbered d p base (what.Label name) x e n = absurd e
payload_numbered d p base (what.Op op) x e n = absurd e
payload_numbered d p base (what.Packed first names) x e n = let P : Payload → Type 0 = λ y. HasNumbers (payload_item base y) in subst P e n
payload_numbered d p base (what.Sparse keys names) x e n = let P : Payload → Type 0 = λ y. HasNumbers (payload_item base y) in subst P e n
payload_numbered d p base (what.Data width bytes) x e n = let P : Payload → Type 0 = λ y. HasNumbers (payload_item base y) in subst P e n

-- the numbers of each item of the draft are those of their types
item_numbered : (d : DraftValue) → IsLaidOut d → (k : ℕ) → k < length (after_of d) → HasNumbers (item_at (after_of d) k).what
item_numbered d l k within = at (origin d l k within)
  where
    N : What → Type 0
    N w = HasNumbers w

    at : Origin d k → HasNumbers (item_at (after_of d) k).what
    at (inl label) = label_numbered (item_at (after_of d) k).what label
    at (inr (inl f)) = subst N (sym f.is) tt
    at (inr (inr (inl f))) = subst N (sym f.is) tt
    at (inr (inr (inr f))) = subst N (sym f.is) (payload_numbered d f.place (named.switch_address (pieces d) (address_of d.items f.place)) (item_at d.items f.place).what f.payload f.own (l.numbers f.place no_item f.within))

some_same : (x y : Item) → Some x ≡ Some y → x ≡ y
some_same x y e = cc

pub formed_again : (d : DraftValue) → IsLaidOut d → AreFormed (after_of d)
formed_again d l k other within =
    let same : item_at (after_of d) k ≡ get_or (after_of d) k other = some_same _ _ (sym (slice_get-get_or (after_of d) k no_item within) ∙ slice_get-get_or (after_of d) k other within) in
    let P : Item → Type 0 = λ x. IsFormed x.what in
    subst P same (item_formed d l k within)

pub numbers_again : (d : DraftValue) → IsLaidOut d → HaveNumbers (after_of d)
numbers_again d l k other within =
    let same : item_at (after_of d) k ≡ get_or (after_of d) k other = some_same _ _ (sym (slice_get-get_or (after_of d) k no_item within) ∙ slice_get-get_or (after_of d) k other within) in
    let P : Item → Type 0 = λ x. HasNumbers x.what in
    subst P same (item_numbered d l k within)

-- ---- registers

none_over : (w : What) → is_label w ≡ true → is_over_registers w ≡ false
none_over (what.Label name) e = refl
none_over (what.Op op) e = absurd (cc)
none_over (what.Packed first names) e = absurd (cc)
none_over (what.Sparse keys names) e = absurd (cc)
none_over (what.Data width bytes) e = absurd (cc)

payload_not_over : (base : ℕ) (x : Payload) → is_over_registers (payload_item base x) ≡ false
payload_not_over base (payload.Packed first targets) = refl
payload_not_over base (payload.Sparse keys targets) = refl
payload_not_over base (payload.Data width bytes) = refl

nop_not_over : (d : DraftValue) (at : ℕ) → is_over_registers (what.Op (drafted_op (layout d) at (plain 0 (few [])))) ≡ false
unfolding format_at insn_eq
nop_not_over d at = refl

registers_refused : (items : List Item) → item_refusal items ≡ None → register_range items ≡ None
registers_refused items none =
    refused_none kind.RegisterRange (register_range items)
    (none_of (refused kind.RegisterRange (register_range items)) _ (none_of (refused kind.Repeated (repeated items)) _ none).1).0

pub registers_again : (d : DraftValue) → IsLaidOut d → register_range (after_of d) ≡ None
registers_again d l = no_line (register_range_at (after_of d)) (length (after_of d)) each
  where
    each : (k : ℕ) → k < length (after_of d) → register_range_at (after_of d) k ≡ None
    each k within = when_not _ (item_at (after_of d) k).line (at (origin d l k within))
      where
        at : Origin d k → is_over_registers (item_at (after_of d) k).what ≡ false
        at (inl label) = none_over (item_at (after_of d) k).what label
        at (inr (inl f)) = ap is_over_registers f.is ∙ nop_not_over d (address_of (after_of d) k)
        at (inr (inr (inl f))) =
            let before = not_when (is_over_registers (item_at d.items f.place).what) (item_at d.items f.place).line (first_line_none (register_range_at d.items) (length d.items) f.place (registers_refused d.items l.none) f.within) in
            ap is_over_registers f.is ∙ (sym (ap is_over_registers f.own) ∙ before)
        at (inr (inr (inr f))) = ap is_over_registers f.is ∙ payload_not_over (named.switch_address (pieces d) (address_of d.items f.place)) f.payload

-- ---- offsets

never_over : (items : List Item) (k : ℕ) (w : What) → is_label w ≡ true → is_over_offset items k w ≡ false
never_over items k (what.Label name) e = refl
never_over items k (what.Op op) e = absurd (cc)
never_over items k (what.Packed first names) e = absurd (cc)
never_over items k (what.Sparse keys names) e = absurd (cc)
never_over items k (what.Data width bytes) e = absurd (cc)

payload_never_over : (items : List Item) (k base : ℕ) (x : Payload) → is_over_offset items k (payload_item base x) ≡ false
payload_never_over items k base (payload.Packed first targets) = refl
payload_never_over items k base (payload.Sparse keys targets) = refl
payload_never_over items k base (payload.Data width bytes) = refl

-- an offset fits that is the same as one that fits
same_fits : (before after : List Item) (p k op : ℕ) (own label : Option (List ℕ)) → (own ≡ None → label ≡ None) → ((name : List ℕ) → own ≡ Some name → offset_of after k label ≡ offset_of before p own) → offset_fits before p op own ≡ true → offset_fits after k op label ≡ true
same_fits before after p k op own None none same e = refl
same_fits before after p k op None (Some name) none same e = absurd (let no = none refl in cc (no))
same_fits before after p k op (Some own) (Some name) none same e = ap (fits_signed (offset_bits op)) (same own refl) ∙ e

offsets_refused : (items : List Item) → item_refusal items ≡ None → offset_range items ≡ None
offsets_refused items none =
    refused_none kind.OffsetRange (offset_range items)
    (none_of (refused kind.OffsetRange (offset_range items)) (refused kind.TooLong (too_long items))
    (none_of (refused kind.RegisterRange (register_range items)) _ (none_of (refused kind.Repeated (repeated items)) _ none).1).1).0

op_not_over : (d : DraftValue) → IsLaidOut d → (k : ℕ) → FromOp d k → is_over_offset (after_of d) k (item_at (after_of d) k).what ≡ false
op_not_over d l k f =
    let i = insn_of d.items (pools_of d.items) f.place f.op in
    let Q : What → Type 0 = λ w. IsFormed w in
    let formed : IsOp f.op = subst Q f.own (l.formed f.place no_item f.within) in
    let small = small_opcode (blank f.op.insn) (spelling (blank f.op.insn)) refl formed.form in
    let offsets : has_offset (format_at f.op.insn.op) ≡ is_some f.op.label = sym formed.label in
    let has : has_label_if_any d.items f.op.label ≡ true = sym (ap (has_labels d.items) f.own) ∙ items_labelled d.items d.catches l.labels f.place f.within in
    let none : f.op.label ≡ None → (drafted_op (layout d) (address_of d.items f.place) i).label ≡ None = λ e. no_label_by (has_offset (format_at i.op)) (address_of d.items f.place) i.off (offsets ∙ ap is_some e) in
    let same : (name : List ℕ) → f.op.label ≡ Some name → offset_of (after_of d) k (drafted_op (layout d) (address_of d.items f.place) i).label ≡ offset_of d.items f.place f.op.label =
    λ name e. branch_same d.items (after_of d) (layout d) (pieces d) (all_named d) f.place f.op name (known d l) (are_short d.items l.none) f.within f.own e (sym (ap (has_label_if_any d.items) e) ∙ has) (offsets ∙ ap is_some e) k f.at in
    let before = not_when (is_over_offset d.items f.place (item_at d.items f.place).what) (item_at d.items f.place).line (first_line_none (offset_range_at d.items) (length d.items) f.place (offsets_refused d.items l.none) f.within) in
    let fits = not_false (offset_fits d.items f.place f.op.insn.op f.op.label) (sym (ap (is_over_offset d.items f.place) f.own) ∙ before) in
    ap (is_over_offset (after_of d) k) f.is ∙ ap not (same_fits d.items (after_of d) f.place k f.op.insn.op f.op.label (drafted_op (layout d) (address_of d.items f.place) i).label none same fits)

nop_never_over : (d : DraftValue) (k at : ℕ) → is_over_offset (after_of d) k (what.Op (drafted_op (layout d) at (plain 0 (few [])))) ≡ false
unfolding format_at
nop_never_over d k at = refl

pub offsets_again : (d : DraftValue) → IsLaidOut d → offset_range (after_of d) ≡ None
offsets_again d l = no_line (offset_range_at (after_of d)) (length (after_of d)) each
  where
    each : (k : ℕ) → k < length (after_of d) → offset_range_at (after_of d) k ≡ None
    each k within = when_not _ (item_at (after_of d) k).line (at (origin d l k within))
      where
        at : Origin d k → is_over_offset (after_of d) k (item_at (after_of d) k).what ≡ false
        at (inl label) = never_over (after_of d) k (item_at (after_of d) k).what label
        at (inr (inl f)) = ap (is_over_offset (after_of d) k) f.is ∙ nop_never_over d k (address_of (after_of d) k)
        at (inr (inr (inl f))) = op_not_over d l k f
        at (inr (inr (inr f))) = ap (is_over_offset (after_of d) k) f.is ∙ payload_never_over (after_of d) k (named.switch_address (pieces d) (address_of d.items f.place)) f.payload
