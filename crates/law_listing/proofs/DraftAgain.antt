-- The draft that is made of the body of a listed draft is listed, and what is read of its text is laid out as that body.
use Rattle.std.proofs.Common.{◌≡◌, ℕ, ◌<◌, ◌≤◌, ◌^◌, Bool, true, false, List, [], ◌∷◌, ◌++◌, length, map, get_or, position, filter, cond, Option, Some, None, All, inl, inr, refl, sym, ap, ◌∙◌, subst, lit<}
use Rattle.std.specs.Prelude.{ℤ, option_map}
use Rattle.std.specs.Option.{option_and_then}
use Rattle.std.specs.List.{flat_map, slice_get}
use Rattle.std.proofs.lemmas.Bool.{and_from, lt-ltb}
use Rattle.std.proofs.lemmas.List.Elements.{All-nil, All-cons, All-head, All-tail, All-append, All-map, All-weaker, All-replicate, All-from_get_or}
use Rattle.std.proofs.lemmas.List.Quantifiers.{position-Some}
use Rattle.std.proofs.lemmas.Option.{slice_get-get_or}
use Rattle.dv_defs.specs.declared.code.Insn.{Insn}
use Rattle.dv_defs.specs.declared.code.Handler.{Handler}
use Rattle.dv_defs.specs.declared.code.Payload.{Payload}
use Rattle.dv_defs.specs.declared.names.Ty.{Ty}
use Rattle.dv_defs.specs.Body.{BodyValue}
use Rattle.dv_defs.specs.Families.{pool_at}
use Rattle.dv_defs.specs.Numbers.{jump}
use Rattle.dv_defs.specs.Spelling.{all_fit, plain, few, insn_eq}
use Rattle.dv_defs.specs.Types.{ty_eq}
use Rattle.dv_draft.specs.declared.draft.Item.{Item}
use Rattle.dv_draft.specs.declared.draft.Catch.{Catch}
use Rattle.dv_draft.specs.declared.draft.PoolRef.{PoolRef}
use Rattle.dv_draft.specs.declared.draft.What.{What}
use Rattle.dv_draft.specs.declared.draft.What.TheVariants as what
use Rattle.dv_asm.specs.declared.tries.TryRange.{TryRange}
use Rattle.dv_draft.specs.Draft.{DraftValue, IsFormed, AreFormed, IsOp}
use Rattle.dv_asm.specs.Items.{item_at, no_item, is_label}
use Rattle.dv_asm.specs.Places.{address_of}
use Rattle.dv_asm.specs.Refusals.{range_of, is_same, refusal}
use Rattle.dv_draft.specs.Pools.{pools_of}
use Rattle.dv_asm.specs.Layout.{insn_of, types_of, sorted_ranges, handler_of, catches_of, entry_of, tries_of, body_of, layout}
use Rattle.dv_print.specs.Numbers.{label_name}
use Rattle.dv_print.specs.Named as named
use Rattle.dv_print.specs.Named.{target_of}
use Rattle.dv_print.specs.Drafting.{entry_in, drafted_op, labels_from, payload_item, catch_of, catches_of_try, draft_of}
use Rattle.dv_print.specs.Laws.{HasNumbers, HaveNumbers, IsNamedBy, IsAssembled}
use Rattle.dv_print.proofs.Pools.Entries.{types_tell}
use Rattle.dv_print.proofs.Pools.KeptEntries.{own_entry, has_pools}
use Rattle.dv_print.proofs.Units.KeptAddresses.{draft_keeps_addresses}
use Rattle.dv_print.proofs.Again.LaidDraft.{IsLaidOut, laid_out, after_of, pieces}
use Rattle.dv_print.proofs.Again.Origins.{Origin, HasContent, origin}
use Rattle.dv_print.proofs.Again.KeptDraft.{draft_is_kept}
use Rattle.dv_print.proofs.Again.AssembledAgain.{draft_is_assembled}
use Rattle.dv_coderead.specs.Laws.{TypesAreRead}
use Rattle.law_listing.specs.Listable.{IsNameText, IsEntryText, IsLabelText, AreRegisters, IsListedOp}
use Rattle.law_listing.specs.DraftListable.{AreNameTexts, IsListedWhat, IsListedItem, IsKindText, IsListedCatch, IsListedDraft}
use Rattle.law_listing.specs.OperandPieces.{InstructionsAreRead}
use Rattle.law_listing.specs.DraftLaws.{SameButLines, IsLaidOutAgain}
use Rattle.law_listing.proofs.Words.{label_name_text}
use Rattle.law_listing.proofs.DraftElements.{IsByte}
use Rattle.law_listing.proofs.DraftTold.{draft_read}
use Rattle.law_listing.proofs.Unlined.{layout_has_no_lines}
use Rattle.law_listing.proofs.Accepted.{refusal_has_no_lines}
use Rattle.law_listing.proofs.SpelledUnits.{layout_units}

-- ---- a listed draft has its form

what_formed : (w : What) → IsListedWhat w → IsFormed w
what_formed (what.Label name) is = tt
what_formed (what.Op op) is = is.formed
what_formed (what.Packed first names) is = tt
what_formed (what.Sparse keys names) is = is.1
what_formed (what.Data width bytes) is = (is.0, is.1)

bytes_fit : (bytes : List ℕ) → All IsByte bytes → all_fit 8 bytes ≡ true
bytes_fit [] small = refl
bytes_fit (b ∷ bytes) small = and_from _ _ (lt-ltb b 256 (All-head IsByte b bytes small)) (bytes_fit bytes (All-tail IsByte b bytes small))

what_numbered : (w : What) → IsListedWhat w → HasNumbers w
what_numbered (what.Label name) is = tt
what_numbered (what.Op op) is = tt
what_numbered (what.Packed first names) is = is.0
what_numbered (what.Sparse keys names) is = is.0
what_numbered (what.Data width bytes) is = bytes_fit bytes is.2

pub listed_formed : (items : List Item) → All IsListedItem items → AreFormed items
listed_formed items all = All-weaker IsListedItem (λ (item : Item). IsFormed item.what) (λ item is. what_formed item.what is) items all

pub listed_numbers : (items : List Item) → All IsListedItem items → HaveNumbers items
listed_numbers items all = All-weaker IsListedItem (λ (item : Item). HasNumbers item.what) (λ item is. what_numbered item.what is) items all

-- ---- items

names_listed : (base : ℕ) (targets : List ℤ) → AreNameTexts (labels_from base targets)
names_listed base targets = All-map IsNameText label_name (map (jump base) targets) (λ k d within. label_name_text _)

payload_listed : (d : DraftValue) (p base : ℕ) (w : What) (x : Payload) → HasContent d p w x → IsListedWhat w → IsFormed (payload_item base x) → IsListedWhat (payload_item base x)
payload_listed d p base (what.Label name) x e is formed = absurd e
payload_listed d p base (what.Op op) x e is formed = absurd e
payload_listed d p base (what.Packed first names) x e is formed =
    let P : Payload → Type 0 = λ y. IsFormed (payload_item base y) → IsListedWhat (payload_item base y) in
    subst P e (λ f. (is.0, names_listed base _)) formed
payload_listed d p base (what.Sparse keys names) x e is formed =
    let P : Payload → Type 0 = λ y. IsFormed (payload_item base y) → IsListedWhat (payload_item base y) in
    subst P e (λ f. (is.0, f, names_listed base _)) formed
payload_listed d p base (what.Data width bytes) x e is formed =
    let P : Payload → Type 0 = λ y. IsFormed (payload_item base y) → IsListedWhat (payload_item base y) in
    subst P e (λ f. is) formed

label_listed : (o : Option ℕ) → IsLabelText (option_map label_name o)
label_listed None = tt
label_listed (Some a) = label_name_text a

op_listed : (b : BodyValue) (at : ℕ) (i : Insn) → AreRegisters i.regs → IsOp (drafted_op b at i) → IsEntryText (entry_in b (pool_at i.op) i.index) → IsListedOp (drafted_op b at i)
op_listed b at i regs formed entry = record {
  formed = formed;
  registers = regs;
  label = label_listed (target_of at i);
  entry = entry;
  offset = refl;
  index = refl;
}

no_registers : AreRegisters (few [])
no_registers = record {
  places = refl;
  small = All-replicate (λ n. n < 2 ^ 16) 5 0 (lit< tt);
  last = λ range. absurd (cc);
}

nop_entry : (b : BodyValue) → IsEntryText (entry_in b (pool_at 0) 0)
unfolding pool_at insn_eq
nop_entry b = tt

named_listed : (w : What) (address : ℕ) → is_label w ≡ true → IsNamedBy w address → IsListedWhat w
named_listed (what.Label name) address label is = subst IsNameText (sym is) (label_name_text address)
named_listed (what.Op op) address label is = absurd (cc)
named_listed (what.Packed first names) address label is = absurd (cc)
named_listed (what.Sparse keys names) address label is = absurd (cc)
named_listed (what.Data width bytes) address label is = absurd (cc)

module _ (d : DraftValue) (l : IsLaidOut d) (listed : All IsListedItem d.items) (formed : AreFormed (after_of d)) where
  item_listed : (k : ℕ) → k < length (after_of d) → IsListedWhat (item_at (after_of d) k).what
  item_listed k within = at (origin d l k within)
    where
      L : What → Type 0
      L w = IsListedWhat w

      F : What → Type 0
      F w = IsFormed w

      E : PoolRef → Type 0
      E r = IsEntryText r

      here : IsFormed (item_at (after_of d) k).what
      here = formed k no_item within

      at : Origin d k → IsListedWhat (item_at (after_of d) k).what
      at (inl label) =
          named_listed (item_at (after_of d) k).what (address_of (after_of d) k) label
          ((draft_keeps_addresses d l.formed l.numbers l.none l.fit).labels k within)
      at (inr (inl f)) =
          subst L (sym f.is) (op_listed (layout d) (address_of (after_of d) k) (plain 0 (few [])) no_registers (subst F f.is here) (nop_entry (layout d)))
      at (inr (inr (inl f))) =
          let own : IsListedOp f.op = subst L f.own (listed f.place no_item f.within) in
          let i = insn_of d.items (pools_of d.items) f.place f.op in
          let entry = own_entry (layout d) d.items f.place f.op (has_pools d) f.within f.own own.formed in
          subst L (sym f.is) (op_listed (layout d) (address_of d.items f.place) i own.registers (subst F f.is here) (subst E (sym entry) own.entry))
      at (inr (inr (inr f))) =
          subst L (sym f.is)
          (payload_listed d f.place (named.switch_address (pieces d) (address_of d.items f.place)) (item_at d.items f.place).what f.payload f.own
          (listed f.place no_item f.within) (subst F f.is here))

  items_listed : All IsListedItem (after_of d)
  items_listed = All-from_get_or IsListedItem (after_of d) no_item item_listed

-- ---- handlers

-- what stands in the pool of types for the type of a handler is that type
place_kind : (types : List Ty) (t : Ty) (o : Option ℕ) → position (ty_eq t) types ≡ o → IsKindText (Some t) → IsKindText (option_and_then (slice_get types) o)
place_kind types t None e is = tt
place_kind types t (Some k) e is =
    let found = position-Some (ty_eq t) types k t e in
    let same : t ≡ get_or types k t = types_tell.same t (get_or types k t) found.1 in
    let P : Option Ty → Type 0 = λ o. IsKindText o in
    subst P (ap (λ (u : Ty). Some u) same ∙ sym (slice_get-get_or types k t found.0)) is

kind_again : (types : List Ty) (kind : Option Ty) → IsKindText kind → IsKindText (option_and_then (slice_get types) (option_and_then (λ t. position (ty_eq t) types) kind))
kind_again types None is = tt
kind_again types (Some t) is = place_kind types t (position (ty_eq t) types) refl is

filtered_all : {X : Type 0} (P : X → Type 0) (test : X → Bool) (xs : List X) → All P xs → All P (filter test xs)
filtered_all P test [] all = all
filtered_all P test (x ∷ xs) all = kept (test x) (filtered_all P test xs (All-tail P x xs all))
  where
    kept : (b : Bool) → All P (filter test xs) → All P (cond b (x ∷ filter test xs) (filter test xs))
    kept true rest = All-cons P x (filter test xs) (All-head P x xs all) rest
    kept false rest = rest

abbrev HasKind : Catch → Type 0
HasKind c = IsKindText c.kind

entry_kinds : (items : List Item) (types : List Ty) (catches : List Catch) (r : TryRange) → All HasKind catches → All IsListedCatch (catches_of_try types (entry_of items catches types r))
entry_kinds items types catches r all =
    let t = entry_of items catches types r in
    All-map IsListedCatch (catch_of types t) t.handlers
    (All-map (λ (h : Handler). IsListedCatch (catch_of types t h)) (handler_of items types) (catches_of items catches r)
    (All-weaker HasKind (λ (c : Catch). IsListedCatch (catch_of types t (handler_of items types c))) (λ c is. record {
      kind = kind_again types c.kind is;
      from = label_name_text t.start;
      to = label_name_text t.end;
      at = label_name_text (handler_of items types c).at;
    }) (catches_of items catches r) (filtered_all HasKind (λ (c : Catch). is_same (range_of items c) r) catches all)))

all_flat : {X Y : Type 0} (P : Y → Type 0) (f : X → List Y) (xs : List X) → ((x : X) → All P (f x)) → All P (flat_map f xs)
all_flat P f [] each = All-nil P
all_flat P f (x ∷ xs) each = All-append P (f x) (flat_map f xs) (each x) (all_flat P f xs each)

flat_over : {X Y Z : Type 0} (f : Y → List Z) (g : X → Y) (xs : List X) → flat_map f (map g xs) ≡ flat_map (λ x. f (g x)) xs
flat_over f g [] = refl
flat_over {Z = Z} f g (x ∷ xs) = ap (λ (zs : List Z). f (g x) ++ zs) (flat_over f g xs)

tries_kinds : (items : List Item) (types : List Ty) (catches : List Catch) (rs : List TryRange) → All HasKind catches → All IsListedCatch (flat_map (catches_of_try types) (map (entry_of items catches types) rs))
tries_kinds items types catches rs all =
    let P : List Catch → Type 0 = λ cs. All IsListedCatch cs in
    subst P (sym (flat_over (catches_of_try types) (entry_of items catches types) rs))
    (all_flat IsListedCatch (λ r. catches_of_try types (entry_of items catches types r)) rs (λ r. entry_kinds items types catches r all))

catches_are : (d : DraftValue) → (draft_of (layout d)).catches ≡ flat_map (catches_of_try (types_of d.items d.catches)) (tries_of d.items d.catches (types_of d.items d.catches))
unfolding draft_of body_of
catches_are d = refl

catches_listed : (d : DraftValue) → All IsListedCatch d.catches → All IsListedCatch (draft_of (layout d)).catches
catches_listed d all =
    let P : List Catch → Type 0 = λ cs. All IsListedCatch cs in
    subst P (sym (catches_are d))
    (tries_kinds d.items (types_of d.items d.catches) d.catches (sorted_ranges d.items d.catches)
    (All-weaker IsListedCatch HasKind (λ c is. is.kind) d.catches all))

-- ---- the draft

registers_same : (d : DraftValue) → (draft_of (layout d)).registers ≡ d.registers
unfolding draft_of body_of
registers_same d = refl

pub listed_assembled : (d : DraftValue) → IsListedDraft d → refusal d ≡ None → IsAssembled (draft_of (layout d))
listed_assembled d is none = draft_is_assembled d (listed_formed d.items is.items) (listed_numbers d.items is.items) none (layout_units d)

pub listed_again : (d : DraftValue) → IsListedDraft d → refusal d ≡ None → IsListedDraft (draft_of (layout d))
listed_again d is none =
    let l = laid_out d (listed_formed d.items is.items) (listed_numbers d.items is.items) none (layout_units d) in
    record {
      registers = subst (λ (n : ℕ). n ≤ 256) (sym (registers_same d)) is.registers;
      items = items_listed d l is.items (listed_assembled d is none).formed;
      catches = catches_listed d is.catches;
    }

pub same_back : (d e : DraftValue) → SameButLines d e → SameButLines e d
same_back d e same = record { registers = sym same.registers; items = sym same.items; catches = sym same.catches }

pub laid_out_again : InstructionsAreRead → TypesAreRead → (d : DraftValue) → IsListedDraft d → refusal d ≡ None → (arguments past n : ℕ) → IsLaidOutAgain (layout d) arguments past n
laid_out_again ops types d is none arguments past n =
    let again = draft_of (layout d) in
    let r = draft_read ops types again (listed_again d is none) arguments past n in
    record {
      draft = r.draft;
      read = r.read;
      accepted = refusal_has_no_lines again r.draft (same_back r.draft again r.same) (listed_assembled d is none).accepted;
      same =
          layout_has_no_lines r.draft again r.same ∙
          draft_is_kept d (listed_formed d.items is.items) (listed_numbers d.items is.items) none (layout_units d);
    }
