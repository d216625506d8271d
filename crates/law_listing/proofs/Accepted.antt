-- A draft that isn't refused isn't refused either with other lines.
use Rattle.std.proofs.Common.{◌≡◌, ℕ, zero, suc, ◌+◌, ◌<◌, Bool, false, not, ◌&&◌, List, [], ◌∷◌, length, map, take, nat_eq, nat_le, nat_lt, Option, Some, None, is_some, refl, sym, ap, ◌∙◌, arith}
use Rattle.std.specs.List.{list_all, list_any}
use Rattle.std.specs.Option.{option_or, option_map}
use Rattle.std.proofs.lemmas.List.{length-map}
use Rattle.dv_defs.specs.declared.faults.LineKind.{LineKind}
use Rattle.dv_defs.specs.declared.faults.LineKind.TheVariants as kind
use Rattle.dv_defs.specs.Spelling.{fits_signed}
use Rattle.dv_defs.specs.Formats.{offset_bits}
use Rattle.dv_draft.specs.declared.draft.Item.{Item}
use Rattle.dv_draft.specs.declared.draft.Catch.{Catch}
use Rattle.dv_draft.specs.declared.draft.What.{What}
use Rattle.dv_draft.specs.declared.draft.What.TheVariants as what
use Rattle.dv_draft.specs.Draft.{DraftValue}
use Rattle.dv_asm.specs.First.{first_line, earlier, when, any_below}
use Rattle.dv_asm.specs.Items.{item_at, is_payload, label_of_switch, size_of}
use Rattle.dv_asm.specs.Places.{address_of, distance, address_named_by}
use Rattle.dv_asm.specs.Refusals.{is_place, is_second, label_twice, has_label, has_label_if_any, has_labels, catch_at, catch_has_labels, no_label, no_label_at, no_label_of_catch_at, is_payload_at, stands_payload, is_repeated, repeated, is_over_registers, register_range, offset_fits, is_over_offset, offset_range, passes, too_long, range_of, is_empty, try_range, overlaps, overlaps_earlier, try_overlap, refused, Refusal, label_refusal, item_refusal, range_refusal, refusal}
use Rattle.dv_asm.proofs.FirstLemmas.{first_line_none, not_when}
use Rattle.law_listing.specs.DraftLaws.{unlined_catch, SameButLines}
use Rattle.law_listing.proofs.Unlined.{unlined, unlined_all, unlined_draft, unlined_at, address_unlined, place_unlined, label_unlined, distance_unlined, switch_unlined, range_unlined, ranges_unlined, fun_ext, same_of}

-- ---- lines at which tests pass

no_line : (test : ℕ → Bool) (line_of : ℕ → ℕ) (n : ℕ) → ((k : ℕ) → k < n → test k ≡ false) → first_line (λ k. when (test k) (line_of k)) n ≡ None
no_line test line_of zero none = refl
no_line test line_of (suc n) none =
    let before = no_line test line_of n (λ k within. none k (omega arith)) in
    let here = none n (omega arith) in
    λ i. earlier (before i) (when (here i) (line_of n))

-- where a test passes nowhere, none passes that is the same
pub no_line_again : (test : ℕ → Bool) (line_of : ℕ → ℕ) (n : ℕ) (again : ℕ → Bool) (other : ℕ → ℕ) (m : ℕ) → test ≡ again → n ≡ m → first_line (λ k. when (test k) (line_of k)) n ≡ None → first_line (λ k. when (again k) (other k)) m ≡ None
no_line_again test line_of n again other m same count none =
    no_line again other m (λ k within.
    sym (ap (λ (t : ℕ → Bool). t k) same) ∙
    not_when (test k) (line_of k) (first_line_none (λ j. when (test j) (line_of j)) n k none (omega arith)))

-- ---- the tests, without lines

second_at : DraftValue → ℕ → Bool
second_at d k = is_second d.items k (item_at d.items k).what

second_unlined : (items : List Item) (k : ℕ) (w : What) → is_second (unlined_all items) k w ≡ is_second items k w
second_unlined items k (what.Label name) = ap (λ (p : Option ℕ). not (is_place k p)) (place_unlined items name)
second_unlined items k (what.Op op) = refl
second_unlined items k (what.Packed first targets) = refl
second_unlined items k (what.Sparse keys targets) = refl
second_unlined items k (what.Data width bytes) = refl

second_law : (d : DraftValue) → second_at (unlined_draft d) ≡ second_at d
unfolding second_at
second_law d = fun_ext (λ k. ap (is_second (unlined_all d.items) k) (unlined_at d.items k) ∙ second_unlined d.items k (item_at d.items k).what)

has_label_unlined : (items : List Item) (name : List ℕ) → has_label (unlined_all items) name ≡ has_label items name
has_label_unlined items name = ap (λ (p : Option ℕ). is_some p) (place_unlined items name)

has_any_unlined : (items : List Item) (label : Option (List ℕ)) → has_label_if_any (unlined_all items) label ≡ has_label_if_any items label
has_any_unlined items None = refl
has_any_unlined items (Some name) = has_label_unlined items name

all_labels_unlined : (items : List Item) (names : List (List ℕ)) → list_all (has_label (unlined_all items)) names ≡ list_all (has_label items) names
all_labels_unlined items names = ap (λ (f : List ℕ → Bool). list_all f names) (fun_ext (has_label_unlined items))

has_labels_unlined : (items : List Item) (w : What) → has_labels (unlined_all items) w ≡ has_labels items w
has_labels_unlined items (what.Label name) = refl
has_labels_unlined items (what.Op op) = has_any_unlined items op.label
has_labels_unlined items (what.Packed first targets) = all_labels_unlined items targets
has_labels_unlined items (what.Sparse keys targets) = all_labels_unlined items targets
has_labels_unlined items (what.Data width bytes) = refl

lacks_label_at : DraftValue → ℕ → Bool
lacks_label_at d k = not (has_labels d.items (item_at d.items k).what)

lacks_law : (d : DraftValue) → lacks_label_at (unlined_draft d) ≡ lacks_label_at d
unfolding lacks_label_at
lacks_law d = fun_ext (λ k. ap (λ (b : Bool). not b) (ap (has_labels (unlined_all d.items)) (unlined_at d.items k) ∙ has_labels_unlined d.items (item_at d.items k).what))

catch_unlined : (catches : List Catch) (k : ℕ) → catch_at (map unlined_catch catches) k ≡ unlined_catch (catch_at catches k)
catch_unlined [] k = refl
catch_unlined (c ∷ catches) zero = refl
catch_unlined (c ∷ catches) (suc k) = catch_unlined catches k

catch_labels_unlined : (items : List Item) (c : Catch) → catch_has_labels (unlined_all items) (unlined_catch c) ≡ catch_has_labels items c
catch_labels_unlined items c =
    let from = has_label_unlined items c.from in
    let to = has_label_unlined items c.to in
    let at = has_label_unlined items c.at in
    λ i. from i && (to i && at i)

catch_lacks_at : DraftValue → ℕ → Bool
catch_lacks_at d k = not (catch_has_labels d.items (catch_at d.catches k))

catch_lacks_law : (d : DraftValue) → catch_lacks_at (unlined_draft d) ≡ catch_lacks_at d
unfolding catch_lacks_at
catch_lacks_law d = fun_ext (λ k. ap (λ (b : Bool). not b) (ap (catch_has_labels (unlined_all d.items)) (catch_unlined d.catches k) ∙ catch_labels_unlined d.items (catch_at d.catches k)))

payload_at_unlined : (items : List Item) (address k : ℕ) → is_payload_at (unlined_all items) address k ≡ is_payload_at items address k
payload_at_unlined items address k =
    let here = unlined_at items k in
    let at = address_unlined items k in
    λ i. is_payload (here i) && nat_eq (at i) address

stands_unlined : (items : List Item) (address : ℕ) → stands_payload (unlined_all items) address ≡ stands_payload items address
stands_unlined items address =
    let tests = fun_ext (payload_at_unlined items address) in
    let count = length-map items unlined in
    λ i. any_below (tests i) (count i)

repeated_unlined : (items : List Item) (k : ℕ) (address : Option ℕ) → is_repeated (unlined_all items) k address ≡ is_repeated items k address
repeated_unlined items k None = refl
repeated_unlined items k (Some address) =
    let stands = stands_unlined items address in
    let switch = switch_unlined items address in
    λ i. stands i && not (is_place k (switch i))

named_at : (items : List Item) (k : ℕ) → address_named_by (unlined_all items) (item_at (unlined_all items) k) ≡ address_named_by items (item_at items k)
named_at items k =
    let here = unlined_at items k in
    let labels = fun_ext (label_unlined items) in
    λ i. option_map (labels i) (label_of_switch (here i))

repeated_test : DraftValue → ℕ → Bool
repeated_test d k = is_repeated d.items k (address_named_by d.items (item_at d.items k))

repeated_law : (d : DraftValue) → repeated_test (unlined_draft d) ≡ repeated_test d
unfolding repeated_test
repeated_law d = fun_ext (λ k. ap (is_repeated (unlined_all d.items) k) (named_at d.items k) ∙ repeated_unlined d.items k (address_named_by d.items (item_at d.items k)))

over_registers_at : DraftValue → ℕ → Bool
over_registers_at d k = is_over_registers (item_at d.items k).what

over_registers_law : (d : DraftValue) → over_registers_at (unlined_draft d) ≡ over_registers_at d
unfolding over_registers_at
over_registers_law d = fun_ext (λ k. ap is_over_registers (unlined_at d.items k))

offset_unlined : (items : List Item) (k op : ℕ) (label : Option (List ℕ)) → offset_fits (unlined_all items) k op label ≡ offset_fits items k op label
offset_unlined items k op None = refl
offset_unlined items k op (Some name) =
    ap (fits_signed (offset_bits op)) (ap (λ (n : ℕ). distance (unlined_all items) n name) (address_unlined items k) ∙ distance_unlined items (address_of items k) name)

over_offset_unlined : (items : List Item) (k : ℕ) (w : What) → is_over_offset (unlined_all items) k w ≡ is_over_offset items k w
over_offset_unlined items k (what.Label name) = refl
over_offset_unlined items k (what.Op op) = ap (λ (b : Bool). not b) (offset_unlined items k op.insn.op op.label)
over_offset_unlined items k (what.Packed first targets) = refl
over_offset_unlined items k (what.Sparse keys targets) = refl
over_offset_unlined items k (what.Data width bytes) = refl

over_offset_at : DraftValue → ℕ → Bool
over_offset_at d k = is_over_offset d.items k (item_at d.items k).what

over_offset_law : (d : DraftValue) → over_offset_at (unlined_draft d) ≡ over_offset_at d
unfolding over_offset_at
over_offset_law d = fun_ext (λ k. ap (is_over_offset (unlined_all d.items) k) (unlined_at d.items k) ∙ over_offset_unlined d.items k (item_at d.items k).what)

passes_at : DraftValue → ℕ → Bool
passes_at d k = passes d.items k

passes_law : (d : DraftValue) → passes_at (unlined_draft d) ≡ passes_at d
unfolding passes_at
passes_law d = fun_ext (λ k.
    let at = address_unlined d.items k in
    let here = unlined_at d.items k in
    λ i. nat_le (at i) 16384 && nat_lt 16384 (at i + size_of (here i)))

range_at : (items : List Item) (catches : List Catch) (k : ℕ) → range_of (unlined_all items) (catch_at (map unlined_catch catches) k) ≡ range_of items (catch_at catches k)
range_at items catches k = ap (range_of (unlined_all items)) (catch_unlined catches k) ∙ range_unlined items (catch_at catches k)

empty_at : DraftValue → ℕ → Bool
empty_at d k = is_empty (range_of d.items (catch_at d.catches k))

empty_law : (d : DraftValue) → empty_at (unlined_draft d) ≡ empty_at d
unfolding empty_at
empty_law d = fun_ext (λ k. ap is_empty (range_at d.items d.catches k))

overlaps_at : DraftValue → ℕ → Bool
overlaps_at d k = overlaps_earlier d.items d.catches k

overlaps_law : (d : DraftValue) → overlaps_at (unlined_draft d) ≡ overlaps_at d
unfolding overlaps_at
overlaps_law d = fun_ext (λ k.
    let range = range_at d.items d.catches k in
    let ranges = ranges_unlined d.items d.catches in
    λ i. list_any (overlaps (range i)) (take k (ranges i)))

-- ---- refusals

items_many : (d e : DraftValue) → SameButLines d e → length d.items ≡ length e.items
items_many d e same = same_of (λ (f : DraftValue). length f.items) (λ f. length-map f.items unlined) d e same

catches_many : (d e : DraftValue) → SameButLines d e → length d.catches ≡ length e.catches
catches_many d e same = same_of (λ (f : DraftValue). length f.catches) (λ f. length-map f.catches unlined_catch) d e same

none_of : {Y : Type 0} (a b : Option Y) → option_or a b ≡ None → (a ≡ None) × (b ≡ None)
none_of None b none = (refl, none)
none_of (Some y) b none = absurd (cc)

neither : {Y : Type 0} (a b : Option Y) → a ≡ None → b ≡ None → option_or a b ≡ None
neither None b first second = second
neither (Some y) b first second = absurd (cc)

refused_none : (k : LineKind) (line : Option ℕ) → refused k line ≡ None → line ≡ None
refused_none k None none = refl
refused_none k (Some n) none = absurd (cc)

earlier_none : (a b : Option ℕ) → earlier a b ≡ None → (a ≡ None) × (b ≡ None)
earlier_none None b none = (refl, none)
earlier_none (Some a) None none = absurd (cc)
earlier_none (Some a) (Some b) none = absurd (cc)

-- one kind of refusal, and those behind it
next_again : (k : LineKind) (a b : Option ℕ) (c d : Option Refusal) → (a ≡ None → b ≡ None) → (c ≡ None → d ≡ None) → option_or (refused k a) c ≡ None → option_or (refused k b) d ≡ None
next_again k a b c d first second none =
    let parts = none_of (refused k a) c none in
    neither (refused k b) d (ap (refused k) (first (refused_none k a parts.0))) (second parts.1)

last_again : (k : LineKind) (a b : Option ℕ) → (a ≡ None → b ≡ None) → refused k a ≡ None → refused k b ≡ None
last_again k a b again none = ap (refused k) (again (refused_none k a none))

both_again : {Y : Type 0} (a b c d : Option Y) → (a ≡ None → b ≡ None) → (c ≡ None → d ≡ None) → option_or a c ≡ None → option_or b d ≡ None
both_again a b c d first second none = let parts = none_of a c none in neither b d (first parts.0) (second parts.1)

earlier_again : (a b c d : Option ℕ) → (a ≡ None → b ≡ None) → (c ≡ None → d ≡ None) → earlier a c ≡ None → earlier b d ≡ None
earlier_again a b c d first second none =
    let parts = earlier_none a c none in
    let left = first parts.0 in
    let right = second parts.1 in
    λ i. earlier (left i) (right i)

module _ (d e : DraftValue) (same : SameButLines d e) where
  -- a test of items that doesn't look at lines
  of_items : (f : DraftValue → ℕ → Bool) → ((g : DraftValue) → f (unlined_draft g) ≡ f g) → first_line (λ k. when (f d k) (item_at d.items k).line) (length d.items) ≡ None → first_line (λ k. when (f e k) (item_at e.items k).line) (length e.items) ≡ None
  of_items f law none =
      no_line_again (f d) (λ k. (item_at d.items k).line) (length d.items) (f e) (λ k. (item_at e.items k).line) (length e.items) (same_of f law d e same) (items_many d e same) none

  -- and of handlers
  of_catches : (f : DraftValue → ℕ → Bool) → ((g : DraftValue) → f (unlined_draft g) ≡ f g) → first_line (λ k. when (f d k) (catch_at d.catches k).line) (length d.catches) ≡ None → first_line (λ k. when (f e k) (catch_at e.catches k).line) (length e.catches) ≡ None
  of_catches f law none =
      no_line_again (f d) (λ k. (catch_at d.catches k).line) (length d.catches) (f e) (λ k. (catch_at e.catches k).line) (length e.catches) (same_of f law d e same) (catches_many d e same) none

  labels_again : label_refusal d.items d.catches ≡ None → label_refusal e.items e.catches ≡ None
  unfolding second_at lacks_label_at catch_lacks_at
  labels_again none =
      next_again kind.LabelTwice (label_twice d.items) (label_twice e.items) (refused kind.NoLabel (no_label d.items d.catches)) (refused kind.NoLabel (no_label e.items e.catches))
      (of_items second_at second_law)
      (last_again kind.NoLabel (no_label d.items d.catches) (no_label e.items e.catches)
      (earlier_again (first_line (no_label_at d.items) (length d.items)) (first_line (no_label_at e.items) (length e.items))
      (first_line (no_label_of_catch_at d.items d.catches) (length d.catches)) (first_line (no_label_of_catch_at e.items e.catches) (length e.catches))
      (of_items lacks_label_at lacks_law) (of_catches catch_lacks_at catch_lacks_law)))
      none

  items_again : item_refusal d.items ≡ None → item_refusal e.items ≡ None
  unfolding repeated_test over_registers_at over_offset_at passes_at
  items_again none =
      next_again kind.Repeated (repeated d.items) (repeated e.items) _ _
      (of_items repeated_test repeated_law)
      (next_again kind.RegisterRange (register_range d.items) (register_range e.items) _ _
      (of_items over_registers_at over_registers_law)
      (next_again kind.OffsetRange (offset_range d.items) (offset_range e.items) _ _
      (of_items over_offset_at over_offset_law)
      (last_again kind.TooLong (too_long d.items) (too_long e.items) (of_items passes_at passes_law))))
      none

  ranges_again : range_refusal d.items d.catches ≡ None → range_refusal e.items e.catches ≡ None
  unfolding empty_at overlaps_at
  ranges_again none =
      next_again kind.TryRange (try_range d.items d.catches) (try_range e.items e.catches) _ _
      (of_catches empty_at empty_law)
      (last_again kind.TryOverlap (try_overlap d.items d.catches) (try_overlap e.items e.catches) (of_catches overlaps_at overlaps_law))
      none

pub refusal_has_no_lines : (d e : DraftValue) → SameButLines d e → refusal d ≡ None → refusal e ≡ None
refusal_has_no_lines d e same none =
    both_again (label_refusal d.items d.catches) (label_refusal e.items e.catches) _ _
    (labels_again d e same)
    (both_again (item_refusal d.items) (item_refusal e.items) (range_refusal d.items d.catches) (range_refusal e.items e.catches) (items_again d e same) (ranges_again d e same))
    none
