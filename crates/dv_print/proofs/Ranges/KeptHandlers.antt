-- The handlers of a draft are laid out again as they were, when the draft that is made of the laid-out body is laid out.
use Rattle.std.proofs.Common.{◌≡◌, ℕ, ◌<◌, zero, suc, Bool, true, false, inl, inr, List, [], ◌∷◌, ◌++◌, length, map, take, get_or, nat_lt, position, Option, Some, None, cond, refl, ap, sym, ◌∙◌, subst, arith, ⊎_elim, if◌then◌else◌}
use Rattle.std.specs.Prelude.{fold, filter}
use Rattle.std.specs.Option.{unwrap_or, option_and_then}
use Rattle.std.specs.List.{slice_get, flat_map, list_any, position_or_len}
use Rattle.std.proofs.lemmas.Bool.{lt-ltb}
use Rattle.std.proofs.lemmas.Bool.Decides.{nat_tests}
use Rattle.std.proofs.lemmas.List.Folds.{flat_map-map}
use Rattle.std.proofs.lemmas.Option.{slice_get_within, slice_get-get_or, get_or_from_slice_get}
use Rattle.std.proofs.lemmas.Simd.{map-map}
use Rattle.dv_defs.specs.declared.code.Try.{Try}
use Rattle.dv_defs.specs.declared.faults.LineKind.TheVariants as kind
use Rattle.dv_defs.specs.declared.names.Ty.{Ty}
use Rattle.dv_defs.specs.Types.{ty_eq}
use Rattle.dv_draft.specs.declared.draft.Item.{Item}
use Rattle.dv_draft.specs.declared.draft.Catch.{Catch}
use Rattle.dv_asm.specs.declared.tries.TryRange.{TryRange}
use Rattle.dv_draft.specs.declared.pools.Pools.{Pools}
use Rattle.dv_asm.specs.Places.{label_address}
use Rattle.dv_draft.specs.Pools.{with_entries}
use Rattle.dv_asm.specs.Refusals.{no_catch, catch_at, range_of, ranges_of, is_empty, is_same, overlaps, overlaps_earlier, try_range, try_range_at, try_overlap, try_overlap_at, refused, range_refusal}
use Rattle.dv_draft.specs.Pools.{pools_of}
use Rattle.dv_asm.specs.Layout.{sorted_ranges, kind_in, with_kinds, types_of, handler_of, catches_of, entry_of, tries_of}
use Rattle.dv_asm.proofs.FirstLemmas.{first_line_none, not_when}
use Rattle.dv_print.specs.Numbers.{label_name}
use Rattle.dv_print.specs.Drafting.{handler_type, catch_of, catches_of_try}
use Rattle.dv_print.specs.Laws.{Among, IsSorted, AreRangesOf}
use Rattle.dv_print.proofs.Truth.{neither, none_of, refused_none}
use Rattle.dv_print.proofs.Pools.Entries.{types_tell, Holds, holds, not_before, at_index}
use Rattle.dv_print.proofs.Pools.KeptEntries.{kinds_kept}
use Rattle.dv_asm.proofs.RangeLemmas.{range_by, same_range, is_same_as, put, folds_alike}
use Rattle.dv_print.proofs.Ranges.SortedRanges.{fold_has, fold_from, Agree, sorted_where}
use Rattle.dv_print.proofs.Ranges.Settled.{Settled, settled, all_settled, settled_range, group, kinds, entries, ranges_are, groups_are, kinds_are, entries_are, sorted_are, SameGroups, same_kinds, same_entries, grouped, same_group, map_flat, sorted_again}

-- ---- what no refusal of ranges says

-- a test passes at none of the first handlers
none_before : (p : TryRange → Bool) (items : List Item) (catches : List Catch) (j k : ℕ) → list_any p (take k (ranges_of items catches)) ≡ false → j < k → k < length catches → p (range_of items (catch_at catches j)) ≡ false
none_before p items [] j k none less within = absurd (omega arith)
none_before p items (c ∷ catches) j zero none less within = absurd (omega arith)
none_before p items (c ∷ catches) zero (suc k) none less within = (neither (p (range_of items c)) (list_any p (take k (ranges_of items catches))) none).0
none_before p items (c ∷ catches) (suc j) (suc k) none less within =
    none_before p items catches j k (neither (p (range_of items c)) (list_any p (take k (ranges_of items catches))) none).1 (omega arith) (omega arith)

agree_by : (q r : TryRange) → is_empty q ≡ false → is_empty r ≡ false → overlaps q r ≡ false → q.start ≡ r.start → q ≡ r
agree_by q r full full' apart level = same_range q r (at (is_same q r) refl)
  where
    at : (b : Bool) → is_same q r ≡ b → is_same q r ≡ true
    at true e = e
    at false e = grind (arith, nat_tests)

-- no handler has an empty range, and no two have different ranges with an address in common
pub record AreApart (items : List Item) (catches : List Catch) : Type 0 where
  pub full : (j : ℕ) → j < length catches → is_empty (range_of items (catch_at catches j)) ≡ false
  pub apart : (j k : ℕ) → j < k → k < length catches → overlaps (range_of items (catch_at catches k)) (range_of items (catch_at catches j)) ≡ false

pub are_apart : (items : List Item) (catches : List Catch) → range_refusal items catches ≡ None → AreApart items catches
are_apart items catches none =
    let parts = none_of (refused kind.TryRange (try_range items catches)) (refused kind.TryOverlap (try_overlap items catches)) none in
    let full = refused_none kind.TryRange (try_range items catches) parts.0 in
    let apart = refused_none kind.TryOverlap (try_overlap items catches) parts.1 in
    record {
      full = λ j within. not_when (is_empty (range_of items (catch_at catches j))) (catch_at catches j).line (first_line_none (try_range_at items catches) (length catches) j full within);
      apart = λ j k less within. none_before (overlaps (range_of items (catch_at catches k))) items catches j k
          (not_when (overlaps_earlier items catches k) (catch_at catches k).line (first_line_none (try_overlap_at items catches) (length catches) k apart within)) less within;
    }

-- the handler of a range
pub range_at : (items : List Item) (catches : List Catch) (r : TryRange) → Among r (ranges_of items catches) → (j : ℕ) × (j < length catches) × (range_of items (catch_at catches j) ≡ r)
range_at items [] r at = absurd at
range_at items (c ∷ catches) r (inl e) = (0, omega arith, e)
range_at items (c ∷ catches) r (inr at) = let rest = range_at items catches r at in (suc rest.0, omega (arith, rest.1), rest.2)

among_at : (items : List Item) (catches : List Catch) (j : ℕ) → j < length catches → Among (range_of items (catch_at catches j)) (ranges_of items catches)
among_at items [] j within = absurd (omega arith)
among_at items (c ∷ catches) zero within = inl refl
among_at items (c ∷ catches) (suc j) within = inr (among_at items catches j (omega arith))

agree_at : (items : List Item) (catches : List Catch) (j k : ℕ) → AreApart items catches → j < length catches → k < length catches → (range_of items (catch_at catches j)).start ≡ (range_of items (catch_at catches k)).start → range_of items (catch_at catches j) ≡ range_of items (catch_at catches k)
agree_at items catches j k h left right level = at (nat_lt j k) (nat_lt k j) refl refl
  where
    at : (b c : Bool) → nat_lt j k ≡ b → nat_lt k j ≡ c → range_of items (catch_at catches j) ≡ range_of items (catch_at catches k)
    at true c e d = sym (agree_by (range_of items (catch_at catches k)) (range_of items (catch_at catches j)) (h.full k right) (h.full j left) (h.apart j k (grind (arith, nat_tests)) right) (sym level))
    at false true e d = agree_by (range_of items (catch_at catches j)) (range_of items (catch_at catches k)) (h.full j left) (h.full k right) (h.apart k j (grind (arith, nat_tests)) left) level
    at false false e d = let same : j ≡ k = grind (arith, nat_tests) in ap (λ n. range_of items (catch_at catches n)) same

agree_by_start : (items : List Item) (catches : List Catch) → range_refusal items catches ≡ None → Agree (ranges_of items catches)
agree_by_start items catches none q r left right level =
    let a = range_at items catches q left in
    let b = range_at items catches r right in
    let start : TryRange → ℕ = λ x. x.start in
    sym a.2 ∙ (agree_at items catches a.0 b.0 (are_apart items catches none) a.1 b.1 (ap start a.2 ∙ (level ∙ sym (ap start b.2))) ∙ b.2)

-- each range starts behind those before it
sorted_where_known : (items : List Item) (catches : List Catch) → range_refusal items catches ≡ None → IsSorted (sorted_ranges items catches)
sorted_where_known items catches none =
    subst IsSorted (sym (folds_alike [] (ranges_of items catches))) (sorted_where (ranges_of items catches) (agree_by_start items catches none))

-- each of them is a handler's
own_range : (items : List Item) (catches : List Catch) (r : TryRange) → Among r (sorted_ranges items catches) → Among r (ranges_of items catches)
own_range items catches r at =
    let P : List TryRange → Type 0 = λ rs. Among r rs in
    ⊎_elim (λ none. absurd none) (λ here. here) (fold_from [] (ranges_of items catches) r (subst P (folds_alike [] (ranges_of items catches)) at))

-- the range of each handler stands among them
pub range_stands : (items : List Item) (catches : List Catch) (j : ℕ) → j < length catches → Among (range_of items (catch_at catches j)) (sorted_ranges items catches)
range_stands items catches j within =
    let P : List TryRange → Type 0 = λ rs. Among (range_of items (catch_at catches j)) rs in
    subst P (sym (folds_alike [] (ranges_of items catches))) (fold_has [] (ranges_of items catches) (range_of items (catch_at catches j)) (among_at items catches j within))

-- and no other range
stands_from : (items : List Item) (catches : List Catch) (q : TryRange) → Among q (sorted_ranges items catches) → Among q (map settled_range (all_settled items catches))
stands_from items catches q at =
    let P : List TryRange → Type 0 = λ rs. Among q rs in
    subst P (sym (ranges_are items catches)) (own_range items catches q at)

-- ---- the kind of a handler stands in the pool

kind_at : (items : List Item) (catches : List Catch) (ts : List Ty) (rs : List TryRange) (j : ℕ) (c : Catch) (t : Ty) → slice_get catches j ≡ Some c → c.kind ≡ Some t → Among (range_of items c) rs → Holds ty_eq t (with_kinds items catches ts rs)
kind_at items catches ts [] j c t e named at = absurd at
kind_at items catches ts (r ∷ rs) j c t e named (inl same) =
    let own : kind_in items r c ≡ Some t = ap (λ b. if b then c.kind else None) (is_same_as (range_of items c) r (sym same)) ∙ named in
    let here = holds ty_eq (kind_in items r) types_tell ts catches j c t e own in
    record { place = here.place; found = here.found; stands = kinds_kept items catches rs (with_entries ty_eq (kind_in items r) ts catches) here.place here.found here.stands; equal = here.equal }
kind_at items catches ts (r ∷ rs) j c t e named (inr at) = kind_at items catches (with_entries ty_eq (kind_in items r) ts catches) rs j c t e named at

place_is : (types : List Ty) (t : Ty) → Holds ty_eq t types → position (ty_eq t) types ≡ Some (position_or_len (ty_eq t) types)
place_is types t h =
    let first = position_or_len (ty_eq t) types in
    let test : ty_eq t (get_or types h.place t) ≡ true = ap (ty_eq t) (get_or_from_slice_get types h.place h.found t h.stands) ∙ h.equal in
    let less : first < length types = omega (arith, not_before (ty_eq t) types h.place t test, slice_get_within types h.place h.found h.stands) in
    ap (λ b. cond b (Some first) None) (lt-ltb first (length types) less)

place_found : (types : List Ty) (t : Ty) (o : Option ℕ) → position (ty_eq t) types ≡ o → Holds ty_eq t types → slice_get types (unwrap_or o 0) ≡ Some t → option_and_then (slice_get types) o ≡ Some t
place_found types t None e h at = absurd (cc (e, place_is types t h))
place_found types t (Some k) e h at = at

same_kind : (types : List Ty) (kind : Option Ty) → ((t : Ty) → kind ≡ Some t → Holds ty_eq t types) → option_and_then (slice_get types) (option_and_then (λ t. position (ty_eq t) types) kind) ≡ kind
same_kind types None h = refl
same_kind types (Some t) h = place_found types t (position (ty_eq t) types) refl (h t refl) (at_index ty_eq types_tell t types (h t refl))

-- ---- the handlers of the draft

-- the label of an address leads to it
abbrev pub LeadsTo : List Item → ℕ → Type 0
LeadsTo after a = label_address after (label_name a) ≡ a

-- the labels of the addresses that a handler names lead to them
pub record Leads (items after : List Item) (c : Catch) : Type 0 where
  pub start : LeadsTo after (label_address items c.from)
  pub end : LeadsTo after (label_address items c.to)
  pub at : LeadsTo after (label_address items c.at)

settled_by : (a b : TryRange) (k l : Option Ty) (m n : ℕ) → a ≡ b → k ≡ l → m ≡ n → (let h : Settled = record { range = a; kind = k; at = m } in h) ≡ record { range = b; kind = l; at = n }
settled_by a b k l m n e f g = cc

abbrev again_of : List Item → List Ty → Try → Catch → Catch
again_of items types t c = catch_of types t (handler_of items types c)

settled_again : (items after : List Item) (types : List Ty) (t : Try) (c : Catch) → Leads items after c → handler_type types (handler_of items types c) ≡ c.kind → t.start ≡ label_address items c.from → t.end ≡ label_address items c.to → settled after (again_of items types t c) ≡ settled items c
settled_again items after types t c leads same start end =
    let address : ℕ → ℕ = λ a. label_address after (label_name a) in
    settled_by _ _ _ _ _ _ (range_by _ _ _ _ (ap address start ∙ leads.start) (ap address end ∙ leads.end)) same leads.at

filtered_by : {X Y : Type 0} (p : X → Bool) (f g : X → Y) (b : Bool) (x : X) (xs : List X) → (b ≡ true → f x ≡ g x) → map f xs ≡ map g xs → map f (cond b (x ∷ xs) xs) ≡ map g (cond b (x ∷ xs) xs)
filtered_by p f g true x xs e h = cc (e refl, h)
filtered_by p f g false x xs e h = h

same_filtered : {X Y : Type 0} (p : X → Bool) (f g : X → Y) (xs : List X) (d : X) → ((j : ℕ) → j < length xs → p (get_or xs j d) ≡ true → f (get_or xs j d) ≡ g (get_or xs j d)) → map f (filter p xs) ≡ map g (filter p xs)
same_filtered p f g [] d same = refl
same_filtered p f g (x ∷ xs) d same =
    filtered_by p f g (p x) x (filter p xs) (same 0 (omega arith)) (same_filtered p f g xs d (λ j within. same (suc j) (omega arith)))

same_flat : {X Y : Type 0} (f g : X → List Y) (xs : List X) → ((x : X) → f x ≡ g x) → flat_map f xs ≡ flat_map g xs
same_flat f g [] same = refl
same_flat f g (x ∷ xs) same = ap (λ ys. ys ++ flat_map f xs) (same x) ∙ ap (λ ys. g x ++ ys) (same_flat f g xs same)

-- the labels of each handler lead where they led, and its kind is in the pool
abbrev AreKept : List Item → List Item → List Catch → List Ty → Type 0
AreKept items after catches types =
    (j : ℕ) → j < length catches → Leads items after (catch_at catches j) × (handler_type types (handler_of items types (catch_at catches j)) ≡ (catch_at catches j).kind)

entry_again : (items after : List Item) (catches : List Catch) (types : List Ty) → AreKept items after catches types → (r : TryRange) → all_settled after (catches_of_try types (entry_of items catches types r)) ≡ group (all_settled items catches) r
entry_again items after catches types are_kept r =
    let t = entry_of items catches types r in
    let own = catches_of items catches r in
    let in_own : Catch → Bool = λ c. is_same (range_of items c) r in
    let start : TryRange → ℕ = λ q. q.start in
    let end : TryRange → ℕ = λ q. q.end in
    map-map (settled after) (catch_of types t) (map (handler_of items types) own) ∙
    (map-map (λ h. settled after (catch_of types t h)) (handler_of items types) own ∙
    (same_filtered in_own (λ c. settled after (again_of items types t c)) (settled items) catches no_catch
    (λ j within same.
    let is_kept = are_kept j within in
    let e = same_range (range_of items (catch_at catches j)) r same in
    settled_again items after types t (catch_at catches j) is_kept.0 is_kept.1 (sym (ap start e)) (sym (ap end e))) ∙
    groups_are items catches r))

-- the handlers of the draft come in groups, by the ranges' starts
again_are : (items after : List Item) (catches : List Catch) (types : List Ty) (rs : List TryRange) → AreKept items after catches types → all_settled after (flat_map (catches_of_try types) (map (entry_of items catches types) rs)) ≡ grouped (all_settled items catches) rs
again_are items after catches types rs are_kept =
    ap (all_settled after) (flat_map-map (catches_of_try types) (entry_of items catches types) rs) ∙
    (map_flat (settled after) (λ r. catches_of_try types (entry_of items catches types r)) rs ∙
    same_flat _ _ rs (entry_again items after catches types are_kept))

kinds_by_parts : (hs gs : List Settled) (ts us : List Ty) (rs ss : List TryRange) → hs ≡ gs → ts ≡ us → rs ≡ ss → kinds hs ts rs ≡ kinds gs us ss
kinds_by_parts hs gs ts us rs ss e f g = cc

entries_by_parts : (hs gs : List Settled) (types : List Ty) (rs ss : List TryRange) → hs ≡ gs → rs ≡ ss → entries hs types rs ≡ entries gs types ss
entries_by_parts hs gs types rs ss e f = ap (λ xs. entries xs types rs) e ∙ ap (entries gs types) f

are_kept_where : (items after : List Item) (catches : List Catch) → ((j : ℕ) → j < length catches → Leads items after (catch_at catches j)) → AreKept items after catches (types_of items catches)
are_kept_where items after catches leads j within =
    let c = catch_at catches j in
    let rs = sorted_ranges items catches in
    (leads j within, same_kind (types_of items catches) c.kind (λ t e. kind_at items catches (pools_of items).types rs j c t (slice_get-get_or catches j no_catch within) e (range_stands items catches j within)))

-- the handlers of the draft are laid out as the handlers before it
pub handlers_kept : (items after : List Item) (catches : List Catch) → range_refusal items catches ≡ None → ((j : ℕ) → j < length catches → Leads items after (catch_at catches j)) → pools_of after ≡ pools_of items →
    let types = types_of items catches in
    let tries = tries_of items catches types in
    let again = flat_map (catches_of_try types) tries in
    (types_of after again ≡ types) × (tries_of after again types ≡ tries)
handlers_kept items after catches none leads pools =
    let types = types_of items catches in
    let again = flat_map (catches_of_try types) (tries_of items catches types) in
    let hs = all_settled items catches in
    let rs = sorted_ranges items catches in
    let sorted : IsSorted rs = sorted_where_known items catches none in
    let are : all_settled after again ≡ grouped hs rs = again_are items after catches types rs (are_kept_where items after catches leads) in
    let ranges : sorted_ranges after again ≡ rs =
    sorted_are after again ∙ (ap (λ gs. fold put [] (map settled_range gs)) are ∙ sorted_again hs rs sorted (stands_from items catches)) in
    let same : SameGroups hs (grouped hs rs) rs = λ r at. same_group hs r rs sorted at in
    let own : Pools → List Ty = λ p. p.types in (
      kinds_are after again (pools_of after).types (sorted_ranges after again) ∙
          (kinds_by_parts _ _ _ _ _ _ are (ap own pools) ranges ∙
          (same_kinds hs (grouped hs rs) (pools_of items).types rs same ∙ sym (kinds_are items catches (pools_of items).types rs))),
      entries_are after again types (sorted_ranges after again) ∙
          (entries_by_parts _ _ types _ _ are ranges ∙
          (same_entries hs (grouped hs rs) types rs same ∙ sym (entries_are items catches types rs))),
    )

-- the ranges of the entries are those of the handlers
pub ranges_are_sorted : (items : List Item) (catches : List Catch) → range_refusal items catches ≡ None → AreRangesOf items catches
ranges_are_sorted items catches none =
    record {
      sorted = sorted_where_known items catches none;
      all = range_stands items catches;
      own = own_range items catches;
    }
