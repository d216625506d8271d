-- Handlers with addresses in place of their labels: ranges, kinds and entries are those of such handlers.
use Rattle.std.proofs.Common.{◌≡◌, ℕ, Bool, true, false, inl, inr, List, [], ◌∷◌, ◌++◌, map, position, Option, None, cond, refl, ap, sym, ◌∙◌, subst, append-nil, if◌then◌else◌}
use Rattle.std.specs.Prelude.{fold, filter}
use Rattle.std.specs.Option.{option_and_then}
use Rattle.std.specs.List.{flat_map}
use Rattle.std.proofs.lemmas.List.{map-append}
use Rattle.std.proofs.lemmas.List.Elements.{filter-append}
use Rattle.std.proofs.lemmas.Simd.{map-map}
use Rattle.dv_defs.specs.declared.code.Handler.{Handler}
use Rattle.dv_defs.specs.declared.code.Try.{Try}
use Rattle.dv_defs.specs.declared.names.Ty.{Ty}
use Rattle.dv_defs.specs.Types.{ty_eq}
use Rattle.dv_draft.specs.declared.draft.Item.{Item}
use Rattle.dv_draft.specs.declared.draft.Catch.{Catch}
use Rattle.dv_asm.specs.declared.tries.TryRange.{TryRange}
use Rattle.dv_asm.specs.Places.{label_address}
use Rattle.dv_draft.specs.Pools.{with_entries, with_entry_if_any}
use Rattle.dv_asm.specs.Refusals.{range_of, ranges_of, is_same}
use Rattle.dv_asm.specs.Layout.{sorted_ranges, with_kinds, catches_of, entry_of}
use Rattle.dv_print.specs.Laws.{Among, After, IsSorted}
use Rattle.dv_asm.proofs.RangeLemmas.{same_range, is_same_as, other_start, other_start_above, put, folds_alike}
use Rattle.dv_print.proofs.Ranges.SortedRanges.{after_at, AllAre, IsGroup, groups_sorted}

-- ---- handlers whose labels are addresses

-- a handler, with addresses in place of its labels
pub record Settled : Type 0 where
  pub range : TryRange
  pub kind : Option Ty
  pub at : ℕ

abbrev pub settled : List Item → Catch → Settled
settled items c = record { range = range_of items c; kind = c.kind; at = label_address items c.at }

abbrev pub all_settled : List Item → List Catch → List Settled
all_settled items catches = map (settled items) catches

abbrev pub settled_range : Settled → TryRange
settled_range h = h.range

abbrev in_range : TryRange → Settled → Bool
in_range r h = is_same h.range r

-- those of a range, in their order
abbrev pub group : List Settled → TryRange → List Settled
group hs r = filter (in_range r) hs

abbrev settled_kind : TryRange → Settled → Option Ty
settled_kind r h = if is_same h.range r then h.kind else None

abbrev any_kind : Settled → Option Ty
any_kind h = h.kind

abbrev pub kinds : List Settled → List Ty → List TryRange → List Ty
kinds hs ts [] = ts
kinds hs ts (r ∷ rs) = kinds hs (with_entries ty_eq (settled_kind r) ts hs) rs

abbrev settled_handler : List Ty → Settled → Handler
settled_handler types h = record { kind = option_and_then (λ t. position (ty_eq t) types) h.kind; at = h.at }

abbrev entry : List Ty → TryRange → List Settled → Try
entry types r hs = record { start = r.start; end = r.end; handlers = map (settled_handler types) hs }

abbrev pub entries : List Settled → List Ty → List TryRange → List Try
entries hs types rs = map (λ r. entry types r (group hs r)) rs

-- ---- ranges, kinds and entries are those of the handlers with addresses

pub ranges_are : (items : List Item) (catches : List Catch) → map settled_range (all_settled items catches) ≡ ranges_of items catches
ranges_are items catches = map-map settled_range (settled items) catches

if_mapped : {X Y : Type 0} (f : X → Y) (b : Bool) (x : X) (xs : List X) (ys : List Y) → map f xs ≡ ys → map f (cond b (x ∷ xs) xs) ≡ cond b (f x ∷ ys) ys
if_mapped f true x xs ys e = ap (λ zs. f x ∷ zs) e
if_mapped f false x xs ys e = e

filter_mapped : {X Y : Type 0} (f : X → Y) (p : Y → Bool) (xs : List X) → map f (filter (λ x. p (f x)) xs) ≡ filter p (map f xs)
filter_mapped f p [] = refl
filter_mapped f p (x ∷ xs) = if_mapped f (p (f x)) x (filter (λ x. p (f x)) xs) (filter p (map f xs)) (filter_mapped f p xs)

pub groups_are : (items : List Item) (catches : List Catch) (r : TryRange) → map (settled items) (catches_of items catches r) ≡ group (all_settled items catches) r
groups_are items catches r = filter_mapped (settled items) (in_range r) catches

entries_mapped : {X Y : Type 0} (f : X → Y) (g : Y → Option Ty) (ts : List Ty) (xs : List X) → with_entries ty_eq (λ x. g (f x)) ts xs ≡ with_entries ty_eq g ts (map f xs)
entries_mapped f g ts [] = refl
entries_mapped f g ts (x ∷ xs) = entries_mapped f g (with_entry_if_any ty_eq ts (g (f x))) xs

pub kinds_are : (items : List Item) (catches : List Catch) (ts : List Ty) (rs : List TryRange) → with_kinds items catches ts rs ≡ kinds (all_settled items catches) ts rs
kinds_are items catches ts [] = refl
kinds_are items catches ts (r ∷ rs) =
    ap (λ us. with_kinds items catches us rs) (entries_mapped (settled items) (settled_kind r) ts catches) ∙ kinds_are items catches (with_entries ty_eq (settled_kind r) ts (all_settled items catches)) rs

entry_by : (r : TryRange) (a b : List Handler) → a ≡ b → (let t : Try = record { start = r.start; end = r.end; handlers = a } in t) ≡ record { start = r.start; end = r.end; handlers = b }
entry_by r a b e = cc

entry_is : (items : List Item) (catches : List Catch) (types : List Ty) (r : TryRange) → entry_of items catches types r ≡ entry types r (group (all_settled items catches) r)
entry_is items catches types r =
    entry_by r _ _ (sym (map-map (settled_handler types) (settled items) (catches_of items catches r)) ∙ ap (map (settled_handler types)) (groups_are items catches r))

pub entries_are : (items : List Item) (catches : List Catch) (types : List Ty) (rs : List TryRange) → map (entry_of items catches types) rs ≡ entries (all_settled items catches) types rs
entries_are items catches types [] = refl
entries_are items catches types (r ∷ rs) = cc (entry_is items catches types r, entries_are items catches types rs)

pub sorted_are : (items : List Item) (catches : List Catch) → sorted_ranges items catches ≡ fold put [] (map settled_range (all_settled items catches))
sorted_are items catches = folds_alike [] (ranges_of items catches) ∙ ap (fold put []) (sym (ranges_are items catches))

-- ---- what groups give

kinds_by : (b : Bool) (ts : List Ty) (h : Settled) (hs : List Settled) (r : TryRange) → with_entries ty_eq (settled_kind r) (with_entry_if_any ty_eq ts (if b then h.kind else None)) hs ≡ with_entries ty_eq any_kind (with_entry_if_any ty_eq ts (if b then h.kind else None)) (group hs r) → with_entries ty_eq (settled_kind r) (with_entry_if_any ty_eq ts (if b then h.kind else None)) hs ≡ with_entries ty_eq any_kind ts (cond b (h ∷ group hs r) (group hs r))
kinds_by true ts h hs r e = e
kinds_by false ts h hs r e = e

kinds_of_group : (ts : List Ty) (hs : List Settled) (r : TryRange) → with_entries ty_eq (settled_kind r) ts hs ≡ with_entries ty_eq any_kind ts (group hs r)
kinds_of_group ts [] r = refl
kinds_of_group ts (h ∷ hs) r = kinds_by (is_same h.range r) ts h hs r (kinds_of_group (with_entry_if_any ty_eq ts (settled_kind r h)) hs r)

-- the handlers of each of the ranges are the same
abbrev pub SameGroups : List Settled → List Settled → List TryRange → Type 0
SameGroups hs gs rs = (r : TryRange) → Among r rs → group gs r ≡ group hs r

pub same_kinds : (hs gs : List Settled) (ts : List Ty) (rs : List TryRange) → SameGroups hs gs rs → kinds gs ts rs ≡ kinds hs ts rs
same_kinds hs gs ts [] same = refl
same_kinds hs gs ts (r ∷ rs) same =
    let here : with_entries ty_eq (settled_kind r) ts gs ≡ with_entries ty_eq (settled_kind r) ts hs =
    kinds_of_group ts gs r ∙ (ap (with_entries ty_eq any_kind ts) (same r (inl refl)) ∙ sym (kinds_of_group ts hs r)) in
    ap (λ us. kinds gs us rs) here ∙ same_kinds hs gs (with_entries ty_eq (settled_kind r) ts hs) rs (λ q at. same q (inr at))

pub same_entries : (hs gs : List Settled) (types : List Ty) (rs : List TryRange) → SameGroups hs gs rs → entries gs types rs ≡ entries hs types rs
same_entries hs gs types [] same = refl
same_entries hs gs types (r ∷ rs) same =
    cc (ap (entry types r) (same r (inl refl)), same_entries hs gs types rs (λ q at. same q (inr at)))

-- ---- handlers in groups

-- the handlers of the first range, then those of the next one
abbrev pub grouped : List Settled → List TryRange → List Settled
grouped hs rs = flat_map (group hs) rs

twice_by : {X : Type 0} (p : X → Bool) (b : Bool) (x : X) (xs : List X) → p x ≡ b → filter p xs ≡ xs → filter p (cond b (x ∷ xs) xs) ≡ cond b (x ∷ xs) xs
twice_by p true x xs e h = ap (λ b. cond b (x ∷ filter p xs) (filter p xs)) e ∙ ap (λ ys. x ∷ ys) h
twice_by p false x xs e h = h

filter_twice : {X : Type 0} (p : X → Bool) (xs : List X) → filter p (filter p xs) ≡ filter p xs
filter_twice p [] = refl
filter_twice p (x ∷ xs) = twice_by p (p x) x (filter p xs) refl (filter_twice p xs)

none_by : {X : Type 0} (p : X → Bool) (b : Bool) (x : X) (xs : List X) → (b ≡ true → p x ≡ false) → filter p xs ≡ [] → filter p (cond b (x ∷ xs) xs) ≡ []
none_by p true x xs e h = ap (λ b. cond b (x ∷ filter p xs) (filter p xs)) (e refl) ∙ h
none_by p false x xs e h = h

filter_none : {X : Type 0} (p q : X → Bool) (xs : List X) → ((x : X) → q x ≡ true → p x ≡ false) → filter p (filter q xs) ≡ []
filter_none p q [] e = refl
filter_none p q (x ∷ xs) e = none_by p (q x) x (filter q xs) (e x) (filter_none p q xs e)

other_group : (hs : List Settled) (r s : TryRange) → is_same s r ≡ false → filter (in_range r) (group hs s) ≡ []
other_group hs r s other = filter_none (in_range r) (in_range s) hs (λ h e. ap (λ q. is_same q r) (same_range h.range s e) ∙ other)

no_group : (hs : List Settled) (r : TryRange) (rs : List TryRange) → After r.start rs → group (grouped hs rs) r ≡ []
no_group hs r [] above = refl
no_group hs r (s ∷ rs) above =
    filter-append (in_range r) (group hs s) (grouped hs rs) ∙
    (ap (λ xs. xs ++ group (grouped hs rs) r) (other_group hs r s (other_start_above s r above.0)) ∙ no_group hs r rs above.1)

pub same_group : (hs : List Settled) (r : TryRange) (rs : List TryRange) → IsSorted rs → Among r rs → group (grouped hs rs) r ≡ group hs r
same_group hs r [] sorted at = absurd at
same_group hs r (s ∷ rs) sorted (inl e) =
    let own : filter (in_range r) (group hs s) ≡ group hs r = ap (λ q. filter (in_range r) (group hs q)) e ∙ filter_twice (in_range r) hs in
    let above : After r.start rs = ap_after s r rs e sorted.0 in
    filter-append (in_range r) (group hs s) (grouped hs rs) ∙
    (ap (λ xs. xs ++ group (grouped hs rs) r) own ∙ (ap (λ xs. group hs r ++ xs) (no_group hs r rs above) ∙ append-nil (group hs r)))
  where
    ap_after : (s r : TryRange) (rs : List TryRange) → s ≡ r → After s.start rs → After r.start rs
    ap_after s r rs e h = let P : TryRange → Type 0 = λ q. After q.start rs in subst P e h
same_group hs r (s ∷ rs) sorted (inr at) =
    filter-append (in_range r) (group hs s) (grouped hs rs) ∙
    (ap (λ xs. xs ++ group (grouped hs rs) r) (other_group hs r s (other_start s r (after_at s.start rs r sorted.0 at))) ∙ same_group hs r rs sorted.1 at)

all_by : (b : Bool) (r : TryRange) (h : Settled) (hs : List Settled) → is_same h.range r ≡ b → AllAre r (map settled_range hs) → AllAre r (map settled_range (cond b (h ∷ hs) hs))
all_by true r h hs e all = (same_range h.range r e, all)
all_by false r h hs e all = all

all_are : (hs : List Settled) (r : TryRange) → AllAre r (map settled_range (group hs r))
all_are [] r = tt
all_are (h ∷ hs) r = all_by (is_same h.range r) r h (group hs r) refl (all_are hs r)

group_by : (b : Bool) (r : TryRange) (h : Settled) (hs : List Settled) → is_same h.range r ≡ b → AllAre r (map settled_range (group hs r)) → (Among r (map settled_range hs) → IsGroup r (map settled_range (group hs r))) → Among r (map settled_range (h ∷ hs)) → IsGroup r (map settled_range (cond b (h ∷ group hs r) (group hs r)))
group_by true r h hs e all rest at = (same_range h.range r e, all)
group_by false r h hs e all rest (inl same) = absurd (cc (e, is_same_as h.range r same))
group_by false r h hs e all rest (inr at) = rest at

is_group : (hs : List Settled) (r : TryRange) → Among r (map settled_range hs) → IsGroup r (map settled_range (group hs r))
is_group [] r at = absurd at
is_group (h ∷ hs) r at = group_by (is_same h.range r) r h hs refl (all_are hs r) (is_group hs r) at

pub map_flat : {X Y Z : Type 0} (f : Y → Z) (g : X → List Y) (xs : List X) → map f (flat_map g xs) ≡ flat_map (λ x. map f (g x)) xs
map_flat f g [] = refl
map_flat f g (x ∷ xs) = map-append f (g x) (flat_map g xs) ∙ ap (λ ys. map f (g x) ++ ys) (map_flat f g xs)

-- handlers in groups have the same ranges, by their starts
pub sorted_again : (hs : List Settled) (rs : List TryRange) → IsSorted rs → ((q : TryRange) → Among q rs → Among q (map settled_range hs)) → fold put [] (map settled_range (grouped hs rs)) ≡ rs
sorted_again hs rs sorted from =
    ap (fold put []) (map_flat settled_range (group hs) rs) ∙ groups_sorted (λ r. map settled_range (group hs r)) rs sorted (λ q at. is_group hs q (from q at))
