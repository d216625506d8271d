-- The handlers of the draft name the addresses that handlers of the draft before it name, so their ranges aren't refused.
use Rattle.std.proofs.Common.{◌≡◌, ℕ, ◌<◌, zero, suc, Bool, true, false, List, [], ◌∷◌, ◌++◌, length, map, take, nat_lt, cond, None, refl, ap, sym, ◌∙◌, subst, arith}
use Rattle.std.specs.List.{flat_map, list_any}
use Rattle.std.proofs.lemmas.Bool.Decides.{nat_tests}
use Rattle.dv_defs.specs.declared.code.Try.{Try}
use Rattle.dv_defs.specs.declared.names.Ty.{Ty}
use Rattle.dv_draft.specs.declared.draft.Item.{Item}
use Rattle.dv_draft.specs.declared.draft.Catch.{Catch}
use Rattle.dv_asm.specs.declared.tries.TryRange.{TryRange}
use Rattle.dv_draft.specs.Draft.{DraftValue}
use Rattle.dv_asm.specs.Places.{label_address}
use Rattle.dv_asm.specs.Refusals.{catch_at, range_of, ranges_of, is_empty, is_same, overlaps, overlaps_earlier, try_range, try_range_at, try_overlap, try_overlap_at, range_refusal}
use Rattle.dv_asm.specs.Layout.{sorted_ranges, types_of, handler_of, catches_of, entry_of, tries_of, body_of, layout}
use Rattle.dv_print.specs.Numbers.{label_name}
use Rattle.dv_print.specs.Drafting.{catch_of, catches_of_try, draft_of}
use Rattle.dv_print.proofs.Truth.{no_line, when_not}
use Rattle.dv_asm.proofs.RangeLemmas.{range_by, same_range}
use Rattle.dv_print.proofs.Ranges.KeptHandlers.{AreApart, are_apart}
use Rattle.dv_print.proofs.Again.LaidDraft.{IsLaidOut, after_of, handler_leads}

-- ---- what the handlers of the draft are made of

-- the labels that a handler names are those of the addresses that a handler of others names
pub record IsFrom (items : List Item) (catches : List Catch) (c : Catch) : Type 0 where
  pub place : ℕ
  pub within : place < length catches
  pub from : c.from ≡ label_name (label_address items (catch_at catches place).from)
  pub to : c.to ≡ label_name (label_address items (catch_at catches place).to)
  pub at : c.at ≡ label_name (label_address items (catch_at catches place).at)

abbrev Each : (Catch → Type 0) → List Catch → Type 0
Each P [] = Unit {0}
Each P (c ∷ cs) = P c × Each P cs

each_append : (P : Catch → Type 0) (cs ds : List Catch) → Each P cs → Each P ds → Each P (cs ++ ds)
each_append P [] ds h k = k
each_append P (c ∷ cs) ds h k = (h.0, each_append P cs ds h.1 k)

each_at : (P : Catch → Type 0) (cs : List Catch) (k : ℕ) → Each P cs → k < length cs → P (catch_at cs k)
each_at P [] k h within = absurd (omega arith)
each_at P (c ∷ cs) zero h within = h.0
each_at P (c ∷ cs) (suc k) h within = each_at P cs k h.1 (omega arith)

each_flat : {X : Type 0} (P : Catch → Type 0) (f : Try → List Catch) (g : X → Try) (xs : List X) → ((x : X) → Each P (f (g x))) → Each P (flat_map f (map g xs))
each_flat P f g [] h = tt
each_flat P f g (x ∷ xs) h = each_append P (f (g x)) (flat_map f (map g xs)) (h x) (each_flat P f g xs h)

each_by : (P : Catch → Type 0) (items : List Item) (types : List Ty) (t : Try) (b : Bool) (c : Catch) (cs : List Catch) → (b ≡ true → P (catch_of types t (handler_of items types c))) → Each P (map (catch_of types t) (map (handler_of items types) cs)) → Each P (map (catch_of types t) (map (handler_of items types) (cond b (c ∷ cs) cs)))
each_by P items types t true c cs here rest = (here refl, rest)
each_by P items types t false c cs here rest = rest

each_filtered : (P : Catch → Type 0) (items : List Item) (types : List Ty) (t : Try) (r : TryRange) (cs : List Catch) → ((j : ℕ) → j < length cs → is_same (range_of items (catch_at cs j)) r ≡ true → P (catch_of types t (handler_of items types (catch_at cs j)))) → Each P (map (catch_of types t) (map (handler_of items types) (catches_of items cs r)))
each_filtered P items types t r [] h = tt
each_filtered P items types t r (c ∷ cs) h =
    each_by P items types t (is_same (range_of items c) r) c (catches_of items cs r) (h 0 (omega arith)) (each_filtered P items types t r cs (λ j within. h (suc j) (omega arith)))

entry_from : (items : List Item) (catches : List Catch) (types : List Ty) (r : TryRange) → Each (IsFrom items catches) (catches_of_try types (entry_of items catches types r))
entry_from items catches types r =
    let start : TryRange → List ℕ = λ q. label_name q.start in
    let end : TryRange → List ℕ = λ q. label_name q.end in
    each_filtered (IsFrom items catches) items types (entry_of items catches types r) r catches
    (λ j within same.
    let e = same_range (range_of items (catch_at catches j)) r same in
    record { place = j; within = within; from = sym (ap start e); to = sym (ap end e); at = refl })

-- the handlers of the draft of a body
abbrev again : List Item → List Catch → List Catch
again items catches = flat_map (catches_of_try (types_of items catches)) (tries_of items catches (types_of items catches))

catches_are : (d : DraftValue) → (draft_of (layout d)).catches ≡ again d.items d.catches
unfolding draft_of body_of
catches_are d = refl

again_from : (items : List Item) (catches : List Catch) → Each (IsFrom items catches) (again items catches)
again_from items catches =
    let types = types_of items catches in
    each_flat (IsFrom items catches) (catches_of_try types) (entry_of items catches types) (sorted_ranges items catches) (entry_from items catches types)

-- each handler of the draft is from a handler of the draft before it
pub handler_from : (d : DraftValue) (k : ℕ) → k < length (draft_of (layout d)).catches → IsFrom d.items d.catches (catch_at (draft_of (layout d)).catches k)
handler_from d k within =
    let P : List Catch → Type 0 = λ cs. Each (IsFrom d.items d.catches) cs in
    each_at (IsFrom d.items d.catches) (draft_of (layout d)).catches k (subst P (sym (catches_are d)) (again_from d.items d.catches)) within

-- ---- ranges

-- its range is that handler's
pub range_from : (d : DraftValue) → IsLaidOut d → (k : ℕ) (within : k < length (draft_of (layout d)).catches) → range_of (after_of d) (catch_at (draft_of (layout d)).catches k) ≡ range_of d.items (catch_at d.catches (handler_from d k within).place)
range_from d l k within =
    let f = handler_from d k within in
    let leads = handler_leads d l f.place f.within in
    range_by _ _ _ _ (ap (label_address (after_of d)) f.from ∙ leads.start) (ap (label_address (after_of d)) f.to ∙ leads.end)

turned : (q r : TryRange) → overlaps q r ≡ false → overlaps r q ≡ false
turned q r e = grind (arith, nat_tests)

apart_itself : (r : TryRange) → overlaps r r ≡ false
apart_itself r = grind (arith, nat_tests)

-- no two handlers have different ranges with an address in common
apart_at : (items : List Item) (catches : List Catch) (j k : ℕ) → AreApart items catches → j < length catches → k < length catches → overlaps (range_of items (catch_at catches j)) (range_of items (catch_at catches k)) ≡ false
apart_at items catches j k h left right = at (nat_lt j k) (nat_lt k j) refl refl
  where
    at : (b c : Bool) → nat_lt j k ≡ b → nat_lt k j ≡ c → overlaps (range_of items (catch_at catches j)) (range_of items (catch_at catches k)) ≡ false
    at true c e f = turned (range_of items (catch_at catches k)) (range_of items (catch_at catches j)) (h.apart j k (grind (arith, nat_tests)) right)
    at false true e f = h.apart k j (grind (arith, nat_tests)) left
    at false false e f =
        let same : k ≡ j = grind (arith, nat_tests) in
        ap (λ n. overlaps (range_of items (catch_at catches j)) (range_of items (catch_at catches n))) same ∙ apart_itself (range_of items (catch_at catches j))

none_taken : (p : TryRange → Bool) (items : List Item) (cs : List Catch) (k : ℕ) → ((j : ℕ) → j < length cs → p (range_of items (catch_at cs j)) ≡ false) → list_any p (take k (ranges_of items cs)) ≡ false
none_taken p items [] zero h = refl
none_taken p items [] (suc k) h = refl
none_taken p items (c ∷ cs) zero h = refl
none_taken p items (c ∷ cs) (suc k) h = cc (h 0 (omega arith), none_taken p items cs k (λ j within. h (suc j) (omega arith)))

-- ---- the refusals

full_again : (d : DraftValue) → IsLaidOut d → try_range (after_of d) (draft_of (layout d)).catches ≡ None
full_again d l =
    let cs = (draft_of (layout d)).catches in
    no_line (try_range_at (after_of d) cs) (length cs)
    (λ k within.
    let f = handler_from d k within in
    when_not (is_empty (range_of (after_of d) (catch_at cs k))) (catch_at cs k).line (ap is_empty (range_from d l k within) ∙ (are_apart d.items d.catches l.ranges).full f.place f.within))

apart_again : (d : DraftValue) → IsLaidOut d → try_overlap (after_of d) (draft_of (layout d)).catches ≡ None
apart_again d l =
    let cs = (draft_of (layout d)).catches in
    let after = after_of d in
    no_line (try_overlap_at after cs) (length cs)
    (λ k within.
    let f = handler_from d k within in
    when_not (overlaps_earlier after cs k) (catch_at cs k).line
    (none_taken (overlaps (range_of after (catch_at cs k))) after cs k
    (λ j earlier_within.
    let g = handler_from d j earlier_within in
    ap (λ q. overlaps q (range_of after (catch_at cs j))) (range_from d l k within) ∙
    (ap (overlaps (range_of d.items (catch_at d.catches f.place))) (range_from d l j earlier_within) ∙
    apart_at d.items d.catches f.place g.place (are_apart d.items d.catches l.ranges) f.within g.within))))

-- the ranges of the draft's handlers aren't refused
pub ranges_again : (d : DraftValue) → IsLaidOut d → range_refusal (after_of d) (draft_of (layout d)).catches ≡ None
ranges_again d l = cc (full_again d l, apart_again d l)
