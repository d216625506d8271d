-- The entries of handlers name each address that a handler names.
use Rattle.std.proofs.Common.{◌≡◌, ℕ, ◌<◌, zero, suc, Bool, true, false, inl, inr, List, [], ◌∷◌, length, map, nat_eq, cond, ap, ◌∙◌, arith}
use Rattle.std.specs.List.{flat_map, list_any}
use Rattle.std.proofs.lemmas.List.Folds.{list_any-append}
use Rattle.dv_defs.specs.declared.code.Try.{Try}
use Rattle.dv_defs.specs.declared.names.Ty.{Ty}
use Rattle.dv_draft.specs.declared.draft.Item.{Item}
use Rattle.dv_draft.specs.declared.draft.Catch.{Catch}
use Rattle.dv_asm.specs.declared.tries.TryRange.{TryRange}
use Rattle.dv_asm.specs.Places.{label_address}
use Rattle.dv_asm.specs.Refusals.{catch_at, range_of, is_same}
use Rattle.dv_asm.specs.Layout.{sorted_ranges, types_of, handler_of, catches_of, entry_of, tries_of}
use Rattle.dv_print.specs.Named.{handler_address, named_by_try, is_label_address}
use Rattle.dv_print.specs.Laws.{Among}
use Rattle.dv_print.proofs.Truth.{any_left, any_right, itself}
use Rattle.dv_asm.proofs.RangeLemmas.{same_itself}
use Rattle.dv_print.proofs.Ranges.KeptHandlers.{range_stands}

-- ---- the addresses that handlers name

in_entries : (test : ℕ → Bool) (entry_at : TryRange → Try) (rs : List TryRange) (r : TryRange) → Among r rs → list_any test (named_by_try (entry_at r)) ≡ true → list_any test (flat_map named_by_try (map entry_at rs)) ≡ true
in_entries test entry_at [] r at e = absurd at
in_entries test entry_at (s ∷ rs) r (inl same) e =
    list_any-append test (named_by_try (entry_at s)) (flat_map named_by_try (map entry_at rs)) ∙
    any_left _ _ (ap (λ q. list_any test (named_by_try (entry_at q))) same ∙ e)
in_entries test entry_at (s ∷ rs) r (inr at) e =
    list_any-append test (named_by_try (entry_at s)) (flat_map named_by_try (map entry_at rs)) ∙
    any_right (list_any test (named_by_try (entry_at s))) _ (in_entries test entry_at rs r at e)

-- the addresses at which the handlers of a range begin
abbrev begins_at : List Item → List Ty → List Catch → List ℕ
begins_at items types cs = map handler_address (map (handler_of items types) cs)

handler_by : (test : ℕ → Bool) (items : List Item) (types : List Ty) (b : Bool) (c : Catch) (cs : List Catch) → list_any test (begins_at items types cs) ≡ true → list_any test (begins_at items types (cond b (c ∷ cs) cs)) ≡ true
handler_by test items types true c cs e = any_right (test (label_address items c.at)) _ e
handler_by test items types false c cs e = e

in_handlers : (test : ℕ → Bool) (items : List Item) (types : List Ty) (r : TryRange) (cs : List Catch) (j : ℕ) → j < length cs → is_same (range_of items (catch_at cs j)) r ≡ true → test (label_address items (catch_at cs j).at) ≡ true → list_any test (begins_at items types (catches_of items cs r)) ≡ true
in_handlers test items types r [] j within same e = absurd (omega arith)
in_handlers test items types r (c ∷ cs) zero within same e =
    ap (λ b. list_any test (begins_at items types (cond b (c ∷ catches_of items cs r) (catches_of items cs r)))) same ∙ any_left (test (label_address items c.at)) _ e
in_handlers test items types r (c ∷ cs) (suc j) within same e =
    handler_by test items types (is_same (range_of items c) r) c (catches_of items cs r) (in_handlers test items types r cs j (omega arith) same e)

-- the addresses that the entries of handlers name
abbrev pub entry_names : List Item → List Catch → List ℕ
entry_names items catches = flat_map named_by_try (tries_of items catches (types_of items catches))

-- the entries name the addresses that a handler names
pub record IsNamedByEntries (items : List Item) (catches : List Catch) (c : Catch) : Type 0 where
  pub start : is_label_address (entry_names items catches) (label_address items c.from) ≡ true
  pub end : is_label_address (entry_names items catches) (label_address items c.to) ≡ true
  pub at : is_label_address (entry_names items catches) (label_address items c.at) ≡ true

-- each address that a handler names is among those that the entries name
pub handler_named : (items : List Item) (catches : List Catch) (j : ℕ) → j < length catches → IsNamedByEntries items catches (catch_at catches j)
handler_named items catches j within =
    let c = catch_at catches j in
    let types = types_of items catches in
    let rs = sorted_ranges items catches in
    let r = range_of items c in
    let stands : Among r rs = range_stands items catches j within in
    let test : ℕ → ℕ → Bool = λ address a. nat_eq a address in
    record {
      start = in_entries (test r.start) (entry_of items catches types) rs r stands (any_left _ _ (itself r.start));
      end = in_entries (test r.end) (entry_of items catches types) rs r stands (any_right (nat_eq r.start r.end) _ (any_left _ _ (itself r.end)));
      at = in_entries (test (label_address items c.at)) (entry_of items catches types) rs r stands
          (any_right (nat_eq r.start (label_address items c.at)) _ (any_right (nat_eq r.end (label_address items c.at)) _
          (in_handlers (test (label_address items c.at)) items types r catches j within (same_itself r) (itself (label_address items c.at)))));
    }
