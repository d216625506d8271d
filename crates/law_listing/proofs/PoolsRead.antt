-- Pools are read again entry by entry, and so are try entries handler by handler.
use Rattle.std.proofs.Common.{◌≡◌, ℕ, ◌+◌, not, Bool, true, cond, List, [], ◌∷◌, ◌++◌, map, length, Some, None, refl, sym, ap, ◌∙◌, arith, append-nil, append_assoc}
use Rattle.std.specs.Prelude.{bytes_eq, position}
use Rattle.std.specs.List.{list_all, position_or_len}
use Rattle.std.proofs.lemmas.Bool.{and_from, and_parts, le-ltb}
use Rattle.std.proofs.lemmas.List.Folds.{list_all-append}
use Rattle.dv_defs.specs.declared.names.Ty.{Ty}
use Rattle.dv_defs.specs.declared.names.FieldRef.{FieldRef}
use Rattle.dv_defs.specs.declared.names.MethodRef.{MethodRef}
use Rattle.dv_defs.specs.Types.{ty_eq}
use Rattle.dv_draft.specs.declared.draft.PoolRef.{PoolRef}
use Rattle.dv_draft.specs.declared.draft.PoolRef.TheVariants as pool
use Rattle.dv_draft.specs.declared.pools.Pools.{Pools}
use Rattle.dv_draft.specs.Pools.{no_pools, with_ref}
use Rattle.dv_defs.specs.Types.{field_eq, method_eq}
use Rattle.dv_defs.specs.Entries.{with_entry}
use Rattle.dv_coderead.specs.RawBodies.{with_refs}
use Rattle.law_listing.specs.RawListable.{AreApart}

-- ---- entries that stand once

-- no entry of the first list is equal to this one
abbrev IsNew : {X : Type 0} → (X → X → Bool) → List X → X → Type 0
IsNew eq xs y = list_all (λ x. not (eq y x)) xs ≡ true

abbrev AreNew : {X : Type 0} → (X → X → Bool) → List X → List X → Type 0
AreNew eq xs [] = Unit {0}
AreNew eq xs (y ∷ ys) = IsNew eq xs y × AreNew eq xs ys

-- where no element passes, the first that does is behind them all
none_passes : {X : Type 0} (p : X → Bool) (xs : List X) → list_all (λ x. not (p x)) xs ≡ true → position_or_len p xs ≡ length xs
none_passes p [] none = refl
none_passes p (x ∷ xs) none =
    let q = and_parts (not (p x)) (list_all (λ y. not (p y)) xs) none in
    let rest : position_or_len p xs ≡ length xs = none_passes p xs q.1 in
    ap (λ t. cond t (1 + position_or_len p xs) 0) q.0 ∙ omega arith

no_place : {X : Type 0} (p : X → Bool) (xs : List X) → list_all (λ x. not (p x)) xs ≡ true → position p xs ≡ None
no_place p xs none =
    let e = none_passes p xs none in
    ap (λ t. cond t (Some (position_or_len p xs)) None) (le-ltb (position_or_len p xs) (length xs) (omega (arith, e)))

entry_new : {X : Type 0} (eq : X → X → Bool) (xs : List X) (y : X) → IsNew eq xs y → with_entry eq xs y ≡ xs ++ y ∷ []
entry_new eq xs y new = rw (no_place (eq y) xs new, with_entry) refl

-- a new entry among those before
new_more : {X : Type 0} (eq : X → X → Bool) (xs : List X) (y : X) (ys : List X) → AreNew eq xs ys → list_all (λ z. not (eq z y)) ys ≡ true → AreNew eq (xs ++ y ∷ []) ys
new_more eq xs y [] new apart = tt
new_more eq xs y (z ∷ zs) new apart =
    let p = and_parts (not (eq z y)) (list_all (λ w. not (eq w y)) zs) apart in
    (list_all-append (λ x. not (eq z x)) xs (y ∷ []) ∙ and_from _ _ new.0 (and_from _ _ p.0 refl), new_more eq xs y zs new.1 p.1)

-- entries one after another
abbrev pub all_added : {X : Type 0} → (X → X → Bool) → List X → List X → List X
all_added eq xs [] = xs
all_added eq xs (y ∷ ys) = all_added eq (with_entry eq xs y) ys

all_new : {X : Type 0} (eq : X → X → Bool) (xs ys : List X) → AreNew eq xs ys → AreApart eq ys → all_added eq xs ys ≡ xs ++ ys
all_new eq xs [] new apart = sym (append-nil xs)
all_new eq xs (y ∷ ys) new apart =
    ap (λ l. all_added eq l ys) (entry_new eq xs y new.0) ∙ all_new eq (xs ++ y ∷ []) ys (new_more eq xs y ys new.1 apart.0) apart.1 ∙ append_assoc xs (y ∷ []) ys

nothing_before : {X : Type 0} (eq : X → X → Bool) (ys : List X) → AreNew eq [] ys
nothing_before eq [] = tt
nothing_before eq (y ∷ ys) = (refl, nothing_before eq ys)

pub added_again : {X : Type 0} (eq : X → X → Bool) (ys : List X) → AreApart eq ys → all_added eq [] ys ≡ ys
added_again eq ys apart = all_new eq [] ys (nothing_before eq ys) apart

-- ---- the four pools

abbrev pools_with : List (List ℕ) → List Ty → List FieldRef → List MethodRef → Pools
pools_with strings types fields methods = record { strings = strings; types = types; fields = fields; methods = methods }

module _ (rest : List PoolRef) where
  strings_added : (ps : Pools) (xs : List (List ℕ)) → with_refs ps (map pool.Str xs ++ rest) ≡ with_refs (pools_with (all_added bytes_eq ps.strings xs) ps.types ps.fields ps.methods) rest
  strings_added ps [] = refl
  strings_added ps (x ∷ xs) = strings_added (with_ref ps (pool.Str x)) xs

  types_added : (ps : Pools) (xs : List Ty) → with_refs ps (map pool.OfType xs ++ rest) ≡ with_refs (pools_with ps.strings (all_added ty_eq ps.types xs) ps.fields ps.methods) rest
  types_added ps [] = refl
  types_added ps (x ∷ xs) = types_added (with_ref ps (pool.OfType x)) xs

  fields_added : (ps : Pools) (xs : List FieldRef) → with_refs ps (map pool.Field xs ++ rest) ≡ with_refs (pools_with ps.strings ps.types (all_added field_eq ps.fields xs) ps.methods) rest
  fields_added ps [] = refl
  fields_added ps (x ∷ xs) = fields_added (with_ref ps (pool.Field x)) xs

methods_added : (ps : Pools) (xs : List MethodRef) → with_refs ps (map pool.Method xs) ≡ pools_with ps.strings ps.types ps.fields (all_added method_eq ps.methods xs)
methods_added ps [] = refl
methods_added ps (x ∷ xs) = methods_added (with_ref ps (pool.Method x)) xs

-- pools that have each entry once are read again
pub pools_read : (strings : List (List ℕ)) (types : List Ty) (fields : List FieldRef) (methods : List MethodRef)
    → AreApart bytes_eq strings → AreApart ty_eq types → AreApart field_eq fields → AreApart method_eq methods
    → with_refs no_pools (map pool.Str strings ++ (map pool.OfType types ++ (map pool.Field fields ++ map pool.Method methods))) ≡ pools_with strings types fields methods
pools_read strings types fields methods s t f m =
    let behind_strings = map pool.OfType types ++ (map pool.Field fields ++ map pool.Method methods) in
    let behind_types = map pool.Field fields ++ map pool.Method methods in
    let all_strings = all_added bytes_eq [] strings in
    let all_types = all_added ty_eq [] types in
    let all_fields = all_added field_eq [] fields in
    strings_added behind_strings no_pools strings ∙ types_added behind_types (pools_with all_strings [] [] []) types
    ∙ fields_added (map pool.Method methods) (pools_with all_strings all_types [] []) fields ∙ methods_added (pools_with all_strings all_types all_fields []) methods
    ∙ (λ i. pools_with (added_again bytes_eq strings s i) (added_again ty_eq types t i) (added_again field_eq fields f i) (added_again method_eq methods m i))
