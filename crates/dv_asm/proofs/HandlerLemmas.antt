-- What is put together is a body: its units are few, and the kinds of its handlers are places in the pool of types.
use Rattle.std.proofs.Common.{◌≡◌, ◌≤◌, ◌<◌, ℕ, zero, suc, List, [], ◌∷◌, length, map, All, Option, Some, None, IfSome, position, refl, sym, ap, ◌∙◌, subst, arith}
use Rattle.std.proofs.lemmas.List.Quantifiers.{position-Some}
use Rattle.dv_defs.specs.declared.names.Ty.{Ty}
use Rattle.dv_defs.specs.declared.code.Try.{Try}
use Rattle.dv_defs.specs.Body.{KindIn, KindsIn, IsBody}
use Rattle.dv_defs.specs.Types.{of_base, ty_eq}
use Rattle.dv_defs.specs.declared.names.Base.TheVariants as base
use Rattle.dv_draft.specs.declared.draft.Item.{Item}
use Rattle.dv_draft.specs.declared.draft.Catch.{Catch}
use Rattle.dv_asm.specs.declared.tries.TryRange.{TryRange}
use Rattle.dv_asm.specs.Refusals.{too_long}
use Rattle.dv_draft.specs.declared.pools.Pools.{Pools}
use Rattle.dv_draft.specs.Pools.{pools_of}
use Rattle.dv_asm.specs.Layout.{handler_of, entry_of, catches_of, units_of, types_of, tries_of, sorted_ranges, with_kinds, body_with, body_of}
use Rattle.dv_asm.proofs.PlaceLemmas.{ends_within}
use Rattle.dv_asm.proofs.UnitLemmas.{units_within}

all_mapped : {X Y : Type 0} (P : Y → Type 0) (f : X → Y) → ((x : X) → P (f x)) → (xs : List X) → All P (map f xs)
all_mapped P f each [] k d below = absurd (omega arith)
all_mapped P f each (x ∷ xs) zero d below = each x
all_mapped P f each (x ∷ xs) (suc k) d below = all_mapped P f each xs k d (omega arith)

place_in : (types : List Ty) (t : Ty) (o : Option ℕ) → position (ty_eq t) types ≡ o → IfSome o (λ k. k < length types)
place_in types t None e = tt
place_in types t (Some k) e = (position-Some (ty_eq t) types k (of_base base.I) e).0

kind_in : (items : List Item) (types : List Ty) (c : Catch) (kind : Option Ty) → KindIn (length types) (handler_of items types (record { line = c.line; kind = kind; from = c.from; to = c.to; at = c.at }))
kind_in items types c None = tt
kind_in items types c (Some t) = place_in types t (position (ty_eq t) types) refl

pub kinds_in : (items : List Item) (catches : List Catch) (types : List Ty) (rs : List TryRange) → KindsIn (length types) (map (entry_of items catches types) rs)
kinds_in items catches types rs =
    let Fine : Try → Type 0 = λ t. All (KindIn (length types)) t.handlers in
    all_mapped Fine (entry_of items catches types) (λ r. all_mapped (KindIn (length types)) (handler_of items types) (λ c. kind_in items types c c.kind) (catches_of items catches r)) rs

pub is_body : (registers : ℕ) (items : List Item) (catches : List Catch) (pools : Pools) (rs : List TryRange) (units : List ℕ) (tries : List Try) (types : List Ty) → registers ≤ 256 → too_long items ≡ None → units ≡ units_of items pools (length items) → tries ≡ map (entry_of items catches types) rs → IsBody registers units tries types
is_body registers items catches pools rs units tries types few short is_units is_tries =
    let Kinds : List Try → Type 0 = λ ts. KindsIn (length types) ts in
    record {
      few_registers = few;
      short = omega (arith, ap length is_units, units_within items pools (length items), ends_within items short (length items) (omega arith));
      kinds = subst Kinds (sym is_tries) (kinds_in items catches types rs);
    }

-- the body that is put together is the one that the definition gives
pub is_layout : (registers : ℕ) (items : List Item) (catches : List Catch) (pools : Pools) (rs : List TryRange) (units : List ℕ) (tries : List Try) (types : List Ty) → pools ≡ pools_of items → rs ≡ sorted_ranges items catches → units ≡ units_of items pools (length items) → tries ≡ map (entry_of items catches types) rs → types ≡ with_kinds items catches pools.types rs → body_with registers units tries (record pools { types = types }) ≡ body_of registers items catches
unfolding body_of
is_layout registers items catches pools rs units tries types named sorted of_units of_tries of_types =
    let typed : types ≡ types_of items catches = of_types ∙ (λ i. with_kinds items catches (named i).types (sorted i)) in
    let united : units ≡ units_of items (pools_of items) (length items) = of_units ∙ ap (λ (p : Pools). units_of items p (length items)) named in
    let tried : tries ≡ tries_of items catches (types_of items catches) = of_tries ∙ (λ i. map (entry_of items catches (typed i)) (sorted i)) in
    λ i. body_with registers (united i) (tried i) (record (named i) { types = typed i })
