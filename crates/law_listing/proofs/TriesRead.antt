-- Try entries are read again handler by handler, and the types that they catch are those of the pool.
use Rattle.std.proofs.Common.{◌≡◌, ℕ, zero, suc, ◌+◌, ◌<◌, ◌&&◌, not, Bool, true, cond, List, [], ◌∷◌, ◌++◌, map, length, All, Option, Some, None, is_some, IsSome, IfSome, refl, sym, ap, ◌∙◌, subst, arith}
use Rattle.std.specs.Prelude.{position, nat_eq, nat_lt}
use Rattle.std.specs.Option.{option_and_then}
use Rattle.std.specs.List.{flat_map, list_all, slice_get, position_or_len}
use Rattle.std.proofs.lemmas.Bool.{and_from, and_parts, eq-eqb, lt-ltb, not-true}
use Rattle.std.proofs.lemmas.List.Elements.{All-head, All-tail}
use Rattle.dv_defs.specs.declared.code.Handler.{Handler}
use Rattle.dv_defs.specs.declared.code.Try.{Try}
use Rattle.dv_defs.specs.declared.names.Ty.{Ty}
use Rattle.dv_defs.specs.Body.{KindIn, KindsIn}
use Rattle.dv_defs.specs.Types.{ty_eq}
use Rattle.dv_draft.specs.Pools.{with_entry_if_any}
use Rattle.dv_print.proofs.Pools.Entries.{types_tell}
use Rattle.dv_coderead.specs.declared.raw_line.RawHandler.{RawHandler}
use Rattle.dv_coderead.specs.RawBodies.{and_entry, place_of_kind, raw_handler, raw_tries, with_caught}
use Rattle.law_listing.specs.Listable.{IsTypeText}
use Rattle.law_listing.specs.RawListable.{AreApart, AreTryEntries, IsApartFrom}
use Rattle.law_listing.specs.RawPieces.{handler_in, handlers_in}

-- ---- the place of what stands in a pool

all_at : {X : Type 0} (p : X → Bool) (xs : List X) (k : ℕ) (x : X) → list_all p xs ≡ true → slice_get xs k ≡ Some x → p x ≡ true
all_at p [] k x all is = absurd (cc)
all_at p (y ∷ ys) zero x all is = let same : y ≡ x = cc in subst (λ z. p z ≡ true) same (and_parts (p y) (list_all p ys) all).0
all_at p (y ∷ ys) (suc k) x all is = all_at p ys k x (and_parts (p y) (list_all p ys) all).1 is

first_at : {X : Type 0} (eq : X → X → Bool) → ((x : X) → eq x x ≡ true) → (xs : List X) (k : ℕ) (x : X) → AreApart eq xs → slice_get xs k ≡ Some x
    → (position_or_len (eq x) xs ≡ k) × (k < length xs)
first_at eq itself [] k x apart is = absurd (cc)
first_at eq itself (y ∷ ys) zero x apart is =
    let same : x ≡ y = cc in
    (ap (λ t. cond (not t) (1 + position_or_len (eq x) ys) 0) (ap (eq x) (sym same) ∙ itself x), omega arith)
first_at eq itself (y ∷ ys) (suc k) x apart is =
    let rest = first_at eq itself ys k x apart.1 is in
    let other = not-true (eq x y) (all_at (λ z. not (eq z y)) ys k x apart.0 is) in
    let e : position_or_len (eq x) ys ≡ k = rest.0 in
    (ap (λ t. cond (not t) (1 + position_or_len (eq x) ys) 0) other ∙ omega arith, omega (arith, rest.1))

place_at : {X : Type 0} (eq : X → X → Bool) → ((x : X) → eq x x ≡ true) → (xs : List X) (k : ℕ) (x : X) → AreApart eq xs → slice_get xs k ≡ Some x → position (eq x) xs ≡ Some k
place_at eq itself xs k x apart is =
    let p = first_at eq itself xs k x apart is in
    ap (λ n. cond (nat_lt n (length xs)) (Some n) None) p.0 ∙ ap (λ t. cond t (Some k) None) (lt-ltb k (length xs) p.1)

some_at : {X : Type 0} (xs : List X) (k : ℕ) → k < length xs → (x : X) × (slice_get xs k ≡ Some x)
some_at [] k lt = absurd (omega arith)
some_at (x ∷ xs) zero lt = (x, refl)
some_at (x ∷ xs) (suc k) lt = some_at xs k (omega arith)

-- ---- kinds

-- a type that stands in the pool
abbrev IsKnown : List Ty → Option Ty → Type 0
IsKnown types o = IfSome o (λ t. IsSome (position (ty_eq t) types))

module _ (types : List Ty) (apart : AreApart ty_eq types) where
  some_kind : (k : ℕ) (t : Ty) → slice_get types k ≡ Some t → position (ty_eq t) types ≡ Some k
  some_kind k t is = place_at ty_eq types_tell.itself types k t apart is

  -- a kind is its type's place
  kind_back : (o : Option ℕ) → IfSome o (λ k. k < length types) → place_of_kind types (option_and_then (slice_get types) o) ≡ o
  kind_back None within = refl
  kind_back (Some k) within = let x = some_at types k within in ap (place_of_kind types) x.1 ∙ some_kind k x.0 x.1

  kind_known : (o : Option ℕ) → IfSome o (λ k. k < length types) → IsKnown types (option_and_then (slice_get types) o)
  kind_known None within = tt
  kind_known (Some k) within = let x = some_at types k within in subst (IsKnown types) (sym x.1) (ap is_some (some_kind k x.0 x.1))

-- and its type can be printed
kind_in_text : (types : List Ty) (k : ℕ) (t : Ty) → All IsTypeText types → slice_get types k ≡ Some t → IsTypeText t
kind_in_text [] k t are is = absurd (cc)
kind_in_text (x ∷ xs) zero t are is = let same : x ≡ t = cc in subst IsTypeText same (All-head IsTypeText x xs are)
kind_in_text (x ∷ xs) (suc k) t are is = kind_in_text xs k t (All-tail IsTypeText x xs are) is

pub kind_text : (types : List Ty) (o : Option ℕ) → All IsTypeText types → IfSome o (λ k. k < length types) → IfSome (option_and_then (slice_get types) o) IsTypeText
kind_text types None are within = tt
kind_text types (Some k) are within =
    let x = some_at types k within in
    let P : Option Ty → Type 0 = λ o. IfSome o IsTypeText in
    subst P (sym x.1) (kind_in_text types k x.0 are x.1)

-- ---- what is caught adds nothing

known_kept : (types : List Ty) (o : Option Ty) → IsKnown types o → with_entry_if_any ty_eq types o ≡ types
known_kept types None known = refl
known_kept types (Some t) known = by (position (ty_eq t) types) known where
  by : (place : Option ℕ) → IsSome place → elim place [ None ↦ types ++ t ∷ [] | Some k ↦ types ] ≡ types
  by None some = absurd (cc)
  by (Some k) some = refl

abbrev pub AreKnown : List Ty → List RawHandler → Type 0
AreKnown types [] = Unit {0}
AreKnown types (h ∷ hs) = IsKnown types h.kind × AreKnown types hs

pub caught_kept : (types : List Ty) (hs : List RawHandler) → AreKnown types hs → with_caught types hs ≡ types
caught_kept types [] known = refl
caught_kept types (h ∷ hs) known = ap (λ ts. with_caught ts hs) (known_kept types h.kind known.0) ∙ caught_kept types hs known.1

known_append : (types : List Ty) (hs ks : List RawHandler) → AreKnown types hs → AreKnown types ks → AreKnown types (hs ++ ks)
known_append types [] ks a b = b
known_append types (h ∷ hs) ks a b = (a.0, known_append types hs ks a.1 b)

module _ (types : List Ty) (apart : AreApart ty_eq types) where
  handlers_known : (t : Try) (hs : List Handler) → All (KindIn (length types)) hs → AreKnown types (map (handler_in types t) hs)
  handlers_known t [] within = tt
  handlers_known t (h ∷ hs) within =
      (kind_known types apart h.kind (All-head (KindIn (length types)) h hs within), handlers_known t hs (All-tail (KindIn (length types)) h hs within))

  abbrev HasKinds : Try → Type 0
  HasKinds t = All (KindIn (length types)) t.handlers

  pub tries_known : (ts : List Try) → KindsIn (length types) ts → AreKnown types (flat_map (handlers_in types) ts)
  tries_known [] within = tt
  tries_known (t ∷ ts) within =
      known_append types (handlers_in types t) (flat_map (handlers_in types) ts)
      (handlers_known t t.handlers (All-head HasKinds t ts within)) (tries_known ts (All-tail HasKinds t ts within))

  -- ---- try entries

  handler_back : (t : Try) (h : Handler) → KindIn (length types) h → raw_handler types (handler_in types t h) ≡ h
  handler_back t h within = λ i. record { kind = kind_back types apart h.kind within i; at = h.at }

  abbrev entry_with : Try → List Handler → Try
  entry_with t hs = record { start = t.start; end = t.end; handlers = hs }

  itself : (t : Try) → nat_eq t.start t.start && nat_eq t.end t.end ≡ true
  itself t = and_from _ _ (eq-eqb t.start t.start refl) (eq-eqb t.end t.end refl)

  -- a handler before entries of other ranges, and before one of its own
  new_entry : (t : Try) (h : Handler) (us : List Try) → KindIn (length types) h → IsApartFrom t us → and_entry types (handler_in types t h) us ≡ entry_with t (h ∷ []) ∷ us
  new_entry t h [] within other = ap (λ x. entry_with t (x ∷ []) ∷ []) (handler_back t h within)
  new_entry t h (u ∷ us) within other = rw other (ap (λ x. entry_with t (x ∷ []) ∷ u ∷ us) (handler_back t h within))

  same_entry : (t : Try) (h : Handler) (hs : List Handler) (us : List Try) → KindIn (length types) h → and_entry types (handler_in types t h) (entry_with t hs ∷ us) ≡ entry_with t (h ∷ hs) ∷ us
  same_entry t h hs us within = rw (itself t) (ap (λ x. entry_with t (x ∷ hs) ∷ us) (handler_back t h within))

  entry_back : (t : Try) (h : Handler) (hs : List Handler) (rest : List RawHandler) (us : List Try) → All (KindIn (length types)) (h ∷ hs)
      → raw_tries types rest ≡ us → IsApartFrom t us → raw_tries types (map (handler_in types t) (h ∷ hs) ++ rest) ≡ entry_with t (h ∷ hs) ∷ us
  unfolding raw_tries
  entry_back t h [] rest us within behind other =
      ap (and_entry types (handler_in types t h)) behind ∙ new_entry t h us (All-head (KindIn (length types)) h [] within) other
  entry_back t h (k ∷ ks) rest us within behind other =
      ap (and_entry types (handler_in types t h)) (entry_back t k ks rest us (All-tail (KindIn (length types)) h (k ∷ ks) within) behind other)
      ∙ same_entry t h (k ∷ ks) us (All-head (KindIn (length types)) h (k ∷ ks) within)

  some_back : (t : Try) (hs : List Handler) (rest : List RawHandler) (us : List Try) → 0 < length hs → All (KindIn (length types)) hs
      → raw_tries types rest ≡ us → IsApartFrom t us → raw_tries types (map (handler_in types t) hs ++ rest) ≡ entry_with t hs ∷ us
  some_back t [] rest us some within behind other = absurd (omega arith)
  some_back t (h ∷ hs) rest us some within behind other = entry_back t h hs rest us within behind other

  no_tries : raw_tries types [] ≡ []
  unfolding raw_tries
  no_tries = refl

  pub tries_back : (ts : List Try) → AreTryEntries ts → KindsIn (length types) ts → raw_tries types (flat_map (handlers_in types) ts) ≡ ts
  tries_back [] are within = no_tries
  tries_back (t ∷ ts) are within =
      some_back t t.handlers (flat_map (handlers_in types) ts) ts are.0.some (All-head HasKinds t ts within) (tries_back ts are.2 (All-tail HasKinds t ts within)) are.1
