-- The lines of a raw body are read as that body.
use Rattle.std.proofs.Common.{◌≡◌, ℕ, suc, ◌+◌, ◌<◌, ◌≤◌, ◌^◌, Bool, true, false, List, [], ◌∷◌, ◌++◌, map, length, All, Ok, IfSome, refl, sym, ap, ◌∙◌, subst, arith, append-nil, append_assoc, length-append}
use Rattle.std.specs.Prelude.{codes, if◌then◌else◌}
use Rattle.std.specs.List.{flat_map, list_all}
use Rattle.std.proofs.lemmas.Bool.{and_from, and_parts}
use Rattle.std.proofs.lemmas.List.Elements.{All-head, All-tail}
use Rattle.dv_defs.specs.declared.code.Handler.{Handler}
use Rattle.dv_defs.specs.declared.code.Try.{Try}
use Rattle.dv_defs.specs.declared.names.Ty.{Ty}
use Rattle.dv_defs.specs.declared.names.FieldRef.{FieldRef}
use Rattle.dv_defs.specs.declared.names.MethodRef.{MethodRef}
use Rattle.dv_defs.specs.Body.{BodyValue, KindIn, KindsIn}
use Rattle.dv_defs.specs.Spelling.{AreUnits, fits_in}
use Rattle.dv_draft.specs.declared.draft.PoolRef.{PoolRef}
use Rattle.dv_draft.specs.declared.draft.PoolRef.TheVariants as pool
use Rattle.dv_draft.specs.Pools.{no_pools}
use Rattle.dv_coderead.specs.declared.raw_line.RawHandler.{RawHandler}
use Rattle.dv_coderead.specs.declared.raw_line.RawLine.{RawLine}
use Rattle.dv_coderead.specs.declared.raw_line.RawLine.TheVariants as line
use Rattle.dv_coderead.specs.declared.raw_line.RawPlace.{RawPlace}
use Rattle.dv_coderead.specs.declared.raw_line.RawPlace.TheVariants as place
use Rattle.dv_coderead.specs.Giving.{on_line, ◌>>>◌}
use Rattle.dv_coderead.specs.Laws.{TypesAreRead, FieldsAreRead, MethodsAreRead}
use Rattle.dv_coderead.specs.Pieces.{Piece, AWord}
use Rattle.dv_coderead.specs.RawBodies.{and_raw, place_behind, place_next, raw_body, raw_body_by, raw_body_from, raw_finished, raw_handlers, raw_refs, raw_registers, raw_told_by, raw_tries, raw_units, with_refs}
use Rattle.dv_coderead.specs.RawLines.{raw_line}
use Rattle.law_listing.specs.Listable.{AreStringUnits, IsFieldText, IsMethodText, IsTypeText}
use Rattle.law_listing.specs.Printed.{numbered}
use Rattle.law_listing.specs.RawListable.{AreTryEntries, IsListedRaw}
use Rattle.law_listing.specs.RawPieces.{count_pieces, ends_line, handler_in, handler_pieces, handlers_in, handlers_of, raw_pieces, ref_pieces, refs_of, unit_lines, unit_pieces, units_pieces, with_unit}
use Rattle.law_listing.proofs.PoolsRead.{pools_read}
use Rattle.law_listing.proofs.RawEntries.{field_entry, method_entry, string_entry, type_entry}
use Rattle.law_listing.proofs.RawLines.{begin_line, count_line, end_line, handler_line, ref_line, unit_line}
use Rattle.law_listing.proofs.TriesRead.{caught_kept, kind_text, tries_back, tries_known}

-- ---- line by line

told_none : (p : RawPlace) → raw_told_by p [] ≡ Ok []
unfolding raw_told_by
told_none p = refl

told_next : (p : RawPlace) (n : ℕ) (ps : List Piece) (pss : List (List Piece)) (l : RawLine) (ls : List RawLine) → raw_line p ps ≡ Ok l
    → raw_told_by (place_next p l) (numbered (n + 1) pss) ≡ Ok ls → raw_told_by p (numbered n (ps ∷ pss)) ≡ Ok (l ∷ ls)
unfolding raw_told_by
told_next p n ps pss l ls here behind =
    ap (λ r. on_line n r >>> λ s. and_raw s (raw_told_by (place_next p s) (numbered (n + 1) pss))) here ∙ ap (and_raw l) behind

-- ---- entries

-- an entry that can be printed
abbrev pub IsRef : PoolRef → Type 0
IsRef pool.None = ⊥
IsRef (pool.Str units) = AreStringUnits units
IsRef (pool.OfType t) = IsTypeText t
IsRef (pool.Field f) = IsFieldText f
IsRef (pool.Method m) = IsMethodText m

abbrev pub AreRefs : List PoolRef → Type 0
AreRefs [] = Unit {0}
AreRefs (r ∷ rs) = IsRef r × AreRefs rs

strings_are : (xs : List (List ℕ)) (rest : List PoolRef) → All AreStringUnits xs → AreRefs rest → AreRefs (map pool.Str xs ++ rest)
strings_are [] rest are others = others
strings_are (x ∷ xs) rest are others = (All-head AreStringUnits x xs are, strings_are xs rest (All-tail AreStringUnits x xs are) others)

types_are : (xs : List Ty) (rest : List PoolRef) → All IsTypeText xs → AreRefs rest → AreRefs (map pool.OfType xs ++ rest)
types_are [] rest are others = others
types_are (x ∷ xs) rest are others = (All-head IsTypeText x xs are, types_are xs rest (All-tail IsTypeText x xs are) others)

fields_are : (xs : List FieldRef) (rest : List PoolRef) → All IsFieldText xs → AreRefs rest → AreRefs (map pool.Field xs ++ rest)
fields_are [] rest are others = others
fields_are (x ∷ xs) rest are others = (All-head IsFieldText x xs are, fields_are xs rest (All-tail IsFieldText x xs are) others)

methods_are : (xs : List MethodRef) → All IsMethodText xs → AreRefs (map pool.Method xs)
methods_are [] are = tt
methods_are (x ∷ xs) are = (All-head IsMethodText x xs are, methods_are xs (All-tail IsMethodText x xs are))

pub refs_are : (b : BodyValue) → IsListedRaw b → AreRefs (refs_of b)
refs_are b is =
    strings_are b.strings (map pool.OfType b.types ++ (map pool.Field b.fields ++ map pool.Method b.methods)) is.strings
    (types_are b.types (map pool.Field b.fields ++ map pool.Method b.methods) is.types
    (fields_are b.fields (map pool.Method b.methods) is.fields (methods_are b.methods is.methods)))

module _ (types : TypesAreRead) (fields : FieldsAreRead) (methods : MethodsAreRead) where
  ref_told : (r : PoolRef) → IsRef r → raw_line place.Pools (ref_pieces r) ≡ Ok (line.Entry r)
  ref_told pool.None is = absurd is
  ref_told (pool.Str units) is = ref_line _ (pool.Str units) (string_entry units)
  ref_told (pool.OfType t) is = ref_line _ (pool.OfType t) (type_entry types t is)
  ref_told (pool.Field f) is = ref_line _ (pool.Field f) (field_entry fields f is)
  ref_told (pool.Method m) is = ref_line _ (pool.Method m) (method_entry methods m is)

  refs_told : (rs : List PoolRef) (pss : List (List Piece)) (ls : List RawLine) → AreRefs rs → ((m : ℕ) → raw_told_by place.Pools (numbered m pss) ≡ Ok ls)
      → (n : ℕ) → raw_told_by place.Pools (numbered n (map ref_pieces rs ++ pss)) ≡ Ok (map line.Entry rs ++ ls)
  refs_told [] pss ls are behind n = behind n
  refs_told (r ∷ rs) pss ls are behind n =
      told_next place.Pools n (ref_pieces r) (map ref_pieces rs ++ pss) (line.Entry r) (map line.Entry rs ++ ls) (ref_told r are.0) (refs_told rs pss ls are.1 behind (n + 1))

-- ---- units

abbrev pub all_units : List (List ℕ) → List ℕ
all_units uss = flat_map (λ us. us) uss

-- lines with one unit or more
abbrev pub AreUnitLines : List (List ℕ) → Type 0
AreUnitLines [] = Unit {0}
AreUnitLines ([] ∷ uss) = ⊥
AreUnitLines ((u ∷ us) ∷ uss) = AreUnits (u ∷ us) × AreUnitLines uss

with_unit_all : (u : ℕ) (uss : List (List ℕ)) → all_units (with_unit u uss) ≡ u ∷ all_units uss
with_unit_all u [] = refl
with_unit_all u (us ∷ uss) = refl

one_unit : (u : ℕ) → fits_in 16 u ≡ true → AreUnits (u ∷ [])
one_unit u fits = and_from _ _ fits refl

with_unit_lines : (u : ℕ) (uss : List (List ℕ)) → fits_in 16 u ≡ true → AreUnitLines uss → AreUnitLines (with_unit u uss)
with_unit_lines u [] fits are = (one_unit u fits, tt)
with_unit_lines u ([] ∷ uss) fits are = absurd are
with_unit_lines u ((v ∷ us) ∷ uss) fits are = (and_from _ _ fits are.0, are.1)

-- the lines have all units, in their order
units_kept : (count k : ℕ) (us : List ℕ) → all_units (unit_lines count k us) ≡ us
unfolding unit_lines
units_kept count k [] = refl
units_kept count k (u ∷ us) = by (ends_line k count) (units_kept count (suc k) us)
  where
    by : (t : Bool) → all_units (unit_lines count (suc k) us) ≡ us
        → all_units (if t then (u ∷ []) ∷ unit_lines count (suc k) us else with_unit u (unit_lines count (suc k) us)) ≡ u ∷ us
    by true rest = ap (λ l. u ∷ l) rest
    by false rest = with_unit_all u (unit_lines count (suc k) us) ∙ ap (λ l. u ∷ l) rest

pub lines_are : (count k : ℕ) (us : List ℕ) → AreUnits us → AreUnitLines (unit_lines count k us)
unfolding unit_lines
lines_are count k [] are = tt
lines_are count k (u ∷ us) are =
    let p = and_parts (fits_in 16 u) (list_all (λ n. fits_in 16 n) us) are in
    by (ends_line k count) p.0 (lines_are count (suc k) us p.1)
  where
    by : (t : Bool) → fits_in 16 u ≡ true → AreUnitLines (unit_lines count (suc k) us)
        → AreUnitLines (if t then (u ∷ []) ∷ unit_lines count (suc k) us else with_unit u (unit_lines count (suc k) us))
    by true fits rest = (one_unit u fits, rest)
    by false fits rest = with_unit_lines u (unit_lines count (suc k) us) fits rest

units_told : (uss : List (List ℕ)) (before : ℕ) (pss : List (List Piece)) (ls : List RawLine) → AreUnitLines uss → before + length (all_units uss) ≤ 16384
    → ((m : ℕ) → raw_told_by (place.Units (before + length (all_units uss))) (numbered m pss) ≡ Ok ls)
    → (n : ℕ) → raw_told_by (place.Units before) (numbered n (map unit_pieces uss ++ pss)) ≡ Ok (map line.Units uss ++ ls)
units_told [] before pss ls are few behind n =
    let e : before + 0 ≡ before = omega arith in
    let P : ℕ → Type 0 = λ k. raw_told_by (place.Units k) (numbered n pss) ≡ Ok ls in
    subst P e (behind n)
units_told ([] ∷ uss) before pss ls are few behind n = absurd are
units_told ((u ∷ us) ∷ uss) before pss ls are few behind n =
    let here = u ∷ us in
    let e : before + length here + length (all_units uss) ≡ before + length (here ++ all_units uss) = omega (arith, length-append here (all_units uss)) in
    let P : ℕ → Type 0 = λ k. (m : ℕ) → raw_told_by (place.Units k) (numbered m pss) ≡ Ok ls in
    let rest = units_told uss (before + length here) pss ls are.1 (omega (arith, e)) (subst P (sym e) behind) (n + 1) in
    told_next (place.Units before) n (unit_pieces here) (map unit_pieces uss ++ pss) (line.Units here) (map line.Units uss ++ ls)
    (unit_line before u us are.0 (omega (arith, length-append here (all_units uss)))) rest

-- ---- handlers

pub record IsRawHandler (h : RawHandler) : Type 0 where
  pub start : h.start < 2 ^ 32
  pub end : h.end < 2 ^ 32
  pub at : h.at < 2 ^ 32
  pub kind : IfSome h.kind IsTypeText

abbrev pub AreHandlers : List RawHandler → Type 0
AreHandlers [] = Unit {0}
AreHandlers (h ∷ hs) = IsRawHandler h × AreHandlers hs

handlers_append : (hs ks : List RawHandler) → AreHandlers hs → AreHandlers ks → AreHandlers (hs ++ ks)
handlers_append [] ks a b = b
handlers_append (h ∷ hs) ks a b = (a.0, handlers_append hs ks a.1 b)

abbrev IsAt : Handler → Type 0
IsAt h = h.at < 2 ^ 32

module _ (types : List Ty) (are_types : All IsTypeText types) where
  of_one : (t : Try) (hs : List Handler) → t.start < 2 ^ 32 → t.end < 2 ^ 32 → All IsAt hs → All (KindIn (length types)) hs → AreHandlers (map (handler_in types t) hs)
  of_one t [] start end at within = tt
  of_one t (h ∷ hs) start end at within = (
    record { start = start; end = end; at = All-head IsAt h hs at; kind = kind_text types h.kind are_types (All-head (KindIn (length types)) h hs within) },
    of_one t hs start end (All-tail IsAt h hs at) (All-tail (KindIn (length types)) h hs within),
  )

  abbrev HasKinds : Try → Type 0
  HasKinds t = All (KindIn (length types)) t.handlers

  of_all : (ts : List Try) → AreTryEntries ts → KindsIn (length types) ts → AreHandlers (flat_map (handlers_in types) ts)
  of_all [] are within = tt
  of_all (t ∷ ts) are within =
      handlers_append (handlers_in types t) (flat_map (handlers_in types) ts)
      (of_one t t.handlers are.0.start are.0.end are.0.handlers (All-head HasKinds t ts within)) (of_all ts are.2 (All-tail HasKinds t ts within))

pub handlers_are : (b : BodyValue) → IsListedRaw b → AreHandlers (handlers_of b)
handlers_are b is = of_all b.types is.types b.tries is.tries is.body.kinds

handlers_told : TypesAreRead → (hs : List RawHandler) → AreHandlers hs → (n : ℕ) → raw_told_by place.Behind (numbered n (map handler_pieces hs)) ≡ Ok (map line.Handler hs)
handlers_told types [] are n = told_none place.Behind
handlers_told types (h ∷ hs) are n =
    told_next place.Behind n (handler_pieces h) (map handler_pieces hs) (line.Handler h) (map line.Handler hs)
    (handler_line types h are.0.start are.0.end are.0.at are.0.kind) (handlers_told types hs are.1 (n + 1))

-- ---- what all lines say

module _ (n : ℕ) (rs : List PoolRef) (uss : List (List ℕ)) (hs : List RawHandler) where
  abbrev behind_units : List RawLine
  behind_units = line.End ∷ map line.Handler hs

  abbrev behind_refs : List RawLine
  behind_refs = line.Begin ∷ (map line.Units uss ++ behind_units)

  abbrev said : List RawLine
  said = line.Registers n ∷ (map line.Entry rs ++ behind_refs)

-- where they end
handlers_end : (hs : List RawHandler) → place_behind place.Behind (map line.Handler hs) ≡ place.Behind
unfolding place_behind
handlers_end [] = refl
handlers_end (h ∷ hs) = handlers_end hs

units_end : (uss : List (List ℕ)) (before : ℕ) (hs : List RawHandler) → place_behind (place.Units before) (map line.Units uss ++ line.End ∷ map line.Handler hs) ≡ place.Behind
unfolding place_behind
units_end [] before hs = handlers_end hs
units_end (us ∷ uss) before hs = units_end uss (before + length us) hs

refs_end : (rs : List PoolRef) (ls : List RawLine) → place_behind place.Pools (map line.Entry rs ++ ls) ≡ place_behind place.Pools ls
unfolding place_behind
refs_end [] ls = refl
refs_end (r ∷ rs) ls = refs_end rs ls

said_end : (n : ℕ) (rs : List PoolRef) (uss : List (List ℕ)) (hs : List RawHandler) → place_behind place.Start (said n rs uss hs) ≡ place.Behind
unfolding place_behind
said_end n rs uss hs = refs_end rs (behind_refs n rs uss hs) ∙ units_end uss 0 hs

-- the count of registers
count_past_refs : (n : ℕ) (rs : List PoolRef) (ls : List RawLine) → raw_registers n (map line.Entry rs ++ ls) ≡ raw_registers n ls
unfolding raw_registers
count_past_refs n [] ls = refl
count_past_refs n (r ∷ rs) ls = count_past_refs n rs ls

count_past_units : (n : ℕ) (uss : List (List ℕ)) (ls : List RawLine) → raw_registers n (map line.Units uss ++ ls) ≡ raw_registers n ls
unfolding raw_registers
count_past_units n [] ls = refl
count_past_units n (us ∷ uss) ls = count_past_units n uss ls

count_past_handlers : (n : ℕ) (hs : List RawHandler) → raw_registers n (map line.Handler hs) ≡ n
unfolding raw_registers
count_past_handlers n [] = refl
count_past_handlers n (h ∷ hs) = count_past_handlers n hs

said_count : (n : ℕ) (rs : List PoolRef) (uss : List (List ℕ)) (hs : List RawHandler) → raw_registers 0 (said n rs uss hs) ≡ n
unfolding raw_registers
said_count n rs uss hs =
    count_past_refs n rs (behind_refs n rs uss hs) ∙ count_past_units n uss (behind_units n rs uss hs) ∙ count_past_handlers n hs

-- the entries
refs_first : (rs : List PoolRef) (ls : List RawLine) → raw_refs (map line.Entry rs ++ ls) ≡ rs ++ raw_refs ls
unfolding raw_refs
refs_first [] ls = refl
refs_first (r ∷ rs) ls = ap (λ l. r ∷ l) (refs_first rs ls)

no_refs_in_units : (uss : List (List ℕ)) (ls : List RawLine) → raw_refs (map line.Units uss ++ ls) ≡ raw_refs ls
unfolding raw_refs
no_refs_in_units [] ls = refl
no_refs_in_units (us ∷ uss) ls = no_refs_in_units uss ls

no_refs_in_handlers : (hs : List RawHandler) → raw_refs (map line.Handler hs) ≡ []
unfolding raw_refs
no_refs_in_handlers [] = refl
no_refs_in_handlers (h ∷ hs) = no_refs_in_handlers hs

said_refs : (n : ℕ) (rs : List PoolRef) (uss : List (List ℕ)) (hs : List RawHandler) → raw_refs (said n rs uss hs) ≡ rs
unfolding raw_refs
said_refs n rs uss hs =
    refs_first rs (behind_refs n rs uss hs)
    ∙ ap (λ l. rs ++ l) (no_refs_in_units uss (behind_units n rs uss hs) ∙ no_refs_in_handlers hs) ∙ append-nil rs

-- the units
no_units_in_refs : (rs : List PoolRef) (ls : List RawLine) → raw_units (map line.Entry rs ++ ls) ≡ raw_units ls
unfolding raw_units
no_units_in_refs [] ls = refl
no_units_in_refs (r ∷ rs) ls = no_units_in_refs rs ls

units_first : (uss : List (List ℕ)) (ls : List RawLine) → raw_units (map line.Units uss ++ ls) ≡ all_units uss ++ raw_units ls
unfolding raw_units
units_first [] ls = refl
units_first (us ∷ uss) ls = ap (λ l. us ++ l) (units_first uss ls) ∙ sym (append_assoc us (all_units uss) (raw_units ls))

no_units_in_handlers : (hs : List RawHandler) → raw_units (map line.Handler hs) ≡ []
unfolding raw_units
no_units_in_handlers [] = refl
no_units_in_handlers (h ∷ hs) = no_units_in_handlers hs

said_units : (n : ℕ) (rs : List PoolRef) (uss : List (List ℕ)) (hs : List RawHandler) → raw_units (said n rs uss hs) ≡ all_units uss
unfolding raw_units
said_units n rs uss hs =
    no_units_in_refs rs (behind_refs n rs uss hs) ∙ units_first uss (behind_units n rs uss hs)
    ∙ ap (λ l. all_units uss ++ l) (no_units_in_handlers hs) ∙ append-nil (all_units uss)

-- the handlers
no_handlers_in_refs : (rs : List PoolRef) (ls : List RawLine) → raw_handlers (map line.Entry rs ++ ls) ≡ raw_handlers ls
unfolding raw_handlers
no_handlers_in_refs [] ls = refl
no_handlers_in_refs (r ∷ rs) ls = no_handlers_in_refs rs ls

no_handlers_in_units : (uss : List (List ℕ)) (ls : List RawLine) → raw_handlers (map line.Units uss ++ ls) ≡ raw_handlers ls
unfolding raw_handlers
no_handlers_in_units [] ls = refl
no_handlers_in_units (us ∷ uss) ls = no_handlers_in_units uss ls

handlers_last : (hs : List RawHandler) → raw_handlers (map line.Handler hs) ≡ hs
unfolding raw_handlers
handlers_last [] = refl
handlers_last (h ∷ hs) = ap (λ l. h ∷ l) (handlers_last hs)

said_handlers : (n : ℕ) (rs : List PoolRef) (uss : List (List ℕ)) (hs : List RawHandler) → raw_handlers (said n rs uss hs) ≡ hs
unfolding raw_handlers
said_handlers n rs uss hs =
    no_handlers_in_refs rs (behind_refs n rs uss hs) ∙ no_handlers_in_units uss (behind_units n rs uss hs) ∙ handlers_last hs

-- ---- the body

abbrev lines_of : BodyValue → List RawLine
lines_of b = said b.registers (refs_of b) (unit_lines (length b.units) 0 b.units) (handlers_of b)

raw_body_is : (b : BodyValue) → IsListedRaw b → raw_body (lines_of b) ≡ b
raw_body_is b is =
    let uss = unit_lines (length b.units) 0 b.units in
    let hs = handlers_of b in
    let pools = pools_read b.strings b.types b.fields b.methods is.strings_apart is.types_apart is.fields_apart is.methods_apart in
    let kept = caught_kept b.types hs (tries_known b.types is.types_apart b.tries is.body.kinds) in
    let tries = tries_back b.types is.types_apart b.tries is.tries is.body.kinds in
    (λ i. raw_body_by (said_count b.registers (refs_of b) uss hs i) (with_refs no_pools (said_refs b.registers (refs_of b) uss hs i))
    (said_units b.registers (refs_of b) uss hs i) (said_handlers b.registers (refs_of b) uss hs i))
    ∙ ap (λ ps. raw_body_by b.registers ps (all_units uss) hs) pools
    ∙ (λ i. record {
      registers = b.registers;
      units = units_kept (length b.units) 0 b.units i;
      tries = raw_tries (kept i) hs;
      strings = b.strings;
      types = kept i;
      fields = b.fields;
      methods = b.methods;
      raw = sym is.raw i;
    })
    ∙ (λ i. record {
      registers = b.registers;
      units = b.units;
      tries = tries i;
      strings = b.strings;
      types = b.types;
      fields = b.fields;
      methods = b.methods;
      raw = b.raw;
    })

module _ (types : TypesAreRead) (fields : FieldsAreRead) (methods : MethodsAreRead) where
  lines_told : (b : BodyValue) → IsListedRaw b → (n : ℕ) → raw_told_by place.Start (numbered n (raw_pieces b)) ≡ Ok (lines_of b)
  lines_told b is n =
      let uss = unit_lines (length b.units) 0 b.units in
      let ending : List (List Piece) = (AWord (codes ".end") ∷ AWord (codes "units") ∷ []) ∷ [] in
      let handlers = map handler_pieces (handlers_of b) in
      let kept : all_units uss ≡ b.units = units_kept (length b.units) 0 b.units in
      let few : length b.units ≤ 16384 = is.body.short in
      let size : length (all_units uss) ≡ length b.units = ap length kept in
      let end = length (all_units uss) in
      let last : (m : ℕ) → raw_told_by (place.Units (0 + end)) (numbered m (ending ++ handlers)) ≡ Ok (line.End ∷ map line.Handler (handlers_of b)) =
      λ m. told_next (place.Units (0 + end)) m (AWord (codes ".end") ∷ AWord (codes "units") ∷ []) handlers line.End (map line.Handler (handlers_of b))
      (end_line (0 + end)) (handlers_told types (handlers_of b) (handlers_are b is) (m + 1)) in
      let units : (m : ℕ) → raw_told_by (place.Units 0) (numbered m (map unit_pieces uss ++ (ending ++ handlers))) ≡ Ok (map line.Units uss ++ line.End ∷ map line.Handler (handlers_of b)) =
      units_told uss 0 (ending ++ handlers) (line.End ∷ map line.Handler (handlers_of b)) (lines_are (length b.units) 0 b.units is.units) (omega (arith, size)) last in
      let grouped : (map unit_pieces uss ++ ending) ++ handlers ≡ map unit_pieces uss ++ (ending ++ handlers) = append_assoc (map unit_pieces uss) ending handlers in
      let begun : (m : ℕ) → raw_told_by place.Pools (numbered m (units_pieces b.units ++ handlers)) ≡ Ok (behind_refs b.registers (refs_of b) uss (handlers_of b)) =
      λ m. told_next place.Pools m (AWord (codes ".units") ∷ []) ((map unit_pieces uss ++ ending) ++ handlers) line.Begin (map line.Units uss ++ line.End ∷ map line.Handler (handlers_of b)) begin_line
      (ap (λ pss. raw_told_by (place.Units 0) (numbered (m + 1) pss)) grouped ∙ units (m + 1)) in
      told_next place.Start n (count_pieces b.registers) (map ref_pieces (refs_of b) ++ (units_pieces b.units ++ handlers)) (line.Registers b.registers)
      (map line.Entry (refs_of b) ++ behind_refs b.registers (refs_of b) uss (handlers_of b)) (count_line b.registers is.body.few_registers)
      (refs_told types fields methods (refs_of b) (units_pieces b.units ++ handlers) (behind_refs b.registers (refs_of b) uss (handlers_of b)) (refs_are b is) begun (n + 1))

  -- the lines are read as the body
  pub raw_read : (b : BodyValue) → IsListedRaw b → (past n : ℕ) → raw_body_from past 0 (numbered n (raw_pieces b)) ≡ Ok b
  raw_read b is past n =
      ap (λ r. r >>> λ ts. raw_finished past 0 (place_behind place.Start ts) (raw_body ts)) (lines_told b is n)
      ∙ ap (λ p. raw_finished past 0 p (raw_body (lines_of b))) (said_end b.registers (refs_of b) (unit_lines (length b.units) 0 b.units) (handlers_of b))
      ∙ ap Ok (raw_body_is b is)
