-- The raw body that the lines of a method give can be listed.
use Rattle.std.proofs.Common.{◌≡◌, ℕ, ◌+◌, ◌^◌, ◌<◌, ◌≤◌, ◌==◌, ◌&&◌, Bool, true, false, cond, ℤ, pos, negsuc, nat_eq, List, [], ◌∷◌, ◌++◌, length, position, Option, Some, None, is_some, IfSome, Result, Ok, Err, IfOk, refl, sym, ap, subst, ◌∙◌, arith}
use Rattle.std.specs.Prelude.{bytes_eq, codes, nat_le, nat_lt, not}
use Rattle.std.specs.List.{All, list_all, position_or_len}
use Rattle.std.specs.Str.{IsUtf8}
use Rattle.std.proofs.lemmas.Bool.{and_from, and_parts, cond_both, eqb-true, leb-true, lt-ltb, ltb-false, ltb-true}
use Rattle.std.proofs.lemmas.List.{length-append}
use Rattle.std.proofs.lemmas.List.Elements.{All-nil, All-cons, All-head, All-push, All-tail, All-weaker}
use Rattle.std.proofs.lemmas.List.Folds.{list_all-append}
use Rattle.std.proofs.lemmas.List.Quantifiers.{position-Some}
use Rattle.dv_defs.specs.declared.code.Handler.{Handler}
use Rattle.dv_defs.specs.declared.code.Try.{Try}
use Rattle.dv_defs.specs.declared.faults.LineKind.{LineKind}
use Rattle.dv_defs.specs.declared.names.Base.TheVariants as base
use Rattle.dv_defs.specs.declared.names.Ty.{Ty}
use Rattle.dv_defs.specs.Body.{BodyValue, KindIn, KindsIn}
use Rattle.dv_defs.specs.Spelling.{AreUnits}
use Rattle.dv_defs.specs.Types.{of_base, ty_eq}
use Rattle.dv_draft.specs.declared.draft.PoolRef.{PoolRef}
use Rattle.dv_draft.specs.declared.draft.PoolRef.TheVariants as pool
use Rattle.dv_draft.specs.declared.pools.Pools.{Pools}
use Rattle.dv_draft.specs.Pools.{chars_in, field_in, method_in, no_pools, type_in, with_entries, with_entry_if_any, with_ref}
use Rattle.dv_defs.specs.Types.{field_eq, method_eq}
use Rattle.dv_defs.specs.Entries.{with_entry}
use Rattle.dv_lex.specs.declared.line.Stop.{Stop}
use Rattle.dv_lex.specs.Bytes.{is_hexadecimal}
use Rattle.dv_lex.specs.Numbers.{value_from}
use Rattle.dv_lex.proofs.Literals.Units.{digit_small}
use Rattle.dv_coderead.specs.declared.head.Block.TheVariants.{Units}
use Rattle.dv_coderead.specs.declared.head.Directive.TheVariants as directive
use Rattle.dv_coderead.specs.declared.head.Head.{Head}
use Rattle.dv_coderead.specs.declared.head.Head.TheVariants as head
use Rattle.dv_coderead.specs.declared.raw_line.RawHandler.{RawHandler}
use Rattle.dv_coderead.specs.declared.raw_line.RawLine.{RawLine}
use Rattle.dv_coderead.specs.declared.raw_line.RawLine.TheVariants as line
use Rattle.dv_coderead.specs.declared.raw_line.RawPlace.{RawPlace}
use Rattle.dv_coderead.specs.declared.raw_line.RawPlace.TheVariants as place
use Rattle.dv_coderead.specs.BodyLines.{count_in}
use Rattle.dv_coderead.specs.Heads.{head_of}
use Rattle.dv_coderead.specs.Kept.{TextLine}
use Rattle.dv_coderead.specs.Laws.{TypesAreRead, PrototypesAreRead}
use Rattle.dv_coderead.specs.Operands.{alone, after_first, ended, word_at}
use Rattle.dv_coderead.specs.Pieces.{Piece, AWord, AMark, AString, ACharacter}
use Rattle.dv_coderead.specs.RawBodies.{and_entry, and_handler, and_raw, and_ref, and_units, count_by, has_range, is_behind, kind_caught, place_behind, place_next, place_of_kind, raw_body, raw_body_from, raw_finished, raw_handler, raw_handlers, raw_refs, raw_registers, raw_told_by, raw_tries, raw_units, with_caught, with_refs}
use Rattle.dv_coderead.specs.RawLines.{AreFew, address_from, address_in, among_units, and_unit, begins_with_unit, by_arrow, caught_in, entry_by_shape, entry_here, entry_line, few_units, is_unit, last_line, member_in, pools_line, raw_handler_line, raw_line, raw_line_in, raw_registers_line, raw_said, some_type, start_line, units_in, units_line}
use Rattle.dv_coderead.specs.References.{cut_at, cut_at_arrow, field_in as field_word_in, method_in as method_word_in, type_in as type_word_in}
use Rattle.dv_coderead.specs.Words.{number_in}
use Rattle.law_listing.specs.Listable.{AreStringUnits, IsEntryText, IsFieldText, IsMethodText, IsTypeText}
use Rattle.law_listing.specs.RawListable.{AreApart, AreTryEntries, IsApartFrom, IsListedRaw, IsTryEntry}
use Rattle.law_listing.specs.ReadLaws.{AreLineTexts, ArePieceTexts, IsLineText, IsPieceText}
use Rattle.law_listing.proofs.RawRead.{IsRawHandler}
use Rattle.law_listing.proofs.ReadBody.{IsCount, any_ok, count_in_few, of_value, line_then, then_listed}
use Rattle.law_listing.proofs.ReadParts.{GivesPart, behind_text, behind_texts, either, of_alone, of_word, with_rest}
use Rattle.dv_coderead.proofs.FormedParts.{after_such}
use Rattle.law_listing.proofs.ReadWords.{field_word_text, method_word_text, type_word_text}
use Rattle.law_listing.proofs.Words.{four_value_from}
use Rattle.law_listing.proofs.ReadOps.{entry_made}

-- ---- entries

module _ (types : TypesAreRead) (protos : PrototypesAreRead) where
  member_listed : (w member : List ℕ) → IsUtf8 w → IfOk (member_in w member) IsEntryText
  member_listed w member u =
      either IsEntryText (is_some (cut_at 40 member)) _ _
      (entry_made IsMethodText pool.Method (method_word_in w) (λ m is. is) (method_word_text types protos w u))
      (entry_made IsFieldText pool.Field (field_word_in w) (λ f is. is) (field_word_text types protos w u))

  arrow_listed : (w : List ℕ) (o : Option (List ℕ × List ℕ)) → IsUtf8 w → IfOk (by_arrow w o) IsEntryText
  arrow_listed w None u = entry_made IsTypeText pool.OfType (type_word_in w) (λ t is. is) (type_word_text types w u)
  arrow_listed w (Some parts) u = member_listed w parts.1 u

  shape_listed : (p : Piece) → IsPieceText p → IfOk (entry_by_shape p) IsEntryText
  unfolding entry_by_shape
  shape_listed (AWord w) is = arrow_listed w (cut_at_arrow w) is
  shape_listed (AMark b) is = tt
  shape_listed (AString units) is = is
  shape_listed (ACharacter unit) is = tt

  here_listed : (ps : List Piece) → ArePieceTexts ps → GivesPart IsEntryText (entry_here ps)
  here_listed [] are = tt
  here_listed (p ∷ ps) are = with_rest IsEntryText ps (entry_by_shape p) (behind_text p ps are) (shape_listed p (All-head IsPieceText p ps are))

  entry_listed : (ps : List Piece) → ArePieceTexts ps → IfOk (entry_line ps) IsEntryText
  unfolding entry_line
  entry_listed ps are = of_alone IsEntryText (entry_here ps) (here_listed ps are)

-- ---- units

unit_small : (w : List ℕ) → is_unit w ≡ true → value_from 16 0 w < 2 ^ 16
unit_small w e = let p = and_parts (length w == 4) (list_all is_hexadecimal w) e in by_size w (eqb-true (length w) 4 p.0) p.1
  where
    by_size : (v : List ℕ) → length v ≡ 4 → list_all is_hexadecimal v ≡ true → value_from 16 0 v < 2 ^ 16
    by_size [] size are = absurd (omega arith)
    by_size (a ∷ []) size are = absurd (omega arith)
    by_size (a ∷ b ∷ []) size are = absurd (omega arith)
    by_size (a ∷ b ∷ c ∷ []) size are = absurd (omega arith)
    by_size (a ∷ b ∷ c ∷ d ∷ []) size are =
        let p = and_parts (is_hexadecimal a) (list_all is_hexadecimal (b ∷ c ∷ d ∷ [])) are in
        let q = and_parts (is_hexadecimal b) (list_all is_hexadecimal (c ∷ d ∷ [])) p.1 in
        let r = and_parts (is_hexadecimal c) (list_all is_hexadecimal (d ∷ [])) q.1 in
        let s = and_parts (is_hexadecimal d) true r.1 in
        omega (arith, four_value_from a b c d, digit_small a p.0, digit_small b q.0, digit_small c r.0, digit_small d s.0)
    by_size (a ∷ b ∷ c ∷ d ∷ e ∷ v) size are = absurd (omega arith)

unit_more : (u : ℕ) (read : Result (List ℕ) LineKind) → u < 2 ^ 16 → IfOk read AreUnits → IfOk (and_unit u read) AreUnits
unit_more u (Ok us) small are = and_from _ _ (lt-ltb u (2 ^ 16) small) are
unit_more u (Err k) small are = tt

units_small : (ps : List Piece) → IfOk (units_in ps) AreUnits
unfolding units_in
units_small [] = refl
units_small (AWord w ∷ ps) =
    let P : Result (List ℕ) LineKind → Type 0 = λ r. IfOk r AreUnits in
    cond_both (is_unit w) _ _ P (λ e. unit_more (value_from 16 0 w) (units_in ps) (unit_small w e) (units_small ps)) (λ _. tt)
units_small (AMark b ∷ ps) = tt
units_small (AString units ∷ ps) = tt
units_small (ACharacter unit ∷ ps) = tt

-- units of 16 bits, which are few with so many before
abbrev IsUnitLine : ℕ → List ℕ → Type 0
IsUnitLine before us = AreUnits us × (before + length us ≤ 16384)

units_line_listed : (before : ℕ) (ps : List Piece) → IfOk (units_line before ps) (IsUnitLine before)
unfolding units_line
units_line_listed before ps =
    let P : Result (List ℕ) LineKind → Type 0 = λ r. IfOk r (IsUnitLine before) in
    after_such (IsUnitLine before) AreUnits (units_in ps) (few_units before) (units_small ps) (λ us small.
    cond_both (nat_le (before + length us) 16384) _ _ P (λ e. (small, leb-true (before + length us) 16384 e)) (λ _. tt))

-- ---- handlers

abbrev IsAddress : ℕ → Type 0
IsAddress n = n < 2 ^ 32

address_small : (z : ℤ) → IfOk (address_from z) IsAddress
address_small (pos n) =
    let P : Result ℕ LineKind → Type 0 = λ r. IfOk r IsAddress in
    cond_both (nat_lt n (2 ^ 32)) _ _ P (λ e. ltb-true n (2 ^ 32) e) (λ _. tt)
address_small (negsuc n) = tt

address_listed : (w : List ℕ) → IsUtf8 w → IfOk (address_in w) IsAddress
unfolding address_in
address_listed w u = of_value IsAddress address_from (number_in w) address_small

abbrev IsCaught : Option Ty → Type 0
IsCaught o = IfSome o IsTypeText

some_type_listed : (read : Result Ty LineKind) → IfOk read IsTypeText → IfOk (some_type read) IsCaught
some_type_listed (Ok t) is = is
some_type_listed (Err k) is = tt

abbrev IsAddressPart : ℕ × List Piece → Type 0
IsAddressPart x = IsAddress x.0 × ArePieceTexts x.1

module _ (types : TypesAreRead) where
  caught_listed : (w : List ℕ) → IsUtf8 w → IfOk (caught_in w) IsCaught
  unfolding caught_in
  caught_listed w u = either IsCaught (bytes_eq w (codes "all")) _ _ tt (some_type_listed (type_word_in w) (type_word_text types w u))

  handler_listed : (ps : List Piece) → ArePieceTexts ps → IfOk (raw_handler_line ps) IsRawHandler
  unfolding raw_handler_line
  handler_listed ps are =
      after_such IsRawHandler IsAddressPart (word_at address_in ps) _ (of_word IsAddress address_in address_listed ps are) (λ start first.
      after_such IsRawHandler IsAddressPart (word_at address_in start.1) _ (of_word IsAddress address_in address_listed start.1 first.1) (λ end second.
      after_such IsRawHandler IsAddressPart (word_at address_in end.1) _ (of_word IsAddress address_in address_listed end.1 second.1) (λ at third.
      after_such IsRawHandler IsCaught (alone (word_at caught_in at.1)) _ (of_alone IsCaught (word_at caught_in at.1) (of_word IsCaught caught_in caught_listed at.1 third.1)) (λ caught named.
      record { start = first.0; end = second.0; at = third.0; kind = named }))))

-- ---- lines, each where it stands

data IsListedAt : RawPlace → RawLine → Type 0 where
  ACount : (n : ℕ) → n ≤ 256 → IsListedAt place.Start (line.Registers n)
  AnEntry : (r : PoolRef) → IsEntryText r → IsListedAt place.Pools (line.Entry r)
  TheBegin : IsListedAt place.Pools line.Begin
  SomeUnits : (before : ℕ) (us : List ℕ) → IsUnitLine before us → IsListedAt (place.Units before) (line.Units us)
  TheEnd : (before : ℕ) → IsListedAt (place.Units before) line.End
  AHandler : (h : RawHandler) → IsRawHandler h → IsListedAt place.Behind (line.Handler h)

said_listed : {A : Type 0} (p : RawPlace) (P : A → Type 0) (f : A → RawLine) (read : Result A LineKind) → ((x : A) → P x → IsListedAt p (f x)) → IfOk read P → IfOk (raw_said f read) (IsListedAt p)
said_listed p P f (Ok x) goes is = goes x is
said_listed p P f (Err k) goes is = tt

count_listed : (ps : List Piece) → ArePieceTexts ps → IfOk (raw_registers_line ps) IsCount
count_listed ps are = of_alone IsCount (word_at (count_in 0) ps) (of_word IsCount (count_in 0) (count_in_few 0) ps are)

start_listed : (h : Head) (ps : List Piece) → ArePieceTexts ps → IfOk (start_line h ps) (IsListedAt place.Start)
start_listed (head.Directive directive.Registers) ps are = said_listed place.Start IsCount line.Registers (raw_registers_line (after_first ps)) ACount (count_listed (after_first ps) (behind_texts ps are))
start_listed h ps are = tt

units_listed : (before : ℕ) (h : Head) (ps : List Piece) → ArePieceTexts ps → IfOk (among_units before h ps) (IsListedAt (place.Units before))
units_listed before (head.Directive (directive.End Units)) ps are =
    said_listed (place.Units before) (λ _. Unit {0}) (λ nothing. line.End) (ended (after_first (after_first ps))) (λ _ is. TheEnd before) (any_ok (ended (after_first (after_first ps))))
units_listed before h ps are =
    either (IsListedAt (place.Units before)) (begins_with_unit ps) _ _
    (said_listed (place.Units before) (IsUnitLine before) line.Units (units_line before ps) (SomeUnits before) (units_line_listed before ps)) tt

module _ (types : TypesAreRead) (protos : PrototypesAreRead) where
  pools_listed : (h : Head) (ps : List Piece) → ArePieceTexts ps → IfOk (pools_line h ps) (IsListedAt place.Pools)
  pools_listed (head.Directive directive.Rawref) ps are =
      said_listed place.Pools IsEntryText line.Entry (entry_line (after_first ps)) AnEntry (entry_listed types protos (after_first ps) (behind_texts ps are))
  pools_listed (head.Directive (directive.Begin Units)) ps are =
      said_listed place.Pools (λ _. Unit {0}) (λ nothing. line.Begin) (ended (after_first ps)) (λ _ is. TheBegin) (any_ok (ended (after_first ps)))
  pools_listed h ps are = tt

  last_listed : (h : Head) (ps : List Piece) → ArePieceTexts ps → IfOk (last_line h ps) (IsListedAt place.Behind)
  last_listed (head.Directive directive.Rawtry) ps are =
      said_listed place.Behind IsRawHandler line.Handler (raw_handler_line (after_first ps)) AHandler (handler_listed types (after_first ps) (behind_texts ps are))
  last_listed (head.Directive (directive.Begin Units)) ps are = tt
  last_listed h ps are = tt

  place_listed : (p : RawPlace) (h : Head) (ps : List Piece) → ArePieceTexts ps → IfOk (raw_line_in p h ps) (IsListedAt p)
  place_listed place.Start h ps are = start_listed h ps are
  place_listed place.Pools h ps are = pools_listed h ps are
  place_listed (place.Units before) h ps are = units_listed before h ps are
  place_listed place.Behind h ps are = last_listed h ps are

  raw_line_listed : (p : RawPlace) (ps : List Piece) → ArePieceTexts ps → IfOk (raw_line p ps) (IsListedAt p)
  unfolding raw_line
  raw_line_listed p ps are = place_listed p (head_of ps) ps are

-- ---- all lines

abbrev AreListedFrom : RawPlace → List RawLine → Type 0
AreListedFrom p [] = Unit {0}
AreListedFrom p (l ∷ ls) = IsListedAt p l × AreListedFrom (place_next p l) ls

raw_more : (p : RawPlace) (s : RawLine) (read : Result (List RawLine) Stop) → IsListedAt p s → IfOk read (AreListedFrom (place_next p s)) → IfOk (and_raw s read) (AreListedFrom p)
raw_more p s (Ok ls) is are = (is, are)
raw_more p s (Err e) is are = tt

module _ (types : TypesAreRead) (protos : PrototypesAreRead) where
  raw_told_listed : (p : RawPlace) (ls : List TextLine) → AreLineTexts ls → IfOk (raw_told_by p ls) (AreListedFrom p)
  unfolding raw_told_by
  raw_told_listed p [] are = tt
  raw_told_listed p (l ∷ ls) are =
      line_then (IsListedAt p) (AreListedFrom p) l.number (raw_line p l.pieces) _ (raw_line_listed types protos p l.pieces (All-head IsLineText l ls are)) (λ s is.
      raw_more p s (raw_told_by (place_next p s) ls) is (raw_told_listed (place_next p s) ls (All-tail IsLineText l ls are)))

-- ---- the parts of a body

-- what a line says, wherever it stands
abbrev IsListedRawLine : RawLine → Type 0
IsListedRawLine (line.Registers n) = n ≤ 256
IsListedRawLine (line.Entry r) = IsEntryText r
IsListedRawLine line.Begin = Unit {0}
IsListedRawLine (line.Units us) = AreUnits us
IsListedRawLine line.End = Unit {0}
IsListedRawLine (line.Handler h) = IsRawHandler h

anywhere : (p : RawPlace) (l : RawLine) → IsListedAt p l → IsListedRawLine l
anywhere p l (ACount n few) = few
anywhere p l (AnEntry r is) = is
anywhere p l TheBegin = tt
anywhere p l (SomeUnits before us is) = is.0
anywhere p l (TheEnd before) = tt
anywhere p l (AHandler h is) = is

all_anywhere : (p : RawPlace) (ls : List RawLine) → AreListedFrom p ls → All IsListedRawLine ls
all_anywhere p [] are = All-nil IsListedRawLine
all_anywhere p (l ∷ ls) are = All-cons IsListedRawLine l ls (anywhere p l are.0) (all_anywhere (place_next p l) ls are.1)

one_count : (l : RawLine) (n : ℕ) → IsListedRawLine l → n ≤ 256 → count_by l n ≤ 256
one_count (line.Registers m) n is few = is
one_count l n is few = few

registers_few : (n : ℕ) (ls : List RawLine) → All IsListedRawLine ls → n ≤ 256 → raw_registers n ls ≤ 256
unfolding raw_registers
registers_few n [] are few = few
registers_few n (l ∷ ls) are few = registers_few (count_by l n) ls (All-tail IsListedRawLine l ls are) (one_count l n (All-head IsListedRawLine l ls are) few)

one_ref : (l : RawLine) (rs : List PoolRef) → IsListedRawLine l → All IsEntryText rs → All IsEntryText (and_ref l rs)
one_ref (line.Entry r) rs is are = All-cons IsEntryText r rs is are
one_ref l rs is are = are

refs_listed : (ls : List RawLine) → All IsListedRawLine ls → All IsEntryText (raw_refs ls)
unfolding raw_refs
refs_listed [] are = All-nil IsEntryText
refs_listed (l ∷ ls) are = one_ref l (raw_refs ls) (All-head IsListedRawLine l ls are) (refs_listed ls (All-tail IsListedRawLine l ls are))

one_units : (l : RawLine) (vs : List ℕ) → IsListedRawLine l → AreUnits vs → AreUnits (and_units l vs)
one_units (line.Units us) vs is are = list_all-append (λ n. nat_lt n (2 ^ 16)) us vs ∙ and_from _ _ is are
one_units l vs is are = are

all_units : (ls : List RawLine) → All IsListedRawLine ls → AreUnits (raw_units ls)
unfolding raw_units
all_units [] are = refl
all_units (l ∷ ls) are = one_units l (raw_units ls) (All-head IsListedRawLine l ls are) (all_units ls (All-tail IsListedRawLine l ls are))

one_handler : (l : RawLine) (hs : List RawHandler) → IsListedRawLine l → All IsRawHandler hs → All IsRawHandler (and_handler l hs)
one_handler (line.Handler h) hs is are = All-cons IsRawHandler h hs is are
one_handler l hs is are = are

handlers_listed : (ls : List RawLine) → All IsListedRawLine ls → All IsRawHandler (raw_handlers ls)
unfolding raw_handlers
handlers_listed [] are = All-nil IsRawHandler
handlers_listed (l ∷ ls) are = one_handler l (raw_handlers ls) (All-head IsListedRawLine l ls are) (handlers_listed ls (All-tail IsListedRawLine l ls are))

-- ---- how many units there are

-- as many as stand behind a place
abbrev FitBehind : RawPlace → ℕ → Type 0
FitBehind place.Start n = n ≤ 16384
FitBehind place.Pools n = n ≤ 16384
FitBehind (place.Units before) n = before + n ≤ 16384
FitBehind place.Behind n = n ≡ 0

no_units_fit : (p : RawPlace) → AreFew p → FitBehind p 0
no_units_fit place.Start few = omega arith
no_units_fit place.Pools few = omega arith
no_units_fit (place.Units before) few = omega arith
no_units_fit place.Behind few = refl

next_few : (p : RawPlace) (l : RawLine) → IsListedAt p l → AreFew p → AreFew (place_next p l)
next_few p l (ACount n small) few = tt
next_few p l (AnEntry r is) few = tt
next_few p l TheBegin few = omega arith
next_few p l (SomeUnits before us is) few = is.1
next_few p l (TheEnd before) few = tt
next_few p l (AHandler h is) few = tt

line_fits : (p : RawPlace) (l : RawLine) (vs : List ℕ) → IsListedAt p l → AreFew p → FitBehind (place_next p l) (length vs) → FitBehind p (length (and_units l vs))
line_fits p l vs (ACount n small) few fit = fit
line_fits p l vs (AnEntry r is) few fit = fit
line_fits p l vs TheBegin few fit = omega arith
line_fits p l vs (SomeUnits before us is) few fit = omega (arith, length-append us vs)
line_fits p l vs (TheEnd before) few fit = omega arith
line_fits p l vs (AHandler h is) few fit = fit

units_fit : (p : RawPlace) (ls : List RawLine) → AreListedFrom p ls → AreFew p → FitBehind p (length (raw_units ls))
unfolding raw_units
units_fit p [] are few = no_units_fit p few
units_fit p (l ∷ ls) are few = line_fits p l (raw_units ls) are.0 few (units_fit (place_next p l) ls are.1 (next_few p l are.0 few))

-- ---- pools

-- entries that can be listed, each once
record IsPool {X : Type 0} (P : X → Type 0) (eq : X → X → Bool) (xs : List X) : Type 0 where
  each : All P xs
  apart : AreApart eq xs

-- no element passes where none is found
nowhere_by : {X : Type 0} (p : X → Bool) (x : X) (xs : List X) (t : Bool) → not (p x) ≡ t → (length xs ≤ position_or_len p xs → list_all (λ y. not (p y)) xs ≡ true)
    → length (x ∷ xs) ≤ position_or_len p (x ∷ xs) → list_all (λ y. not (p y)) (x ∷ xs) ≡ true
nowhere_by p x xs true e rest le =
    let here : position_or_len p (x ∷ xs) ≡ 1 + position_or_len p xs = ap (λ t. cond t (1 + position_or_len p xs) 0) e in
    and_from _ _ e (rest (omega arith))
nowhere_by p x xs false e rest le =
    let here : position_or_len p (x ∷ xs) ≡ 0 = ap (λ t. cond t (1 + position_or_len p xs) 0) e in
    absurd (omega arith)

nowhere : {X : Type 0} (p : X → Bool) (xs : List X) → length xs ≤ position_or_len p xs → list_all (λ x. not (p x)) xs ≡ true
nowhere p [] le = refl
nowhere p (x ∷ xs) le = nowhere_by p x xs (not (p x)) refl (nowhere p xs) le

-- an entry that is not equal to any before stands apart at their end
apart_more : {X : Type 0} (eq : X → X → Bool) (xs : List X) (x : X) → AreApart eq xs → list_all (λ y. not (eq x y)) xs ≡ true → AreApart eq (xs ++ x ∷ [])
apart_more eq [] x apart new = (refl, tt)
apart_more eq (y ∷ ys) x apart new =
    let p = and_parts (not (eq x y)) (list_all (λ z. not (eq x z)) ys) new in
    (list_all-append (λ z. not (eq z y)) ys (x ∷ []) ∙ and_from _ _ apart.0 (and_from _ _ p.0 refl), apart_more eq ys x apart.1 p.1)

-- the entries by where this one is found among them
abbrev entry_from : {X : Type 0} → List X → X → Option ℕ → List X
entry_from xs x None = xs ++ x ∷ []
entry_from xs x (Some k) = xs

module _ {X : Type 0} (P : X → Type 0) (eq : X → X → Bool) where
  no_entry : IsPool P eq []
  no_entry = record { each = All-nil P; apart = tt }

  entry_by : (xs : List X) (x : X) (t : Bool) → nat_lt (position_or_len (eq x) xs) (length xs) ≡ t → P x → IsPool P eq xs → IsPool P eq (with_entry eq xs x)
  entry_by xs x true e is are =
      let found : with_entry eq xs x ≡ xs = ap (λ t. entry_from xs x (cond t (Some (position_or_len (eq x) xs)) None)) e in
      subst (IsPool P eq) (sym found) are
  entry_by xs x false e is are =
      let added : with_entry eq xs x ≡ xs ++ x ∷ [] = ap (λ t. entry_from xs x (cond t (Some (position_or_len (eq x) xs)) None)) e in
      subst (IsPool P eq) (sym added)
      (record { each = All-push P xs x are.each is; apart = apart_more eq xs x are.apart (nowhere (eq x) xs (ltb-false _ _ e)) })

  entry_added : (xs : List X) (o : Option X) → IfSome o P → IsPool P eq xs → IsPool P eq (with_entry_if_any eq xs o)
  entry_added xs None is are = are
  entry_added xs (Some x) is are = entry_by xs x _ refl is are

  entries_added : {Y : Type 0} (entry_of : Y → Option X) (xs : List X) (ys : List Y) → All (λ y. IfSome (entry_of y) P) ys → IsPool P eq xs → IsPool P eq (with_entries eq entry_of xs ys)
  entries_added entry_of xs [] named are = are
  entries_added entry_of xs (y ∷ ys) named are =
      entries_added entry_of (with_entry_if_any eq xs (entry_of y)) ys (All-tail (λ z. IfSome (entry_of z) P) y ys named)
      (entry_added xs (entry_of y) (All-head (λ z. IfSome (entry_of z) P) y ys named) are)

record ArePools (ps : Pools) : Type 0 where
  strings : IsPool AreStringUnits bytes_eq ps.strings
  types : IsPool IsTypeText ty_eq ps.types
  fields : IsPool IsFieldText field_eq ps.fields
  methods : IsPool IsMethodText method_eq ps.methods

chars_listed : (r : PoolRef) → IsEntryText r → IfSome (chars_in r) AreStringUnits
chars_listed (pool.Str units) is = is
chars_listed r is = tt

type_listed : (r : PoolRef) → IsEntryText r → IfSome (type_in r) IsTypeText
type_listed (pool.OfType t) is = is
type_listed r is = tt

field_listed : (r : PoolRef) → IsEntryText r → IfSome (field_in r) IsFieldText
field_listed (pool.Field f) is = is
field_listed r is = tt

method_listed : (r : PoolRef) → IsEntryText r → IfSome (method_in r) IsMethodText
method_listed (pool.Method m) is = is
method_listed r is = tt

ref_added : (ps : Pools) (r : PoolRef) → IsEntryText r → ArePools ps → ArePools (with_ref ps r)
ref_added ps r is are = record {
  strings = entry_added AreStringUnits bytes_eq ps.strings (chars_in r) (chars_listed r is) are.strings;
  types = entry_added IsTypeText ty_eq ps.types (type_in r) (type_listed r is) are.types;
  fields = entry_added IsFieldText field_eq ps.fields (field_in r) (field_listed r is) are.fields;
  methods = entry_added IsMethodText method_eq ps.methods (method_in r) (method_listed r is) are.methods;
}

refs_added : (ps : Pools) (rs : List PoolRef) → All IsEntryText rs → ArePools ps → ArePools (with_refs ps rs)
refs_added ps [] named are = are
refs_added ps (r ∷ rs) named are = refs_added (with_ref ps r) rs (All-tail IsEntryText r rs named) (ref_added ps r (All-head IsEntryText r rs named) are)

nothing_pooled : ArePools no_pools
nothing_pooled = record {
  strings = no_entry AreStringUnits bytes_eq;
  types = no_entry IsTypeText ty_eq;
  fields = no_entry IsFieldText field_eq;
  methods = no_entry IsMethodText method_eq;
}

-- ---- the types that handlers catch are places in the pool of types

module _ (types : List Ty) where
  place_by : (t : Ty) (o : Option ℕ) → position (ty_eq t) types ≡ o → IfSome o (λ k. k < length types)
  place_by t None e = tt
  place_by t (Some k) e = (position-Some (ty_eq t) types k (of_base base.I) e).0

  place_in : (kind : Option Ty) → IfSome (place_of_kind types kind) (λ k. k < length types)
  place_in None = tt
  place_in (Some t) = place_by t (position (ty_eq t) types) refl

  -- ---- try entries

  abbrev Kinds : Try → Type 0
  Kinds t = All (KindIn (length types)) t.handlers

  abbrev IsAt : Handler → Type 0
  IsAt h = h.at < 2 ^ 32

  own_kind : (h : RawHandler) (hs : List Handler) → All (KindIn (length types)) hs → All (KindIn (length types)) (raw_handler types h ∷ hs)
  own_kind h hs are = All-cons (KindIn (length types)) (raw_handler types h) hs (place_in h.kind) are

  entry_kinds : (h : RawHandler) (ts : List Try) → All Kinds ts → All Kinds (and_entry types h ts)
  entry_kinds h [] are = All-cons Kinds _ [] (own_kind h [] (All-nil (KindIn (length types)))) (All-nil Kinds)
  entry_kinds h (t ∷ ts) are =
      cond_both (has_range h t) _ _ (All Kinds)
      (λ _. All-cons Kinds _ ts (own_kind h t.handlers (All-head Kinds t ts are)) (All-tail Kinds t ts are))
      (λ _. All-cons Kinds _ (t ∷ ts) (own_kind h [] (All-nil (KindIn (length types)))) are)

  kinds_in : (hs : List RawHandler) → KindsIn (length types) (raw_tries types hs)
  unfolding raw_tries
  kinds_in [] = All-nil Kinds
  kinds_in (h ∷ hs) = entry_kinds h (raw_tries types hs) (kinds_in hs)

  -- a handler before others of its entry
  own_entry : (h : RawHandler) (hs : List Handler) → IsRawHandler h → All IsAt hs → IsTryEntry (record { start = h.start; end = h.end; handlers = raw_handler types h ∷ hs })
  own_entry h hs is are = record { start = is.start; end = is.end; some = omega arith; handlers = All-cons IsAt (raw_handler types h) hs is.at are }

  -- what is apart from an entry is apart from another of its range
  apart_as : (t u : Try) (ts : List Try) → u.start ≡ t.start → u.end ≡ t.end → IsApartFrom t ts → IsApartFrom u ts
  apart_as t u [] start end apart = tt
  apart_as t u (v ∷ vs) start end apart = (λ i. nat_eq v.start (start i) && nat_eq v.end (end i)) ∙ apart

  entry_listed_by : (h : RawHandler) (ts : List Try) → IsRawHandler h → AreTryEntries ts → AreTryEntries (and_entry types h ts)
  entry_listed_by h [] is are = (own_entry h [] is (All-nil IsAt), tt, tt)
  entry_listed_by h (t ∷ ts) is are =
      cond_both (has_range h t) _ _ AreTryEntries
      (λ e.
      let p = and_parts (nat_eq t.start h.start) (nat_eq t.end h.end) e in
      let start = sym (eqb-true t.start h.start p.0) in
      let end = sym (eqb-true t.end h.end p.1) in
      (own_entry h t.handlers is are.0.handlers, apart_as t (record { start = h.start; end = h.end; handlers = raw_handler types h ∷ t.handlers }) ts start end are.1, are.2))
      (λ e. (own_entry h [] is (All-nil IsAt), e, are))

  tries_listed : (hs : List RawHandler) → All IsRawHandler hs → AreTryEntries (raw_tries types hs)
  unfolding raw_tries
  tries_listed [] are = tt
  tries_listed (h ∷ hs) are = entry_listed_by h (raw_tries types hs) (All-head IsRawHandler h hs are) (tries_listed hs (All-tail IsRawHandler h hs are))

-- ---- the body

caught_kinds : (hs : List RawHandler) → All IsRawHandler hs → All (λ h. IfSome (kind_caught h) IsTypeText) hs
caught_kinds hs are = All-weaker IsRawHandler (λ h. IfSome (kind_caught h) IsTypeText) (λ h is. is.kind) hs are

raw_body_listed : (ls : List RawLine) → AreListedFrom place.Start ls → IsListedRaw (raw_body ls)
raw_body_listed ls are =
    let each = all_anywhere place.Start ls are in
    let handlers = handlers_listed ls each in
    let pools = refs_added no_pools (raw_refs ls) (refs_listed ls each) nothing_pooled in
    let own = with_refs no_pools (raw_refs ls) in
    let types = entries_added IsTypeText ty_eq kind_caught own.types (raw_handlers ls) (caught_kinds (raw_handlers ls) handlers) pools.types in
    record {
      raw = refl;
      body = record { few_registers = registers_few 0 ls each (omega arith); short = units_fit place.Start ls are tt; kinds = kinds_in (with_caught own.types (raw_handlers ls)) (raw_handlers ls) };
      units = all_units ls each;
      strings = pools.strings.each;
      types = types.each;
      fields = pools.fields.each;
      methods = pools.methods.each;
      strings_apart = pools.strings.apart;
      types_apart = types.apart;
      fields_apart = pools.fields.apart;
      methods_apart = pools.methods.apart;
      tries = tries_listed (with_caught own.types (raw_handlers ls)) (raw_handlers ls) handlers;
    }

finished_listed : (past annotations : ℕ) (ls : List RawLine) → AreListedFrom place.Start ls → IfOk (raw_finished past annotations (place_behind place.Start ls) (raw_body ls)) IsListedRaw
finished_listed past annotations ls are =
    let P : Result BodyValue Stop → Type 0 = λ r. IfOk r IsListedRaw in
    cond_both (is_behind (place_behind place.Start ls) && nat_eq annotations 0) _ _ P (λ _. raw_body_listed ls are) (λ _. tt)

pub raw_listed : TypesAreRead → PrototypesAreRead → (past annotations : ℕ) (ls : List TextLine) → AreLineTexts ls → IfOk (raw_body_from past annotations ls) IsListedRaw
raw_listed types protos past annotations ls are =
    then_listed (AreListedFrom place.Start) IsListedRaw (raw_told_by place.Start ls) _ (raw_told_listed types protos place.Start ls are) (finished_listed past annotations)
