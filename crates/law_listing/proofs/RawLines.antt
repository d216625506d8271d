-- Each line of a raw body is read.
use Rattle.std.proofs.Common.{◌≡◌, ℕ, zero, suc, ◌+◌, ◌^◌, ◌<◌, ◌≤◌, true, false, List, [], ◌∷◌, ◌++◌, length, replicate, Option, Some, None, Ok, IfSome, refl, ap, ◌∙◌, arith}
use Rattle.std.specs.Prelude.{bytes_eq, codes, nat_le, nat_lt}
use Rattle.std.specs.Fmt.{decimal}
use Rattle.std.specs.List.{list_all}
use Rattle.std.proofs.lemmas.Bool.{and_parts, cond-true, cond-false, le-leb, lt-ltb, ltb-true}
use Rattle.dv_defs.specs.declared.names.Ty.{Ty}
use Rattle.dv_defs.specs.Spelling.{AreUnits, fits_in}
use Rattle.dv_defs.specs.declared.names.Base.{Base}
use Rattle.dv_defs.specs.declared.names.Base.TheVariants as base
use Rattle.dv_names.specs.Descriptors.{base_text, descriptor, IsBase}
use Rattle.dv_names.specs.Written.{hexadecimal}
use Rattle.dv_coderead.specs.declared.head.Head.{Head}
use Rattle.dv_coderead.specs.declared.head.Head.TheVariants as head
use Rattle.dv_coderead.specs.declared.raw_line.RawHandler.{RawHandler}
use Rattle.dv_coderead.specs.declared.raw_line.RawLine.TheVariants as line
use Rattle.dv_coderead.specs.declared.raw_line.RawPlace.TheVariants as place
use Rattle.dv_coderead.specs.Giving.{◌>>=◌}
use Rattle.dv_coderead.specs.BodyLines.{by_value, count_from, count_in}
use Rattle.dv_coderead.specs.Heads.{head_of}
use Rattle.dv_coderead.specs.Pieces.{Piece, AWord}
use Rattle.dv_coderead.specs.RawLines.{address_from, address_in, among_units, and_unit, begins_with_unit, caught_in, entry_by_shape, entry_line, few_units, is_unit, raw_handler_line, raw_line, raw_said, some_type, units_in, units_line}
use Rattle.dv_coderead.specs.Laws.{TypesAreRead}
use Rattle.dv_draft.specs.declared.draft.PoolRef.{PoolRef}
use Rattle.dv_print.specs.Raw.{caught_text}
use Rattle.law_listing.specs.Listable.{IsTypeText}
use Rattle.law_listing.specs.RawPieces.{count_pieces, handler_pieces, unit_piece, unit_pieces}
use Rattle.law_listing.proofs.DraftHeads.{registers_head}
use Rattle.law_listing.proofs.RawHeads.{IsOther, ref_head, try_head, unit_head, units_end_head, units_head}
use Rattle.law_listing.proofs.Words.{decimal_read, hexadecimal_digits, hexadecimal_value}

-- ---- numbers

-- 32 bits are few
pub few : (n : ℕ) → n < 2 ^ 32 → n < 10 ^ 64
few n lt = omega arith

count_read : (n : ℕ) → n ≤ 256 → count_in 0 (decimal n) ≡ Ok n
unfolding count_in
count_read n le =
    let r = decimal_read n (omega arith) in
    let sum : n + 0 ≡ n = omega arith in
    ap (by_value (count_from 0)) r.read ∙ ap (count_from 0) r.is ∙ cond-true (nat_le (n + 0) 256) _ _ (le-leb (n + 0) 256 (omega arith)) ∙ ap Ok sum

address_read : (n : ℕ) → n < 2 ^ 32 → address_in (decimal n) ≡ Ok n
unfolding address_in
address_read n lt =
    let r = decimal_read n (few n lt) in
    ap (by_value address_from) r.read ∙ ap address_from r.is ∙ cond-true (nat_lt n (2 ^ 32)) _ _ (lt-ltb n (2 ^ 32) lt)

-- ---- lines

-- the count of registers
pub count_line : (n : ℕ) → n ≤ 256 → raw_line place.Start (count_pieces n) ≡ Ok (line.Registers n)
unfolding raw_line
count_line n le = rw (registers_head (AWord (decimal n) ∷ [])) (rw (count_read n le) refl)

-- an entry of a pool
entry_read : (p : Piece) (r : PoolRef) → entry_by_shape p ≡ Ok r → entry_line (p ∷ []) ≡ Ok r
unfolding entry_line
entry_read p r e = rw e refl

pub ref_line : (p : Piece) (r : PoolRef) → entry_by_shape p ≡ Ok r → raw_line place.Pools (AWord (codes ".rawref") ∷ p ∷ []) ≡ Ok (line.Entry r)
unfolding raw_line
ref_line p r e = rw (ref_head (p ∷ [])) (ap (raw_said line.Entry) (entry_read p r e))

-- where the units begin and end
pub begin_line : raw_line place.Pools (AWord (codes ".units") ∷ []) ≡ Ok line.Begin
unfolding raw_line
begin_line = rw units_head refl

pub end_line : (before : ℕ) → raw_line (place.Units before) (AWord (codes ".end") ∷ AWord (codes "units") ∷ []) ≡ Ok line.End
unfolding raw_line
end_line before = rw units_end_head refl

-- units
is_unit_word : (u : ℕ) → is_unit (hexadecimal u) ≡ true
is_unit_word u = hexadecimal_digits u

unit_first : (u : ℕ) (ps : List Piece) → u < 65536 → units_in (unit_piece u ∷ ps) ≡ and_unit u (units_in ps)
unfolding units_in
unit_first u ps lt = cond-true (is_unit (hexadecimal u)) _ _ (is_unit_word u) ∙ ap (λ v. and_unit v (units_in ps)) (hexadecimal_value u lt)

no_unit : units_in [] ≡ Ok []
unfolding units_in
no_unit = refl

units_read : (us : List ℕ) → AreUnits us → units_in (unit_pieces us) ≡ Ok us
units_read [] are = no_unit
units_read (u ∷ us) are =
    let p = and_parts (fits_in 16 u) (list_all (λ n. fits_in 16 n) us) are in
    unit_first u (unit_pieces us) (ltb-true u (2 ^ 16) p.0) ∙ ap (and_unit u) (units_read us p.1)

few_read : (before : ℕ) (us : List ℕ) → AreUnits us → before + length us ≤ 16384 → units_line before (unit_pieces us) ≡ Ok us
unfolding units_line
few_read before us are le =
    ap (λ r. r >>= few_units before) (units_read us are) ∙ cond-true (nat_le (before + length us) 16384) _ _ (le-leb (before + length us) 16384 le)

among : (before : ℕ) (h : Head) (ps : List Piece) (us : List ℕ) → IsOther h → begins_with_unit ps ≡ true → units_line before ps ≡ Ok us
    → among_units before h ps ≡ Ok (line.Units us)
among before (head.Opcode op) ps us is begins read = rw begins (ap (raw_said line.Units) read)
among before head.Float ps us is begins read = rw begins (ap (raw_said line.Units) read)
among before head.Other ps us is begins read = rw begins (ap (raw_said line.Units) read)
among before h ps us is begins read = absurd is

among_line : (before : ℕ) (h : Head) (ps : List Piece) → raw_line (place.Units before) ps ≡ among_units before (head_of ps) ps
unfolding raw_line
among_line before h ps = refl

pub unit_line : (before u : ℕ) (us : List ℕ) → AreUnits (u ∷ us) → before + length (u ∷ us) ≤ 16384
    → raw_line (place.Units before) (unit_pieces (u ∷ us)) ≡ Ok (line.Units (u ∷ us))
unfolding raw_line
unit_line before u us are le =
    among before (head_of (unit_pieces (u ∷ us))) (unit_pieces (u ∷ us)) (u ∷ us) (unit_head u (unit_pieces us)) (is_unit_word u)
    (few_read before (u ∷ us) are le)

-- ---- handlers

-- no type is written `all`
base_is_not_all : (n : ℕ) (b : Base) → IsBase b → bytes_eq (replicate n 91 ++ base_text b) (codes "all") ≡ false
base_is_not_all (suc n) b is = refl
base_is_not_all zero base.Z is = refl
base_is_not_all zero base.B is = refl
base_is_not_all zero base.C is = refl
base_is_not_all zero base.S is = refl
base_is_not_all zero base.I is = refl
base_is_not_all zero base.J is = refl
base_is_not_all zero (base.Class name) is = ap (λ l. bytes_eq l (codes "all")) is.spelled

module _ (types : TypesAreRead) where
  caught_read : (o : Option Ty) → IfSome o IsTypeText → caught_in (caught_text o) ≡ Ok o
  unfolding caught_in
  caught_read None is = refl
  caught_read (Some t) is = cond-false (bytes_eq (descriptor t) (codes "all")) _ _ (base_is_not_all t.dims t.base is.0.1) ∙ ap some_type (types t is.0)

  handler_read : (h : RawHandler) → h.start < 2 ^ 32 → h.end < 2 ^ 32 → h.at < 2 ^ 32 → IfSome h.kind IsTypeText
      → raw_handler_line (AWord (decimal h.start) ∷ AWord (decimal h.end) ∷ AWord (decimal h.at) ∷ AWord (caught_text h.kind) ∷ []) ≡ Ok h
  unfolding raw_handler_line
  handler_read h start end at kind =
      rw (address_read h.start start) (rw (address_read h.end end) (rw (address_read h.at at) (rw (caught_read h.kind kind) refl)))

  pub handler_line : (h : RawHandler) → h.start < 2 ^ 32 → h.end < 2 ^ 32 → h.at < 2 ^ 32 → IfSome h.kind IsTypeText
      → raw_line place.Behind (handler_pieces h) ≡ Ok (line.Handler h)
  unfolding raw_line
  handler_line h start end at kind = rw (try_head _) (ap (raw_said line.Handler) (handler_read h start end at kind))
