-- The text of a raw body has its lines.
use Rattle.std.proofs.Common.{◌≡◌, ℕ, suc, ◌+◌, ◌%◌, ◌<◌, ◌≤◌, ◌==◌, Bool, true, false, List, [], ◌∷◌, ◌++◌, map, length, All, Option, Some, None, IfSome, refl, sym, ◌∙◌, subst, arith, append-nil, append_assoc}
use Rattle.std.specs.Prelude.{codes, if◌then◌else◌}
use Rattle.std.specs.Fmt.{decimal}
use Rattle.std.specs.List.{flat_map}
use Rattle.std.proofs.lemmas.Bool.{eq-eqb, or_parts, true≢false}
use Rattle.std.proofs.lemmas.List.{map-append}
use Rattle.std.proofs.lemmas.List.Elements.{All-head, All-tail}
use Rattle.dv_defs.specs.declared.code.Handler.{Handler}
use Rattle.dv_defs.specs.declared.code.Try.{Try}
use Rattle.dv_defs.specs.declared.names.Ty.{Ty}
use Rattle.dv_defs.specs.Body.{BodyValue}
use Rattle.dv_names.specs.Descriptors.{descriptor}
use Rattle.dv_names.specs.Written.{field_text, hexadecimal, method_text, string_text}
use Rattle.dv_draft.specs.declared.draft.PoolRef.{PoolRef}
use Rattle.dv_draft.specs.declared.draft.PoolRef.TheVariants as pool
use Rattle.dv_print.specs.Draft.{registers_text}
use Rattle.dv_print.specs.Raw.{caught_text, field_ref_line, handler_line, method_ref_line, pools_text, raw_text, ref_line, string_line, try_lines, type_line, units_from, units_text}
use Rattle.dv_coderead.specs.declared.raw_line.RawHandler.{RawHandler}
use Rattle.dv_coderead.specs.Pieces.{Piece, AWord, AString}
use Rattle.law_listing.specs.Listable.{AreStringUnits, IsFieldText, IsMethodText, IsTypeText}
use Rattle.law_listing.specs.Printed.{HasPieces, HaveLines, NoLine, OneLine}
use Rattle.law_listing.specs.RawListable.{IsListedRaw}
use Rattle.law_listing.specs.RawPieces.{count_pieces, ends_line, handler_in, handler_pieces, handlers_in, handlers_of, raw_pieces, ref_pieces, refs_of, unit_lines, unit_pieces, units_pieces, with_unit}
use Rattle.law_listing.proofs.Lines.{lines_append, one_line, same_lines}
use Rattle.law_listing.proofs.Pieces.{last_string, last_word, word_blank}
use Rattle.law_listing.proofs.RawLines.{few}
use Rattle.law_listing.proofs.RawRead.{AreHandlers, IsRawHandler, handlers_are}
use Rattle.law_listing.proofs.Words.{IsWordText, constant, decimal_word, field_ref_text, hexadecimal_word, method_ref_text, type_text}

-- ---- the count of registers

count_line : (n : ℕ) → n ≤ 256 → HaveLines (registers_text n) (count_pieces n ∷ [])
count_line n le =
    let begin = constant (codes ".registers") refl in
    let number = decimal_word n (omega arith) in
    one_line (codes ".registers " ++ decimal n) (count_pieces n)
    (word_blank (codes ".registers") (decimal n) (AWord (decimal n) ∷ []) begin.0 begin.1 (last_word (decimal n) number.0 number.1))

-- ---- entries of the pools

entry_line : (text : List ℕ) (p : Piece) → HasPieces text (p ∷ []) → HaveLines (ref_line text) ((AWord (codes ".rawref") ∷ p ∷ []) ∷ [])
entry_line text p has =
    let begin = constant (codes ".rawref") refl in
    one_line (codes ".rawref " ++ text) (AWord (codes ".rawref") ∷ p ∷ []) (word_blank (codes ".rawref") text (p ∷ []) begin.0 begin.1 has)

word_line : (w : List ℕ) → IsWordText w → HaveLines (ref_line w) ((AWord (codes ".rawref") ∷ AWord w ∷ []) ∷ [])
word_line w is = entry_line w (AWord w) (last_word w is.0 is.1)

-- entries of one kind, and what stands behind them
entries : {A : Type 0} (P : A → Type 0) (text : A → List ℕ) (ref : A → PoolRef) → ((x : A) → P x → HaveLines (text x) (ref_pieces (ref x) ∷ []))
    → (xs : List A) (rest : List ℕ) (refs : List PoolRef) → All P xs → HaveLines rest (map ref_pieces refs)
    → HaveLines (flat_map text xs ++ rest) (map ref_pieces (map ref xs ++ refs))
entries P text ref each [] rest refs are behind = behind
entries P text ref each (x ∷ xs) rest refs are behind =
    same_lines (flat_map text (x ∷ xs) ++ rest) (text x ++ (flat_map text xs ++ rest)) (map ref_pieces (map ref (x ∷ xs) ++ refs)) (append_assoc (text x) (flat_map text xs) rest)
    (lines_append (text x) (flat_map text xs ++ rest) (ref_pieces (ref x) ∷ []) (map ref_pieces (map ref xs ++ refs)) (each x (All-head P x xs are))
    (entries P text ref each xs rest refs (All-tail P x xs are) behind))

pools_grouped : (a b c d : List ℕ) → a ++ b ++ c ++ d ≡ a ++ (b ++ (c ++ (d ++ [])))
pools_grouped a b c d = simp (append_assoc, append-nil)

pools_lines : (b : BodyValue) → IsListedRaw b → HaveLines (pools_text b) (map ref_pieces (refs_of b))
pools_lines b is =
    let a = flat_map string_line b.strings in
    let t = flat_map type_line b.types in
    let f = flat_map field_ref_line b.fields in
    let m = flat_map method_ref_line b.methods in
    let methods : List PoolRef = map pool.Method b.methods in
    let last = entries IsMethodText method_ref_line pool.Method (λ x h. word_line (method_text x) (method_ref_text x h)) b.methods [] [] is.methods NoLine in
    let P : List PoolRef → Type 0 = λ rs. HaveLines (m ++ []) (map ref_pieces rs) in
    let fields = entries IsFieldText field_ref_line pool.Field (λ x h. word_line (field_text x) (field_ref_text x h)) b.fields (m ++ []) methods is.fields (subst P (append-nil methods) last) in
    let types = entries IsTypeText type_line pool.OfType (λ x h. word_line (descriptor x) (type_text x h)) b.types (f ++ (m ++ [])) (map pool.Field b.fields ++ methods) is.types fields in
    let strings = entries AreStringUnits string_line pool.Str (λ x h. entry_line (string_text x) (AString x) (last_string x h)) b.strings (t ++ (f ++ (m ++ []))) (map pool.OfType b.types ++ (map pool.Field b.fields ++ methods)) is.strings types in
    same_lines (pools_text b) (a ++ (t ++ (f ++ (m ++ [])))) (map ref_pieces (refs_of b)) (pools_grouped a t f m) strings

-- ---- units

-- a word in front of the first line
prefix_grouped : (w line rest : List ℕ) → (w ++ 32 ∷ []) ++ (line ++ 10 ∷ rest) ≡ (w ++ 32 ∷ line) ++ 10 ∷ rest
prefix_grouped w line rest = append_assoc w (32 ∷ []) (line ++ 10 ∷ rest) ∙ sym (append_assoc w (32 ∷ line) (10 ∷ rest))

prefix : (w text : List ℕ) (ps : List Piece) (pss : List (List Piece)) → IsWordText w → HaveLines text (ps ∷ pss) → HaveLines ((w ++ 32 ∷ []) ++ text) ((AWord w ∷ ps) ∷ pss)
prefix w text ps pss is (OneLine line rest qs more has lines) =
    same_lines ((w ++ 32 ∷ []) ++ (line ++ 10 ∷ rest)) ((w ++ 32 ∷ line) ++ 10 ∷ rest) ((AWord w ∷ qs) ∷ more) (prefix_grouped w line rest)
    (OneLine (w ++ 32 ∷ line) rest (AWord w ∷ qs) more (word_blank w line qs is.0 is.1 has) lines)

unit_in_front : (u : ℕ) (text : List ℕ) (uss : List (List ℕ)) → 0 < length uss → HaveLines text (map unit_pieces uss)
    → HaveLines ((hexadecimal u ++ 32 ∷ []) ++ text) (map unit_pieces (with_unit u uss))
unit_in_front u text [] some lines = absurd (omega arith)
unit_in_front u text (us ∷ uss) some lines = prefix (hexadecimal u) text (unit_pieces us) (map unit_pieces uss) (hexadecimal_word u) lines

with_unit_some : (u : ℕ) (uss : List (List ℕ)) → 0 < length (with_unit u uss)
with_unit_some u [] = omega arith
with_unit_some u (us ∷ uss) = omega arith

-- some units have a line
some_line : (count k u : ℕ) (us : List ℕ) → 0 < length (unit_lines count k (u ∷ us))
unfolding unit_lines
some_line count k u us = by (ends_line k count)
  where
    by : (t : Bool) → 0 < length (if t then (u ∷ []) ∷ unit_lines count (suc k) us else with_unit u (unit_lines count (suc k) us))
    by true = omega arith
    by false = with_unit_some u (unit_lines count (suc k) us)

-- the last unit ends its line
not_last : (count k : ℕ) (us : List ℕ) → count ≡ k + suc (length us) → ends_line k count ≡ false → 0 < length (unit_lines count (suc k) us)
not_last count k [] e goes_on =
    let here : suc k ≡ count = omega arith in
    let p = or_parts ((k % 8) == 7) (suc k == count) goes_on in
    let is : (suc k == count) ≡ true = eq-eqb (suc k) count here in
    absurd (true≢false (sym is ∙ p.1))
not_last count k (u ∷ us) e goes_on = some_line count (suc k) u us

no_lines : (count k : ℕ) → HaveLines [] (map unit_pieces (unit_lines count k []))
unfolding unit_lines
no_lines count k = NoLine

unit_lines_by : (t : Bool) (count k u : ℕ) (us text : List ℕ) → (t ≡ false → 0 < length (unit_lines count (suc k) us)) → HaveLines text (map unit_pieces (unit_lines count (suc k) us))
    → HaveLines ((hexadecimal u ++ (if t then 10 else 32) ∷ []) ++ text) (map unit_pieces (if t then (u ∷ []) ∷ unit_lines count (suc k) us else with_unit u (unit_lines count (suc k) us)))
unit_lines_by true count k u us text some lines =
    let word = hexadecimal_word u in
    lines_append (hexadecimal u ++ 10 ∷ []) text (unit_pieces (u ∷ []) ∷ []) (map unit_pieces (unit_lines count (suc k) us))
    (one_line (hexadecimal u) (unit_pieces (u ∷ [])) (last_word (hexadecimal u) word.0 word.1)) lines
unit_lines_by false count k u us text some lines = unit_in_front u text (unit_lines count (suc k) us) (some refl) lines

units_lines : (count k : ℕ) (us : List ℕ) → count ≡ k + length us → HaveLines (units_from count k us) (map unit_pieces (unit_lines count k us))
unfolding unit_lines
units_lines count k [] e = no_lines count k
units_lines count k (u ∷ us) e =
    unit_lines_by (ends_line k count) count k u us (units_from count (suc k) us) (not_last count k us e) (units_lines count (suc k) us (omega arith))

-- all of the units
ending_line : HaveLines (codes ".end units\n") ((AWord (codes ".end") ∷ AWord (codes "units") ∷ []) ∷ [])
ending_line =
    let begin = constant (codes ".end") refl in
    let second = constant (codes "units") refl in
    one_line (codes ".end units") (AWord (codes ".end") ∷ AWord (codes "units") ∷ [])
    (word_blank (codes ".end") (codes "units") (AWord (codes "units") ∷ []) begin.0 begin.1 (last_word (codes "units") second.0 second.1))

beginning_line : HaveLines (codes ".units\n") ((AWord (codes ".units") ∷ []) ∷ [])
beginning_line = let begin = constant (codes ".units") refl in one_line (codes ".units") (AWord (codes ".units") ∷ []) (last_word (codes ".units") begin.0 begin.1)

all_units_lines : (us : List ℕ) → HaveLines (units_text us) (units_pieces us)
all_units_lines us =
    let inside = units_from (length us) 0 us in
    let pieces = map unit_pieces (unit_lines (length us) 0 us) in
    let end : List (List Piece) = (AWord (codes ".end") ∷ AWord (codes "units") ∷ []) ∷ [] in
    same_lines (units_text us) (codes ".units\n" ++ (inside ++ codes ".end units\n")) (units_pieces us) (append_assoc (codes ".units\n") inside (codes ".end units\n"))
    (lines_append (codes ".units\n") (inside ++ codes ".end units\n") ((AWord (codes ".units") ∷ []) ∷ []) (pieces ++ end) beginning_line
    (lines_append inside (codes ".end units\n") pieces end (units_lines (length us) 0 us (omega arith)) ending_line))

-- ---- handlers

caught_word : (o : Option Ty) → IfSome o IsTypeText → IsWordText (caught_text o)
caught_word None is = constant (codes "all") refl
caught_word (Some t) is = type_text t is

handler_grouped : (begin start end at kind gap feed : List ℕ) → begin ++ start ++ gap ++ end ++ gap ++ at ++ gap ++ kind ++ feed
    ≡ (begin ++ (start ++ (gap ++ (end ++ (gap ++ (at ++ (gap ++ kind))))))) ++ feed
handler_grouped begin start end at kind gap feed = simp append_assoc

one_handler : (types : List Ty) (t : Try) (h : Handler) → IsRawHandler (handler_in types t h) → HaveLines (handler_line types t h) (handler_pieces (handler_in types t h) ∷ [])
one_handler types t h is =
    let read = handler_in types t h in
    let begin = constant (codes ".rawtry") refl in
    let start = decimal_word read.start (few read.start is.start) in
    let end = decimal_word read.end (few read.end is.end) in
    let at = decimal_word read.at (few read.at is.at) in
    let kind = caught_word read.kind is.kind in
    let kind_pieces : List Piece = AWord (caught_text read.kind) ∷ [] in
    let at_pieces : List Piece = AWord (decimal read.at) ∷ kind_pieces in
    let end_pieces : List Piece = AWord (decimal read.end) ∷ at_pieces in
    let start_pieces : List Piece = AWord (decimal read.start) ∷ end_pieces in
    let at_text = decimal read.at ++ 32 ∷ caught_text read.kind in
    let end_text = decimal read.end ++ 32 ∷ at_text in
    let start_text = decimal read.start ++ 32 ∷ end_text in
    let line = codes ".rawtry" ++ 32 ∷ start_text in
    same_lines (handler_line types t h) (line ++ 10 ∷ []) (handler_pieces read ∷ [])
    (handler_grouped (codes ".rawtry ") (decimal read.start) (decimal read.end) (decimal read.at) (caught_text read.kind) (codes " ") (codes "\n"))
    (one_line line (handler_pieces read)
    (word_blank (codes ".rawtry") start_text start_pieces begin.0 begin.1
    (word_blank (decimal read.start) end_text end_pieces start.0 start.1
    (word_blank (decimal read.end) at_text at_pieces end.0 end.1
    (word_blank (decimal read.at) (caught_text read.kind) kind_pieces at.0 at.1
    (last_word (caught_text read.kind) kind.0 kind.1))))))

module _ (types : List Ty) where
  of_one : (t : Try) (hs : List Handler) → AreHandlers (map (handler_in types t) hs) → HaveLines (flat_map (handler_line types t) hs) (map handler_pieces (map (handler_in types t) hs))
  of_one t [] are = NoLine
  of_one t (h ∷ hs) are =
      lines_append (handler_line types t h) (flat_map (handler_line types t) hs) (handler_pieces (handler_in types t h) ∷ []) (map handler_pieces (map (handler_in types t) hs))
      (one_handler types t h are.0) (of_one t hs are.1)

  -- handlers of one entry, and of the others
  are_first : (hs ks : List RawHandler) → AreHandlers (hs ++ ks) → AreHandlers hs × AreHandlers ks
  are_first [] ks are = (tt, are)
  are_first (h ∷ hs) ks are = let p = are_first hs ks are.1 in ((are.0, p.0), p.1)

  of_all : (ts : List Try) → AreHandlers (flat_map (handlers_in types) ts) → HaveLines (flat_map (try_lines types) ts) (map handler_pieces (flat_map (handlers_in types) ts))
  of_all [] are = NoLine
  of_all (t ∷ ts) are =
      let p = are_first (handlers_in types t) (flat_map (handlers_in types) ts) are in
      let P : List (List Piece) → Type 0 = λ pss. HaveLines (flat_map (try_lines types) (t ∷ ts)) pss in
      subst P (sym (map-append handler_pieces (handlers_in types t) (flat_map (handlers_in types) ts)))
      (lines_append (try_lines types t) (flat_map (try_lines types) ts) (map handler_pieces (handlers_in types t)) (map handler_pieces (flat_map (handlers_in types) ts))
      (of_one t t.handlers p.0) (of_all ts p.1))

-- ---- the body

body_grouped : (a b c d : List ℕ) → a ++ b ++ c ++ d ≡ a ++ (b ++ (c ++ d))
body_grouped a b c d = simp append_assoc

pub raw_lines : (b : BodyValue) → IsListedRaw b → HaveLines (raw_text b) (raw_pieces b)
raw_lines b is =
    let count = registers_text b.registers in
    let pools = pools_text b in
    let units = units_text b.units in
    let tries = flat_map (try_lines b.types) b.tries in
    let handlers = map handler_pieces (handlers_of b) in
    same_lines (raw_text b) (count ++ (pools ++ (units ++ tries))) (raw_pieces b) (body_grouped count pools units tries)
    (lines_append count (pools ++ (units ++ tries)) (count_pieces b.registers ∷ []) (map ref_pieces (refs_of b) ++ (units_pieces b.units ++ handlers)) (count_line b.registers is.body.few_registers)
    (lines_append pools (units ++ tries) (map ref_pieces (refs_of b)) (units_pieces b.units ++ handlers) (pools_lines b is)
    (lines_append units tries (units_pieces b.units) handlers (all_units_lines b.units) (of_all b.types b.tries (handlers_are b is)))))
