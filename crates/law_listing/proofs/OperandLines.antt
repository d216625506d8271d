-- The text of an instruction is a line of its pieces.
use Rattle.std.proofs.Common.{◌≡◌, ℕ, ◌+◌, ◌-◌, ◌^◌, ◌<◌, ◌≤◌, Bool, true, false, ℤ, List, [], ◌∷◌, ◌++◌, map, length, All, Option, Some, None, refl, sym, subst, arith}
use Rattle.std.specs.Prelude.{codes, nat_eq, option_map, slice_index, unsigned_abs, if◌then◌else◌}
use Rattle.std.specs.Option.{option_to_list}
use Rattle.std.specs.Fmt.{decimal, signed_decimal}
use Rattle.std.specs.List.{flat_map}
use Rattle.std.proofs.lemmas.Bool.{eqb-false}
use Rattle.std.proofs.lemmas.List.{append_assoc}
use Rattle.std.proofs.lemmas.List.Elements.{All-head, All-tail}
use Rattle.dv_defs.specs.declared.code.Regs.{Regs}
use Rattle.dv_names.specs.Descriptors.{descriptor}
use Rattle.dv_names.specs.Written.{field_text, method_text}
use Rattle.dv_draft.specs.declared.draft.Draftop.{Draftop}
use Rattle.dv_draft.specs.declared.draft.PoolRef.{PoolRef}
use Rattle.dv_draft.specs.declared.draft.PoolRef.TheVariants as pool
use Rattle.dv_optable.specs.declared.format.Format.{Format}
use Rattle.dv_optable.specs.declared.format.Format.TheVariants.{F3rc}
use Rattle.dv_optable.specs.Table.{format_at}
use Rattle.dv_lex.specs.Bytes.{byte_class}
use Rattle.dv_lex.specs.Lexemes.{begins_plain}
use Rattle.dv_print.specs.declared.formats.Form.{Form}
use Rattle.dv_print.specs.declared.formats.Form.TheVariants as form
use Rattle.dv_print.specs.Operands.{form_in, name_of, register_text, registers_of, listed, braces_text, neighbours_text, register_operands, literal_operands, literal_text, label_text, pool_operands, operands, operands_text, insn_text, form_of, has_literal, is_wide}
use Rattle.dv_coderead.specs.Pieces.{Piece, AWord, AMark}
use Rattle.dv_coderead.specs.declared.shape.Literal.{Literal}
use Rattle.dv_coderead.specs.Operands.{literal_by, registers_in}
use Rattle.dv_coderead.proofs.FormedParts.{IsValue, is_range}
use Rattle.law_listing.specs.Printed.{HasPieces}
use Rattle.law_listing.specs.Listable.{IsEntryText, IsLabelText, IsListedOp}
use Rattle.law_listing.specs.OperandPieces.{braces_pieces, entry_pieces, insn_pieces, label_pieces, listed_pieces, neighbours_pieces, op_pieces, operand_pieces, register_pieces, registers_pieces}
use Rattle.law_listing.proofs.OpcodeNames.{name_text, name_word}
use Rattle.law_listing.proofs.OperandForms.{form_told}
use Rattle.law_listing.proofs.OperandsRead.{IsShort, fits_is_small, literal_short}
use Rattle.law_listing.proofs.Pieces.{IsFront, blank_ends, blank_front, brace_is, comma_is, end_brace_is, front_append, front_line, mark_ends, mark_front, no_front, string_front, word_front, more_text, more_ends}
use Rattle.law_listing.proofs.RegistersRead.{comma_before, IsRegister, all_take}
use Rattle.law_listing.proofs.Words.{IsWordText, constant, field_ref_text, method_ref_text, number_word, register_word, signed_word, type_text, label_text as label_word_text}

-- ---- operands with commas between

-- texts that hold these pieces, each
abbrev pub AreFronts : List (List ℕ) → List (List Piece) → Type 0
AreFronts [] [] = Unit {0}
AreFronts [] (p ∷ ps) = ⊥
AreFronts (x ∷ xs) [] = ⊥
AreFronts (x ∷ xs) (p ∷ ps) = IsFront x p × AreFronts xs ps

pub fronts_append : (xs ys : List (List ℕ)) (ps qs : List (List Piece)) → AreFronts xs ps → AreFronts ys qs → AreFronts (xs ++ ys) (ps ++ qs)
fronts_append [] ys [] qs a b = b
fronts_append [] ys (p ∷ ps) qs a b = absurd a
fronts_append (x ∷ xs) ys [] qs a b = absurd a
fronts_append (x ∷ xs) ys (p ∷ ps) qs a b = (a.0, fronts_append xs ys ps qs a.1 b)

behind_front : (xs : List (List ℕ)) (ps : List (List Piece)) → AreFronts xs ps → IsFront (more_text xs) (flat_map comma_before ps)
behind_front [] [] are = no_front
behind_front [] (p ∷ ps) are = absurd are
behind_front (x ∷ xs) [] are = absurd are
behind_front (x ∷ xs) (p ∷ ps) are =
    mark_front 44 (32 ∷ (x ++ more_text xs)) (p ++ flat_map comma_before ps) comma_is
    (blank_front (x ++ more_text xs) (p ++ flat_map comma_before ps)
    (front_append x (more_text xs) p (flat_map comma_before ps) (more_ends xs) are.0 (behind_front xs ps are.1)))

pub listed_front : (xs : List (List ℕ)) (ps : List (List Piece)) → AreFronts xs ps → IsFront (listed xs) (listed_pieces ps)
listed_front [] [] are = no_front
listed_front [] (p ∷ ps) are = absurd are
listed_front (x ∷ xs) [] are = absurd are
listed_front (x ∷ xs) (p ∷ ps) are = front_append x (more_text xs) p (flat_map comma_before ps) (more_ends xs) are.0 (behind_front xs ps are.1)

operands_front : (xs : List (List ℕ)) (ps : List (List Piece)) → AreFronts xs ps → IsFront (operands_text xs) (listed_pieces ps)
operands_front [] [] are = no_front
operands_front [] (p ∷ ps) are = absurd are
operands_front (x ∷ xs) [] are = absurd are
operands_front (x ∷ xs) (p ∷ ps) are = blank_front (listed (x ∷ xs)) (listed_pieces (p ∷ ps)) (listed_front (x ∷ xs) (p ∷ ps) are)

operands_end : (xs : List (List ℕ)) → begins_plain (operands_text xs) ≡ false
unfolding byte_class
operands_end [] = refl
operands_end (x ∷ xs) = refl

-- ---- registers

register_front : (n : ℕ) → IsRegister n → IsFront (register_text n) (register_pieces n)
register_front n is = let w = register_word n is in word_front (register_text n) w.0 w.1

register_fronts : (ns : List ℕ) → All IsRegister ns → AreFronts (map register_text ns) (map register_pieces ns)
register_fronts [] are = tt
register_fronts (n ∷ ns) are = (register_front n (All-head IsRegister n ns are), register_fronts ns (All-tail IsRegister n ns are))

end_brace_front : IsFront (125 ∷ []) (AMark 125 ∷ [])
end_brace_front = mark_front 125 [] [] end_brace_is no_front

braces_front : (r : Regs) → All IsRegister (registers_of r) → IsFront (braces_text r) (braces_pieces r)
braces_front r are =
    let inside = listed (map register_text (registers_of r)) in
    let pieces = listed_pieces (map register_pieces (registers_of r)) in
    mark_front 123 (inside ++ 125 ∷ []) (pieces ++ AMark 125 ∷ []) brace_is
    (front_append inside (125 ∷ []) pieces (AMark 125 ∷ []) (mark_ends 125 [] end_brace_is) (listed_front _ _ (register_fronts (registers_of r) are)) end_brace_front)

dots_word : IsWordText (codes "..")
dots_word = constant (codes "..") refl

-- neighbours by the first and the last of them
from_to : (first last : ℕ) → IsRegister first → IsRegister last
    → IsFront (123 ∷ (register_text first ++ 32 ∷ (codes ".." ++ 32 ∷ (register_text last ++ 125 ∷ []))))
    (AMark 123 ∷ AWord (register_text first) ∷ AWord (codes "..") ∷ AWord (register_text last) ∷ AMark 125 ∷ [])
from_to first last is_first is_last =
    let end = register_text last ++ 125 ∷ [] in
    let middle = codes ".." ++ 32 ∷ end in
    let last_front = front_append (register_text last) (125 ∷ []) (register_pieces last) (AMark 125 ∷ []) (mark_ends 125 [] end_brace_is) (register_front last is_last) end_brace_front in
    let dots_front = front_append (codes "..") (32 ∷ end) (AWord (codes "..") ∷ []) (AWord (register_text last) ∷ AMark 125 ∷ []) (blank_ends end)
    (word_front (codes "..") dots_word.0 dots_word.1) (blank_front end _ last_front) in
    let first_front = front_append (register_text first) (32 ∷ middle) (register_pieces first) (AWord (codes "..") ∷ AWord (register_text last) ∷ AMark 125 ∷ []) (blank_ends middle)
    (register_front first is_first) (blank_front middle _ dots_front) in
    mark_front 123 (register_text first ++ 32 ∷ middle) (AWord (register_text first) ∷ AWord (codes "..") ∷ AWord (register_text last) ∷ AMark 125 ∷ []) brace_is first_front

no_registers : IsFront (codes "{}") (AMark 123 ∷ AMark 125 ∷ [])
no_registers = mark_front 123 (125 ∷ []) (AMark 125 ∷ []) brace_is end_brace_front

-- the text in its parts
from_to_text : (first dots last end : List ℕ) → codes "{v" ++ first ++ dots ++ last ++ end ≡ 123 ∷ ((118 ∷ first) ++ (dots ++ (last ++ end)))
from_to_text first dots last end = simp append_assoc

neighbours_front : (first count : ℕ) → IsRegister first → first + count ≤ 2 ^ 16 → IsFront (neighbours_text first count) (neighbours_pieces first count)
neighbours_front first count is fits = by (nat_eq count 0) refl where
  by : (t : Bool) → nat_eq count 0 ≡ t
      → IsFront (if t then codes "{}" else codes "{v" ++ decimal first ++ codes " .. v" ++ decimal (first + (count - 1)) ++ codes "}")
      (if t then AMark 123 ∷ AMark 125 ∷ [] else AMark 123 ∷ AWord (register_text first) ∷ AWord (codes "..") ∷ AWord (register_text (first + (count - 1))) ∷ AMark 125 ∷ [])
  by true e = no_registers
  by false e =
      let last = first + (count - 1) in
      let some : count ≡ 0 → ⊥ = eqb-false count 0 e in
      let here = from_to first last is (omega arith) in
      subst (λ (l : List ℕ). IsFront l (AMark 123 ∷ AWord (register_text first) ∷ AWord (codes "..") ∷ AWord (register_text last) ∷ AMark 125 ∷ []))
      (sym (from_to_text (decimal first) (codes " .. v") (decimal last) (codes "}"))) here

-- the last of neighbours is a register
abbrev FitsForm : Form → Regs → Type 0
FitsForm form.Each r = Unit {0}
FitsForm form.Braces r = Unit {0}
FitsForm form.Neighbours r = slice_index r.first 0 + r.count ≤ 2 ^ 16

registers_fronts : (f : Form) (r : Regs) → All IsRegister r.first → 0 < length r.first → FitsForm f r → AreFronts (register_operands f r) (registers_pieces f r)
registers_fronts form.Each r are some fits = register_fronts (registers_of r) (all_take r.count r.first are)
registers_fronts form.Braces r are some fits = (braces_front r (all_take r.count r.first are), tt)
registers_fronts form.Neighbours r are some fits = (neighbours_front (slice_index r.first 0) r.count (are 0 0 some) fits, tt)

-- ---- the other operands

word_fronts : (w : List ℕ) → IsWordText w → AreFronts (w ∷ []) ((AWord w ∷ []) ∷ [])
word_fronts w is = (word_front w is.0 is.1, tt)

literal_word : (wide : Bool) (z : ℤ) → unsigned_abs z < 10 ^ 64 → IsWordText (if wide then signed_decimal z ++ codes "L" else signed_decimal z)
literal_word true z small = number_word z (codes "L") small refl
literal_word false z small = signed_word z small

literal_fronts : (t : Bool) (w : List ℕ) → (t ≡ true → IsWordText w) → AreFronts (if t then w ∷ [] else []) (if t then (AWord w ∷ []) ∷ [] else [])
literal_fronts true w is = word_fronts w (is refl)
literal_fronts false w is = tt

label_fronts : (label : Option (List ℕ)) → IsLabelText label → AreFronts (option_to_list (option_map label_text label)) (label_pieces label)
label_fronts None is = tt
label_fronts (Some name) is = word_fronts (58 ∷ name) (label_word_text name is)

entry_fronts : (e : PoolRef) → IsEntryText e → AreFronts (pool_operands e) (entry_pieces e)
entry_fronts pool.None is = tt
entry_fronts (pool.Str units) is = (string_front units is, tt)
entry_fronts (pool.OfType t) is = word_fronts (descriptor t) (type_text t is)
entry_fronts (pool.Field f) is = word_fronts (field_text f) (field_ref_text f is)
entry_fronts (pool.Method m) is = word_fronts (method_text m) (method_ref_text m is)

-- ---- an instruction

operands_grouped : (a b c d : List (List ℕ)) → a ++ b ++ c ++ d ≡ a ++ (b ++ (c ++ d))
operands_grouped a b c d = simp append_assoc

fits_form : (o : Option Format) (r : Regs) → r.range ≡ is_range (registers_in o) → (r.range ≡ true → slice_index r.first 0 + r.count ≤ 2 ^ 16) → FitsForm (form_in o) r
fits_form None r range last = tt
fits_form (Some F3rc) r range last = last range
fits_form (Some f) r range last = tt

form_fits : (op : ℕ) (r : Regs) → r.range ≡ is_range (registers_in (format_at op)) → (r.range ≡ true → slice_index r.first 0 + r.count ≤ 2 ^ 16) → FitsForm (form_of op) r
unfolding form_of
form_fits op r range last = fits_form (format_at op) r range last

-- a literal has 64 bits at most
literal_small : (o : Option Literal) (z : ℤ) → IsShort o → IsValue o z → unsigned_abs z < 10 ^ 64
literal_small None z short is = let P : ℤ → Type 0 = λ x. unsigned_abs x < 10 ^ 64 in subst P (sym is) (omega arith)
literal_small (Some l) z short is = fits_is_small l.bits z short is.0

pub insn_line : (d : Draftop) → IsListedOp d → HasPieces (insn_text d) (insn_pieces d)
insn_line d is =
    let op = d.insn.op in
    let told = form_told d.insn is.formed.form in
    let fits = form_fits op d.insn.regs told.shaped.range is.registers.last in
    let places : length d.insn.regs.first ≡ 5 = is.registers.places in
    let registers = registers_fronts (form_of op) d.insn.regs is.registers.small (omega arith) fits in
    let small = literal_small (literal_by (format_at op) op) d.insn.lit (literal_short (format_at op) op) told.shaped.value in
    let literals = literal_fronts (has_literal op) (literal_text op d.insn.lit) (λ _. literal_word (is_wide op) d.insn.lit small) in
    let labels = label_fronts d.label is.label in
    let entries = entry_fronts d.pool is.entry in
    let all = fronts_append _ _ _ _ registers (fronts_append _ _ _ _ literals (fronts_append _ _ _ _ labels entries)) in
    let grouped = operands_grouped (register_operands (form_of op) d.insn.regs) (literal_operands d.insn) (option_to_list (option_map label_text d.label)) (pool_operands d.pool) in
    let are = subst (λ (xs : List (List ℕ)). AreFronts xs (operand_pieces d)) (sym grouped) all in
    let name = name_of op in
    front_line (insn_text d) (insn_pieces d)
    (front_append name (operands_text (operands d)) (AWord name ∷ []) (op_pieces d) (operands_end (operands d))
    (word_front name (name_word op told.small told.some) (name_text op told.small told.some)) (operands_front (operands d) (operand_pieces d) are))
