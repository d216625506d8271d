-- What the lines of a draft are by their first words.
use Rattle.std.proofs.Common.{◌≡◌, ℕ, ◌<◌, ◌==◌, Bool, true, false, not, ◌||◌, ◌^◌, List, [], ◌∷◌, ◌++◌, map, codes, bytes_eq, nat_eq, Some, None, IsTrue, inl, inr, refl, sym, ap, ◌∙◌, append-nil, arith}
use Rattle.std.specs.Prelude.{ℤ, pos, negsuc, unsigned_abs, if◌then◌else◌}
use Rattle.std.specs.Fmt.{decimal, signed_decimal}
use Rattle.std.specs.List.{list_all, list_any, slice_split}
use Rattle.std.proofs.lemmas.Bool.{and_parts, cases_Bool, cond-true, eqb-true, true≢false}
use Rattle.std.proofs.lemmas.Bool.Decides.{nat_tests}
use Rattle.dv_names.specs.Descriptors.{is_name}
use Rattle.dv_optable.specs.Table.{Entry, table, opcode_in, opcode_named}
use Rattle.dv_lex.specs.Numbers.{is_decimal}
use Rattle.dv_print.specs.Operands.{label_text}
use Rattle.dv_coderead.specs.declared.head.Block.TheVariants.{Packed, Sparse, Data}
use Rattle.dv_coderead.specs.declared.head.Directive.TheVariants as directive
use Rattle.dv_coderead.specs.declared.head.Head.TheVariants as head
use Rattle.dv_coderead.specs.Pieces.{Piece, AWord}
use Rattle.dv_coderead.specs.Words.{begins_with}
use Rattle.dv_coderead.specs.Heads.{class_directive, method_directive, raw_directive, is_skipped, skipped_directive, ended_by, two_word_directive, directive_of, float_names, is_blank, is_float_name, head_of}
use Rattle.law_listing.proofs.Words.{AreDigitsOf, decimal_digits}

-- ---- labels and directives

pub label_head : (name : List ℕ) (ps : List Piece) → IsTrue (is_name name) → head_of (AWord (label_text name) ∷ ps) ≡ head.Label
unfolding head_of
label_head name ps named = cond-true (is_name name) head.Label head.Other named

pub registers_head : (ps : List Piece) → head_of (AWord (codes ".registers") ∷ ps) ≡ head.Directive directive.Registers
unfolding head_of directive_of class_directive method_directive
registers_head ps = refl

pub catch_head : (ps : List Piece) → head_of (AWord (codes ".catch") ∷ ps) ≡ head.Directive directive.Catch
unfolding head_of directive_of class_directive method_directive
catch_head ps = refl

pub catchall_head : (ps : List Piece) → head_of (AWord (codes ".catchall") ∷ ps) ≡ head.Directive directive.Catchall
unfolding head_of directive_of class_directive method_directive
catchall_head ps = refl

pub packed_head : (ps : List Piece) → head_of (AWord (codes ".packed-switch") ∷ ps) ≡ head.Directive (directive.Begin Packed)
unfolding head_of directive_of class_directive method_directive
packed_head ps = refl

pub sparse_head : (ps : List Piece) → head_of (AWord (codes ".sparse-switch") ∷ ps) ≡ head.Directive (directive.Begin Sparse)
unfolding head_of directive_of class_directive method_directive
sparse_head ps = refl

pub data_head : (ps : List Piece) → head_of (AWord (codes ".array-data") ∷ ps) ≡ head.Directive (directive.Begin Data)
unfolding head_of directive_of class_directive method_directive
data_head ps = refl

pub end_packed_head : (ps : List Piece) → head_of (AWord (codes ".end") ∷ AWord (codes "packed-switch") ∷ ps) ≡ head.Directive (directive.End Packed)
unfolding head_of directive_of class_directive method_directive raw_directive skipped_directive is_skipped two_word_directive ended_by
end_packed_head ps = refl

pub end_sparse_head : (ps : List Piece) → head_of (AWord (codes ".end") ∷ AWord (codes "sparse-switch") ∷ ps) ≡ head.Directive (directive.End Sparse)
unfolding head_of directive_of class_directive method_directive raw_directive skipped_directive is_skipped two_word_directive ended_by
end_sparse_head ps = refl

pub end_data_head : (ps : List Piece) → head_of (AWord (codes ".end") ∷ AWord (codes "array-data") ∷ ps) ≡ head.Directive (directive.End Data)
unfolding head_of directive_of class_directive method_directive raw_directive skipped_directive is_skipped two_word_directive ended_by
end_data_head ps = refl

-- ---- numbers

-- a byte from the zero to the nine, or the minus: no name begins so
abbrev is_number_byte : ℕ → Bool
is_number_byte b = nat_eq b 45 || is_decimal b

abbrev begins_number : List ℕ → Bool
begins_number [] = false
begins_number (b ∷ bs) = is_number_byte b

abbrev is_other_name : List ℕ → Bool
is_other_name w = not (begins_number w)

abbrev is_other_row : Entry → Bool
is_other_row e = is_other_name e.name

rows_other : list_all is_other_row table ≡ true
unfolding table
rows_other = refl

floats_other : list_all is_other_name (slice_split is_blank float_names) ≡ true
floats_other = refl

eq_same : (xs ys : List ℕ) → bytes_eq xs ys ≡ true → begins_number xs ≡ begins_number ys
eq_same [] [] e = refl
eq_same [] (y ∷ ys) e = absurd (cc)
eq_same (x ∷ xs) [] e = absurd (cc)
eq_same (x ∷ xs) (y ∷ ys) e = let p = and_parts (nat_eq x y) (bytes_eq xs ys) e in ap is_number_byte (eqb-true x y p.0)

-- what begins as a number has no name that doesn't
never_named : (name w : List ℕ) → is_other_name name ≡ true → begins_number w ≡ true → bytes_eq name w ≡ false
never_named name w other number =
    elim (cases_Bool (bytes_eq name w)) [
      | inl is ↦ let same = eq_same name w is in absurd (true≢false (sym other ∙ ap (λ (b : Bool). not b) (same ∙ number)))
      | inr differs ↦ differs
    ]

not_among : (es : List Entry) (w : List ℕ) → list_all is_other_row es ≡ true → begins_number w ≡ true → opcode_in (map (λ e. (e.name, e.opcode)) es) w ≡ None
not_among [] w all number = refl
not_among (e ∷ es) w all number =
    let p = and_parts (is_other_row e) (list_all is_other_row es) all in
    ap (λ (t : Bool). if t then Some e.opcode else opcode_in (map (λ x. (x.name, x.opcode)) es) w) (never_named e.name w p.0 number) ∙
    not_among es w p.1 number

no_opcode : (w : List ℕ) → begins_number w ≡ true → opcode_named w ≡ None
unfolding opcode_named
no_opcode w number = not_among table w rows_other number

not_any : (names : List (List ℕ)) (w : List ℕ) → list_all is_other_name names ≡ true → begins_number w ≡ true → list_any (λ name. bytes_eq name w) names ≡ false
not_any [] w all number = refl
not_any (x ∷ xs) w all number =
    let p = and_parts (is_other_name x) (list_all is_other_name xs) all in
    ap (λ (t : Bool). t || list_any (λ name. bytes_eq name w) xs) (never_named x w p.0 number) ∙ not_any xs w p.1 number

no_float : (w : List ℕ) → begins_number w ≡ true → is_float_name w ≡ false
no_float w number = not_any (slice_split is_blank float_names) w floats_other number

no_mark : (b : ℕ) → is_number_byte b ≡ true → ((b == 46) ≡ false) × ((b == 58) ≡ false)
no_mark b number = (grind (arith, nat_tests), grind (arith, nat_tests))

no_dot : (w : List ℕ) → begins_number w ≡ true → (begins_with 46 w ≡ false) × (begins_with 58 w ≡ false)
no_dot [] number = absurd (cc)
no_dot (b ∷ w) number = no_mark b number

by_number : (w : List ℕ) (ps : List Piece) → begins_number w ≡ true → head_of (AWord w ∷ ps) ≡ head.Other
unfolding head_of
by_number w ps number =
    let marks = no_dot w number in
    rw (marks.0, marks.1, no_opcode w number, no_float w number) refl

digits_begin : (n : ℕ) (ds w : List ℕ) → AreDigitsOf n ds → begins_number (ds ++ w) ≡ true
digits_begin n [] w are = absurd (omega (arith, are.some))
digits_begin n (d ∷ ds) w are = let p = (and_parts (is_decimal d) (list_all is_decimal ds) are.digits).0 in decimal_begins d p
  where
    decimal_begins : (b : ℕ) → is_decimal b ≡ true → is_number_byte b ≡ true
    decimal_begins b e = grind (arith, nat_tests)

number_begins : (z : ℤ) (w : List ℕ) → unsigned_abs z < 10 ^ 64 → begins_number (signed_decimal z ++ w) ≡ true
number_begins (pos n) w small = digits_begin n (decimal n) w (decimal_digits n small)
number_begins (negsuc n) w small = refl

-- a line that begins with a number is neither a directive, a label nor an instruction
pub number_head : (z : ℤ) (w : List ℕ) (ps : List Piece) → unsigned_abs z < 10 ^ 64 → head_of (AWord (signed_decimal z ++ w) ∷ ps) ≡ head.Other
number_head z w ps small = by_number (signed_decimal z ++ w) ps (number_begins z w small)

pub signed_head : (z : ℤ) (ps : List Piece) → unsigned_abs z < 10 ^ 64 → head_of (AWord (signed_decimal z) ∷ ps) ≡ head.Other
signed_head z ps small = ap (λ (w : List ℕ). head_of (AWord w ∷ ps)) (sym (append-nil (signed_decimal z))) ∙ number_head z [] ps small
