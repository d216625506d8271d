-- The pieces that stand on the printed lines of a class.
use Rattle.std.proofs.Common.{◌≡◌, ℕ, ◌^◌, ◌<◌, true, false, ◌&&◌, List, [], ◌∷◌, ◌++◌, inl, inr, refl, sym, ◌∙◌, append_assoc, arith, lit≤}
use Rattle.std.specs.Prelude.{ℤ, pos, negsuc, unsigned_abs, nat_le, codes}
use Rattle.std.specs.Fmt.{signed_decimal}
use Rattle.std.proofs.lemmas.Bool.{and_parts, leb-true, or_cases}
use Rattle.dv_defs.specs.declared.class.Init.{Init}
use Rattle.dv_defs.specs.declared.class.Init.TheVariants as init
use Rattle.dv_defs.specs.declared.class.MethodDef.{MethodDef}
use Rattle.dv_defs.specs.declared.names.Base.{Base}
use Rattle.dv_defs.specs.declared.names.Base.TheVariants as base
use Rattle.dv_defs.specs.declared.names.Ty.{Ty}
use Rattle.dv_defs.specs.Field.{FieldValue, is_absent, may_stand, number_fits, value_fits}
use Rattle.dv_defs.specs.Flags.{has_flag}
use Rattle.dv_defs.specs.declared.flags.Flag.TheVariants as flag
use Rattle.dv_names.specs.Descriptors.{descriptor, prototype}
use Rattle.dv_names.specs.Written.{string_text}
use Rattle.dv_lex.specs.Lexemes.{begins_plain}
use Rattle.dv_lex.proofs.Names.{type_word}
use Rattle.dv_print.specs.Listing.{flags_text, value_text}
use Rattle.dv_coderead.specs.Pieces.{Piece, AWord, AMark, AString}
use Rattle.law_listing.specs.ClassPieces.{IsClassText, IsInitText, IsListedField, IsListedSignature, class_pieces, end_method_pieces, field_pieces, flag_pieces, interface_pieces, method_header, method_pieces, superclass_pieces, value_pieces, ClassLinesStand, FieldLinesStand, InterfaceLinesStand, MethodEndsStand, MethodHeadersStand, SuperclassLinesStand}
use Rattle.law_listing.specs.Printed.{HasPieces}
use Rattle.law_listing.proofs.Lines.{one_line, same_lines}
use Rattle.law_listing.proofs.Pieces.{no_piece, blank_piece, word_piece, last_word, mark_piece, last_string, word_blank, blank_ends, equals_is}
use Rattle.law_listing.proofs.Words.{IsWordText, constant, name_text, type_text, proto_text, signed_word, word_both}
use Rattle.law_listing.proofs.ClassPieces.Flags.{flags_stand}

-- ---- words

abbrev pub class_type : List ℕ → Ty
class_type name = record { dims = 0; base = base.Class name }

pub class_word : (name : List ℕ) → IsClassText name → IsWordText name
class_word name h = (type_word (class_type name) (lit≤ tt, h.0), h.1)

pub field_word : (f : FieldValue) → IsListedField f → IsWordText (f.name ++ codes ":" ++ descriptor f.ty)
field_word f h = word_both (f.name ++ codes ":") (descriptor f.ty) (word_both f.name (codes ":") (name_text f.name h.name) (constant (codes ":") refl)) (type_text f.ty h.ty)

pub method_word : (m : MethodDef) → IsListedSignature m → IsWordText (m.name ++ prototype m.proto)
method_word m h = word_both m.name (prototype m.proto) (name_text m.name h.name) (proto_text m.proto h.proto.0 h.proto.1)

-- ---- lines

-- a directive, flags, and a word with more behind it
flagged : (w : List ℕ) (flags : ℕ) (u rest : List ℕ) (ps : List Piece) → IsWordText w → IsWordText u → begins_plain rest ≡ false → HasPieces rest ps
    → HasPieces (w ++ 32 ∷ (flags_text flags ++ (u ++ rest))) (AWord w ∷ (flag_pieces flags ++ AWord u ∷ ps))
flagged w flags u rest ps word other ends h =
    word_blank w (flags_text flags ++ (u ++ rest)) (flag_pieces flags ++ AWord u ∷ ps) word.0 word.1
    (flags_stand flags (u ++ rest) (AWord u ∷ ps) (word_piece u rest ps other.0 other.1 ends h))

-- a directive, flags and a word
flagged_word : (w : List ℕ) (flags : ℕ) (u : List ℕ) → IsWordText w → IsWordText u → HasPieces (w ++ 32 ∷ (flags_text flags ++ u)) (AWord w ∷ (flag_pieces flags ++ AWord u ∷ []))
flagged_word w flags u word other =
    word_blank w (flags_text flags ++ u) (flag_pieces flags ++ AWord u ∷ []) word.0 word.1 (flags_stand flags u (AWord u ∷ []) (last_word u other.0 other.1))

-- a directive and a word
two_words : (w u : List ℕ) → IsWordText w → IsWordText u → HasPieces (w ++ 32 ∷ u) (AWord w ∷ AWord u ∷ [])
two_words w u word other = word_blank w u (AWord u ∷ []) word.0 word.1 (last_word u other.0 other.1)

pub class_stands : ClassLinesStand
class_stands c h =
    let line = flagged_word (codes ".class") c.flags c.name (constant (codes ".class") refl) (class_word c.name h) in
    same_lines _ (codes ".class" ++ 32 ∷ (flags_text c.flags ++ c.name) ++ 10 ∷ []) (class_pieces c ∷ []) (simp append_assoc) (one_line _ (class_pieces c) line)

pub superclass_stands : SuperclassLinesStand
superclass_stands name h =
    one_line (codes ".super" ++ 32 ∷ name) (superclass_pieces name) (two_words (codes ".super") name (constant (codes ".super") refl) (class_word name h))

pub interface_stands : InterfaceLinesStand
interface_stands name h =
    one_line (codes ".implements" ++ 32 ∷ name) (interface_pieces name) (two_words (codes ".implements") name (constant (codes ".implements") refl) (class_word name h))

pub method_header_stands : MethodHeadersStand
method_header_stands m h =
    let line = flagged_word (codes ".method") m.flags (m.name ++ prototype m.proto) (constant (codes ".method") refl) (method_word m h) in
    same_lines (method_header m) (codes ".method" ++ 32 ∷ (flags_text m.flags ++ (m.name ++ prototype m.proto)) ++ 10 ∷ []) (method_pieces m ∷ []) (simp append_assoc) (one_line _ (method_pieces m) line)

pub method_end_stands : MethodEndsStand
method_end_stands = one_line (codes ".end method") end_method_pieces (two_words (codes ".end") (codes "method") (constant (codes ".end") refl) (constant (codes "method") refl))

-- ---- fields

-- a number that a type has is printed
small_by : (b : Base) (z : ℤ) → number_fits b z ≡ true → unsigned_abs z < 10 ^ 64
small_by base.Z (pos n) e = let h = leb-true n 1 (and_parts (nat_le 0 n) (nat_le n 1) e).1 in omega (arith, h)
small_by base.B (pos n) e = let h = leb-true n 127 e in omega (arith, h)
small_by base.C (pos n) e = let h = leb-true n 65535 (and_parts (nat_le 0 n) (nat_le n 65535) e).1 in omega (arith, h)
small_by base.S (pos n) e = let h = leb-true n 32767 e in omega (arith, h)
small_by base.I (pos n) e = let h = leb-true n 2147483647 e in omega (arith, h)
small_by base.J (pos n) e = let h = leb-true n 9223372036854775807 e in omega (arith, h)
small_by (base.Class name) z e = absurd (cc)
small_by base.Z (negsuc n) e = absurd (cc)
small_by base.B (negsuc n) e = let h = leb-true n 127 (and_parts (nat_le n 127) true e).0 in omega (arith, h)
small_by base.C (negsuc n) e = absurd (cc)
small_by base.S (negsuc n) e = let h = leb-true n 32767 (and_parts (nat_le n 32767) true e).0 in omega (arith, h)
small_by base.I (negsuc n) e = let h = leb-true n 2147483647 (and_parts (nat_le n 2147483647) true e).0 in omega (arith, h)
small_by base.J (negsuc n) e = let h = leb-true n 9223372036854775807 (and_parts (nat_le n 9223372036854775807) true e).0 in omega (arith, h)

-- a value that stands in a field fits its type, and the field is static
pub record Stands (i : Init) (t : Ty) (flags : ℕ) : Type 0 where
  pub static : has_flag flags flag.Static ≡ true
  pub fits : value_fits i t ≡ true

pub stands_by : (i : Init) (t : Ty) (flags : ℕ) → is_absent i ≡ false → may_stand i t flags ≡ true → Stands i t flags
stands_by i t flags some e =
    elim (or_cases (is_absent i) (has_flag flags flag.Static && value_fits i t) e) [
      | inl none ↦ absurd (let both : true ≡ false = sym none ∙ some in cc)
      | inr both ↦ let p = and_parts (has_flag flags flag.Static) (value_fits i t) both in record { static = p.0; fits = p.1 }
    ]

pub number_small : (z : ℤ) (t : Ty) (flags : ℕ) → may_stand (init.Num z) t flags ≡ true → unsigned_abs z < 10 ^ 64
number_small z t flags e = let s = stands_by (init.Num z) t flags refl e in small_by t.base z (and_parts _ (number_fits t.base z) s.fits).1

-- an equals sign between blanks
equals_piece : (bytes : List ℕ) (ps : List Piece) → HasPieces bytes ps → HasPieces (32 ∷ 61 ∷ 32 ∷ bytes) (AMark 61 ∷ ps)
equals_piece bytes ps h = blank_piece (61 ∷ 32 ∷ bytes) (AMark 61 ∷ ps) (mark_piece 61 (32 ∷ bytes) ps equals_is (blank_piece bytes ps h))

value_stands : (i : Init) (t : Ty) (flags : ℕ) → IsInitText i → may_stand i t flags ≡ true → HasPieces (value_text i) (value_pieces i)
value_stands init.Absent t flags h e = no_piece
value_stands (init.Num n) t flags h e =
    let word = signed_word n (number_small n t flags e) in
    equals_piece (signed_decimal n) (AWord (signed_decimal n) ∷ []) (last_word (signed_decimal n) word.0 word.1)
value_stands (init.Str units) t flags h e = equals_piece (string_text units) (AString units ∷ []) (last_string units h)
value_stands init.Null t flags h e = let word = constant (codes "null") refl in equals_piece (codes "null") (AWord (codes "null") ∷ []) (last_word (codes "null") word.0 word.1)

value_ends : (i : Init) → begins_plain (value_text i) ≡ false
value_ends init.Absent = refl
value_ends (init.Num n) = blank_ends (61 ∷ 32 ∷ signed_decimal n)
value_ends (init.Str units) = blank_ends (61 ∷ 32 ∷ string_text units)
value_ends init.Null = blank_ends (61 ∷ 32 ∷ codes "null")

pub field_stands : FieldLinesStand
field_stands f h =
    let line = flagged (codes ".field") f.flags (f.name ++ codes ":" ++ descriptor f.ty) (value_text f.init) (value_pieces f.init) (constant (codes ".field") refl) (field_word f h)
    (value_ends f.init) (value_stands f.init f.ty f.flags h.init h.stands) in
    same_lines _ (codes ".field" ++ 32 ∷ (flags_text f.flags ++ (f.name ++ codes ":" ++ descriptor f.ty ++ value_text f.init)) ++ 10 ∷ []) (field_pieces f ∷ [])
    (simp append_assoc) (one_line _ (field_pieces f) line)
