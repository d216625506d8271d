-- What the printed lines of a class say.
use Rattle.std.proofs.Common.{◌≡◌, ℕ, suc, ◌^◌, ◌<◌, ◌==◌, Bool, true, false, List, [], ◌∷◌, ◌++◌, Some, Ok, refl, sym, ap, ◌∙◌, append_assoc, arith, lit≤}
use Rattle.std.specs.Prelude.{ℤ, pos, negsuc, unsigned_abs, not, nat_eq, nat_le, nat_lt, codes, bytes_eq, IsTrue}
use Rattle.std.specs.Fmt.{decimal, signed_decimal}
use Rattle.std.specs.List.{list_all}
use Rattle.std.proofs.lemmas.Bool.{and_from, and_left, and_parts, and_right, cond-true, cond-false, eq-eqb, false_from_ne_true, leb-true, lt-ltb, not_from_true, true≢false}
use Rattle.std.proofs.lemmas.Bool.Decides.{nat_tests}
use Rattle.std.proofs.lemmas.List.Folds.{list_all-append}
use Rattle.std.proofs.lemmas.Slice.Eq.{bytes_eq-Decides}
use Rattle.dv_defs.specs.declared.class.Init.{Init}
use Rattle.dv_defs.specs.declared.class.Init.TheVariants as init
use Rattle.dv_defs.specs.declared.class.MethodDef.{MethodDef}
use Rattle.dv_defs.specs.declared.flags.Flag.TheVariants as flag
use Rattle.dv_defs.specs.declared.names.Base.{Base}
use Rattle.dv_defs.specs.declared.names.Base.TheVariants as base
use Rattle.dv_defs.specs.declared.names.Proto.{Proto}
use Rattle.dv_defs.specs.declared.names.Ty.{Ty}
use Rattle.dv_defs.specs.Field.{FieldValue, may_stand, number_fits, value_fits}
use Rattle.dv_defs.specs.Flags.{has_flag}
use Rattle.dv_names.specs.Descriptors.{descriptor, prototype, is_name, IsClassName}
use Rattle.dv_lex.specs.Laws.Numbers.{IsSigned}
use Rattle.dv_lex.specs.Numbers.{is_decimal}
use Rattle.dv_coderead.specs.declared.head.Directive.TheVariants as directive
use Rattle.dv_coderead.specs.declared.head.Head.TheVariants.{Directive}
use Rattle.dv_coderead.specs.Giving.{◌>>=◌}
use Rattle.dv_coderead.specs.Heads.{class_directive, directive_of, ended_by, head_of, method_directive, raw_directive, skipped_directive, is_skipped, two_word_directive}
use Rattle.dv_coderead.specs.Laws.{PrototypesAreRead, TypesAreRead}
use Rattle.dv_coderead.specs.Operands.{and_behind, alone}
use Rattle.dv_coderead.specs.Pieces.{Piece, AWord, AString}
use Rattle.dv_coderead.specs.Words.{fitting}
use Rattle.dv_coderead.specs.References.{class_in, cut_at, only_class, proto_in, type_in}
use Rattle.dv_coderead.proofs.Cuts.{cut_lacking}
use Rattle.dv_coderead.proofs.Lacking.{lacks, name_lacks}
use Rattle.dv_classread.specs.declared.class_line.ClassLine.TheVariants as line
use Rattle.dv_classread.specs.declared.class_line.Standing.TheVariants.{Inside}
use Rattle.dv_classread.specs.ClassLines.{by_head, class_head_line, class_line, class_name, class_name_line, field_line, fitting_value, init_line, is_false, is_true, lacks_super, name_and_proto, name_and_type, name_of, number_as, number_value, said, signature_line, value_alone, value_in, word_value}
use Rattle.law_listing.specs.ClassPieces.{HasKnownFlags, IsClassText, IsListedField, IsListedSignature, class_pieces, field_pieces, flag_pieces, interface_pieces, method_pieces, superclass_pieces, value_pieces, ClassLinesAreRead, FieldLinesAreRead, InterfaceLinesAreRead, MethodEndsAreRead, MethodHeadersAreRead, SuperclassLinesAreRead}
use Rattle.law_listing.proofs.OperandsRead.{fits_is_signed}
use Rattle.law_listing.proofs.Words.{IsReadAs, decimal_digits, signed_read}
use Rattle.law_listing.proofs.ClassPieces.Flags.{flags_read, no_flag_class, no_flag_colon, no_flag_parenthesis}
use Rattle.law_listing.proofs.ClassPieces.Text.{class_type, number_small, stands_by}

-- ---- heads

pub class_head : (ps : List Piece) → head_of (AWord (codes ".class") ∷ ps) ≡ Directive directive.Class
unfolding head_of directive_of class_directive
class_head ps = refl

pub super_head : (ps : List Piece) → head_of (AWord (codes ".super") ∷ ps) ≡ Directive directive.Super
unfolding head_of directive_of class_directive
super_head ps = refl

pub implements_head : (ps : List Piece) → head_of (AWord (codes ".implements") ∷ ps) ≡ Directive directive.Implements
unfolding head_of directive_of class_directive
implements_head ps = refl

pub field_head : (ps : List Piece) → head_of (AWord (codes ".field") ∷ ps) ≡ Directive directive.Field
unfolding head_of directive_of class_directive
field_head ps = refl

pub method_head : (ps : List Piece) → head_of (AWord (codes ".method") ∷ ps) ≡ Directive directive.Method
unfolding head_of directive_of class_directive
method_head ps = refl

pub method_end_read : MethodEndsAreRead
unfolding head_of directive_of class_directive method_directive raw_directive skipped_directive is_skipped two_word_directive ended_by
method_end_read = refl

-- ---- texts that are cut

-- a text with such a byte in it
pub has_byte : (c : ℕ) (w rest : List ℕ) → lacks c (w ++ c ∷ rest) ≡ false
has_byte c w rest = list_all-append (λ b. not (b == c)) w (c ∷ rest) ∙ and_right (lacks c w) _ (and_left (not (c == c)) (lacks c rest) (not_from_true (c == c) (eq-eqb c c refl)))

pub name_lacks_colon : (name : List ℕ) → IsTrue (is_name name) → lacks 58 name ≡ true
name_lacks_colon name e = name_lacks 58 refl refl refl name e

pub name_lacks_parenthesis : (name : List ℕ) → IsTrue (is_name name) → lacks 40 name ≡ true
name_lacks_parenthesis name e = name_lacks 40 refl refl refl name e

-- ---- classes

class_has_byte : (name : List ℕ) → IsClassName name → lacks 76 name ≡ false
class_has_byte name h = ap (lacks 76) h.spelled

module _ (types : TypesAreRead) where
  pub class_read : (name : List ℕ) → IsClassText name → class_in name ≡ Ok (class_type name)
  unfolding class_in
  class_read name h = ap (λ r. r >>= only_class) (types (class_type name) (lit≤ tt, h.0))

  name_read : (name : List ℕ) → IsClassText name → class_name name ≡ Ok name
  name_read name h = ap (λ r. r >>= (λ (class : Ty). name_of class.base)) (class_read name h)

  name_line_read : (name : List ℕ) → IsClassText name → class_name_line (AWord name ∷ []) ≡ Ok name
  unfolding class_name_line
  name_line_read name h = ap (λ r. alone (and_behind [] r)) (name_read name h)

  head_line_read : (n flags : ℕ) (name : List ℕ) → IsClassText name → HasKnownFlags flags
      → class_head_line n (flag_pieces flags ++ AWord name ∷ []) ≡ Ok (record { name = name; flags = flags; line = n })
  unfolding class_head_line
  head_line_read n flags name h known =
      rw (flags_read flags name [] known (no_flag_class name (class_has_byte name h.0)), name_line_read name h) refl

  pub class_line_read : ClassLinesAreRead
  unfolding class_line
  class_line_read c s n h known closed =
      ap (λ head. by_head s n head (class_pieces c)) (class_head (flag_pieces c.flags ++ AWord c.name ∷ [])) ∙ cond-false (lacks_super s) _ _ closed
      ∙ ap (said line.Class) (head_line_read n c.flags c.name h known)

  pub superclass_line_read : SuperclassLinesAreRead
  unfolding class_line
  superclass_line_read name n h = ap (λ head. by_head (Inside false false) n head (superclass_pieces name)) (super_head (AWord name ∷ [])) ∙ ap (said line.Super) (name_line_read name h)

  pub interface_line_read : InterfaceLinesAreRead
  unfolding class_line
  interface_line_read name is_object has_super n h =
      ap (λ head. by_head (Inside is_object has_super) n head (interface_pieces name)) (implements_head (AWord name ∷ [])) ∙ ap (said line.Implements) (name_line_read name h)

-- ---- values

abbrev is_low : ℕ → Bool
is_low b = nat_lt b 58

decimal_low : (ds : List ℕ) → list_all is_decimal ds ≡ true → list_all is_low ds ≡ true
decimal_low [] e = refl
decimal_low (d ∷ ds) e = let p = and_parts (is_decimal d) (list_all is_decimal ds) e in and_from _ _ (low_by d p.0) (decimal_low ds p.1)
  where
    low_by : (b : ℕ) → is_decimal b ≡ true → is_low b ≡ true
    low_by b h = grind (arith, nat_tests)

number_low : (z : ℤ) → unsigned_abs z < 10 ^ 64 → list_all is_low (signed_decimal z) ≡ true
number_low (pos n) small = decimal_low (decimal n) (decimal_digits n small).digits
number_low (negsuc n) small = decimal_low (decimal (suc n)) (decimal_digits (suc n) small).digits

-- a number is no other word
low_apart : (w v : List ℕ) → list_all is_low w ≡ true → list_all is_low v ≡ false → bytes_eq w v ≡ false
low_apart w v low high = false_from_ne_true (bytes_eq w v) (λ e. true≢false (sym low ∙ ap (list_all is_low) ((bytes_eq-Decides w v).0 e) ∙ high))

-- an int and a long are read in their bits
int_signed : (z : ℤ) → number_fits base.I z ≡ true → IsSigned 32 z
int_signed (pos n) e = fits_is_signed 32 (pos n) (lt-ltb n (2 ^ 31) (let h = leb-true n 2147483647 e in omega (arith, h)))
int_signed (negsuc n) e = fits_is_signed 32 (negsuc n) (lt-ltb n (2 ^ 31) (let h = leb-true n 2147483647 (and_parts (nat_le n 2147483647) true e).0 in omega (arith, h)))

long_signed : (z : ℤ) → number_fits base.J z ≡ true → IsSigned 64 z
long_signed (pos n) e = fits_is_signed 64 (pos n) (lt-ltb n (2 ^ 63) (let h = leb-true n 9223372036854775807 e in omega (arith, h)))
long_signed (negsuc n) e = fits_is_signed 64 (negsuc n) (lt-ltb n (2 ^ 63) (let h = leb-true n 9223372036854775807 (and_parts (nat_le n 9223372036854775807) true e).0 in omega (arith, h)))

-- a number of a type is read as it is printed
number_kept : (b : Base) (text : List ℕ) (z : ℤ) (read : IsReadAs text z) → number_fits b z ≡ true → number_as b read.number ≡ Some z
number_kept base.I text z read fits = read.fits 32 (int_signed z fits)
number_kept base.J text z read fits = read.fits 64 (long_signed z fits)
number_kept base.Z text z read fits = ap Some read.is
number_kept base.B text z read fits = ap Some read.is
number_kept base.C text z read fits = ap Some read.is
number_kept base.S text z read fits = ap Some read.is
number_kept (base.Class name) text z read fits = ap Some read.is

number_word_read : (t : Ty) (z : ℤ) → unsigned_abs z < 10 ^ 64 → value_fits (init.Num z) t ≡ true → word_value t (signed_decimal z) ≡ Ok (init.Num z)
unfolding word_value
number_word_read t z small fits =
    let low = number_low z small in
    let w = signed_decimal z in
    let read = signed_read z small in
    cond-false (is_true w) _ _ (low_apart w (codes "true") low refl) ∙ cond-false (is_false w) _ _ (low_apart w (codes "false") low refl)
    ∙ cond-false (bytes_eq w (codes "null")) _ _ (low_apart w (codes "null") low refl)
    ∙ ap (number_value t) read.read ∙ ap (λ o. fitting o >>= λ v. fitting_value t (init.Num v)) (number_kept t.base w z read (and_parts (nat_eq t.dims 0) _ fits).1)
    ∙ cond-true (value_fits (init.Num z) t) _ _ fits

null_word_read : (t : Ty) → value_fits init.Null t ≡ true → word_value t (codes "null") ≡ Ok init.Null
unfolding word_value
null_word_read t fits = cond-true (value_fits init.Null t) _ _ fits

word_read : (t : Ty) (w : List ℕ) (i : Init) → word_value t w ≡ Ok i → value_alone t (AWord w ∷ []) ≡ Ok i
unfolding value_in
word_read t w i e = rw e refl

string_value : (t : Ty) (units : List ℕ) → value_fits (init.Str units) t ≡ true → value_alone t (AString units ∷ []) ≡ Ok (init.Str units)
unfolding value_in
string_value t units fits = rw fits refl

value_read : (i : Init) (t : Ty) (flags : ℕ) → may_stand i t flags ≡ true → init_line (has_flag flags flag.Static) t (value_pieces i) ≡ Ok i
value_read init.Absent t flags e = refl
value_read (init.Num z) t flags e =
    let s = stands_by (init.Num z) t flags refl e in
    cond-true (has_flag flags flag.Static) _ _ s.static ∙ word_read t (signed_decimal z) (init.Num z) (number_word_read t z (number_small z t flags e) s.fits)
value_read (init.Str units) t flags e =
    let s = stands_by (init.Str units) t flags refl e in
    cond-true (has_flag flags flag.Static) _ _ s.static ∙ string_value t units s.fits
value_read init.Null t flags e =
    let s = stands_by init.Null t flags refl e in
    cond-true (has_flag flags flag.Static) _ _ s.static ∙ word_read t (codes "null") init.Null (null_word_read t s.fits)

-- ---- fields

module _ (types : TypesAreRead) where
  name_and_type_read : (name : List ℕ) (t : Ty) → IsTrue (is_name name) → type_in (descriptor t) ≡ Ok t → name_and_type (name ++ codes ":" ++ descriptor t) ≡ Ok (name, t)
  unfolding name_and_type
  name_and_type_read name t h e =
      let cut : cut_at 58 (name ++ codes ":" ++ descriptor t) ≡ Some (name, descriptor t) =
      ap (cut_at 58) (append_assoc name (58 ∷ []) (descriptor t)) ∙ cut_lacking 58 name (descriptor t) (name_lacks_colon name h) in
      rw (cut, h, e) refl

  field_has_byte : (name : List ℕ) (t : Ty) → lacks 58 (name ++ codes ":" ++ descriptor t) ≡ false
  field_has_byte name t = ap (lacks 58) (append_assoc name (58 ∷ []) (descriptor t)) ∙ has_byte 58 name (descriptor t)

  field_read : (f : FieldValue) → IsListedField f → field_line (flag_pieces f.flags ++ AWord (f.name ++ codes ":" ++ descriptor f.ty) ∷ value_pieces f.init) ≡ Ok f
  unfolding field_line
  field_read f h =
      let w = f.name ++ codes ":" ++ descriptor f.ty in
      let flags = flags_read f.flags w (value_pieces f.init) h.flags (no_flag_colon w (field_has_byte f.name f.ty)) in
      let named = name_and_type_read f.name f.ty h.name.0 (types f.ty h.ty.0) in
      let value = value_read f.init f.ty f.flags h.stands in
      rw (flags, named, value) refl

  pub field_line_read : FieldLinesAreRead
  unfolding class_line
  field_line_read f is_object has_super n h =
      ap (λ head. by_head (Inside is_object has_super) n head (field_pieces f)) (field_head _) ∙ ap (said line.Field) (field_read f h)

-- ---- methods

module _ (protos : PrototypesAreRead) where
  name_and_proto_read : (flags : ℕ) (name : List ℕ) (p : Proto) → IsTrue (is_name name) → proto_in (prototype p) ≡ Ok p
      → name_and_proto flags (name ++ prototype p) ≡ Ok (record { name = name; proto = p; flags = flags })
  unfolding name_and_proto
  name_and_proto_read flags name p h e = rw (cut_lacking 40 name _ (name_lacks_parenthesis name h), h, e) refl

  signature_read : (m : MethodDef) → IsListedSignature m → signature_line (flag_pieces m.flags ++ AWord (m.name ++ prototype m.proto) ∷ []) ≡ Ok (record { name = m.name; proto = m.proto; flags = m.flags })
  unfolding signature_line
  signature_read m h =
      let w = m.name ++ prototype m.proto in
      let flags = flags_read m.flags w [] h.flags (no_flag_parenthesis w (has_byte 40 m.name _)) in
      let named = name_and_proto_read m.flags m.name m.proto h.name.0 (protos m.proto h.proto.0) in
      rw (flags, named) refl

  pub method_header_read : MethodHeadersAreRead
  unfolding class_line
  method_header_read m is_object has_super n h =
      ap (λ head. by_head (Inside is_object has_super) n head (method_pieces m)) (method_head _) ∙ ap (said line.Method) (signature_read m h)
