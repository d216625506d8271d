-- What the lines of a class say can be listed.
use Rattle.std.proofs.Common.{◌≡◌, ℕ, zero, suc, ◌<◌, ◌==◌, ◌&&◌, Bool, true, false, List, [], ◌∷◌, ◌++◌, replicate, Option, Some, None, Result, Ok, Err, IfOk, IsTrue, refl, sym, ap, subst, ◌∙◌, arith, lit<}
use Rattle.std.specs.Prelude.{pos, bytes_eq, codes}
use Rattle.std.specs.Str.{IsUtf8}
use Rattle.std.proofs.lemmas.Bool.{and_from, and_parts, cond_both}
use Rattle.std.proofs.lemmas.List.Elements.{All-head}
use Rattle.dv_defs.specs.declared.class.Init.{Init}
use Rattle.dv_defs.specs.declared.class.Init.TheVariants as init
use Rattle.dv_defs.specs.declared.faults.LineKind.{LineKind}
use Rattle.dv_defs.specs.declared.flags.Flag.{Flag}
use Rattle.dv_defs.specs.declared.flags.Flag.TheVariants as flag
use Rattle.dv_defs.specs.declared.names.Base.{Base}
use Rattle.dv_defs.specs.declared.names.Base.TheVariants as base
use Rattle.dv_defs.specs.declared.names.Ty.{Ty}
use Rattle.dv_defs.specs.Field.{may_stand, value_fits}
use Rattle.dv_defs.specs.Flags.{has_flag}
use Rattle.dv_names.specs.Descriptors.{is_name}
use Rattle.dv_lex.proofs.Grammar.Utf8.{before_ascii}
use Rattle.dv_lex.specs.Numbers.{Number}
use Rattle.dv_coderead.specs.declared.head.Directive.{Directive}
use Rattle.dv_coderead.specs.declared.head.Directive.TheVariants as directive
use Rattle.dv_coderead.specs.declared.head.Head.{Head}
use Rattle.dv_coderead.specs.declared.head.Head.TheVariants as head
use Rattle.dv_coderead.specs.Heads.{head_of}
use Rattle.dv_coderead.specs.Laws.{TypesAreRead, PrototypesAreRead}
use Rattle.dv_coderead.specs.Operands.{Part, after_first, ended, word_at}
use Rattle.dv_coderead.specs.Pieces.{Piece, AWord, AMark, AString, ACharacter}
use Rattle.dv_coderead.specs.References.{class_in, cut_at, found_parts, is_class_type, member_name, proto_in, type_in}
use Rattle.dv_coderead.specs.Words.{fitting, number_in}
use Rattle.dv_classread.specs.declared.class_line.ClassLine.{ClassLine}
use Rattle.dv_classread.specs.declared.class_line.ClassLine.TheVariants as line
use Rattle.dv_classread.specs.declared.class_line.Standing.{Standing}
use Rattle.dv_classread.specs.declared.class_line.Standing.TheVariants as standing
use Rattle.dv_classread.specs.ClassLines.{and_bit, boolean_value, by_directive, by_head, class_head_line, class_line, class_name, class_name_line, field_line, fitting_value, flag_of, flags_at, init_line, inside_line, is_boolean, is_boolean_base, is_false, is_true, lacks_super, name_and_proto, name_and_type, name_of, number_as, number_value, said, signature_line, superclass_line, value_alone, value_in, with_flag, word_value, NameAndType}
use Rattle.dv_classread.proofs.Flags.{bit_free}
use Rattle.law_listing.specs.Listable.{IsNameText, IsTypeText}
use Rattle.law_listing.specs.ClassPieces.{HasKnownFlags, IsClassText, IsInitText, IsListedField}
use Rattle.law_listing.specs.ReadLaws.{IsPieceText, ArePieceTexts, IsClassHeadText, IsClassLineText, IsSignatureText}
use Rattle.dv_coderead.proofs.FormedParts.{after as after_any, after_such}
use Rattle.law_listing.proofs.ReadWords.{IsCutAt, IsProtoOf, IsTypeOf, class_listed, cut_utf8, found_split, name_listed, proto_listed, type_word_text, weaker_ok}
use Rattle.law_listing.proofs.ReadParts.{GivesPart, behind_text, behind_texts, either, of_alone, of_word}

-- ---- flags

flag_listed : (flags : ℕ) (o : Option Flag) (told more : Part ℕ) → GivesPart HasKnownFlags told
    → ((f : Flag) → o ≡ Some f → has_flag flags f ≡ false → GivesPart HasKnownFlags more) → GivesPart HasKnownFlags (with_flag flags o told more)
flag_listed flags None told more is goes = is
flag_listed flags (Some f) told more is goes =
    let P : Part ℕ → Type 0 = GivesPart HasKnownFlags in
    cond_both (has_flag flags f) _ _ P (λ _. tt) (λ new. goes f refl new)

more_flags : (flags : ℕ) (o : Option Flag) (f : Flag) → HasKnownFlags flags → o ≡ Some f → has_flag flags f ≡ false → HasKnownFlags (and_bit flags o)
more_flags flags o f known is new = subst (λ (p : Option Flag). HasKnownFlags (and_bit flags p)) (sym is) (bit_free f flags known new)

flags_listed : (flags : ℕ) (ps : List Piece) → HasKnownFlags flags → ArePieceTexts ps → GivesPart HasKnownFlags (flags_at flags ps)
unfolding flags_at
flags_listed flags [] known are = (known, are)
flags_listed flags (AWord w ∷ ps) known are =
    flag_listed flags (flag_of w) (Ok (flags, AWord w ∷ ps)) (flags_at (and_bit flags (flag_of w)) ps) (known, are)
    (λ f is new. flags_listed (and_bit flags (flag_of w)) ps (more_flags flags (flag_of w) f known is new) (behind_text (AWord w) ps are))
flags_listed flags (AMark b ∷ ps) known are = (known, are)
flags_listed flags (AString units ∷ ps) known are = (known, are)
flags_listed flags (ACharacter unit ∷ ps) known are = (known, are)

no_flags : HasKnownFlags 0
no_flags = lit< tt

-- ---- classes

module _ (types : TypesAreRead) where
  class_by : (w : List ℕ) (dims : ℕ) (b : Base) → IsUtf8 w → IsTypeOf w (record { dims = dims; base = b }) → dims ≡ 0 → IfOk (name_of b) IsClassText
  class_by w dims (base.Class name) u is none =
      let same : name ≡ w = ap (λ n. replicate n 91 ++ name) (sym none) ∙ is.1 in
      (is.0.1, subst IsUtf8 (sym same) u)
  class_by w dims base.Z u is none = tt
  class_by w dims base.B u is none = tt
  class_by w dims base.C u is none = tt
  class_by w dims base.S u is none = tt
  class_by w dims base.I u is none = tt
  class_by w dims base.J u is none = tt

  class_name_listed : (w : List ℕ) → IsUtf8 w → IfOk (class_name w) IsClassText
  class_name_listed w u =
      after_such IsClassText (λ t. IsTypeOf w t × (t.dims ≡ 0) × IsTrue (is_class_type t.base)) (class_in w) _ (class_listed types w) (λ t is.
      class_by w t.dims t.base u is.0 is.1)

  pub class_name_line_listed : (ps : List Piece) → ArePieceTexts ps → IfOk (class_name_line ps) IsClassText
  unfolding class_name_line
  class_name_line_listed ps are = of_alone IsClassText (word_at class_name ps) (of_word IsClassText class_name class_name_listed ps are)

  pub class_head_listed : (n : ℕ) (ps : List Piece) → ArePieceTexts ps → IfOk (class_head_line n ps) IsClassHeadText
  unfolding class_head_line
  class_head_listed n ps are =
      after_such IsClassHeadText (λ x. HasKnownFlags x.0 × ArePieceTexts x.1) (flags_at 0 ps) _ (flags_listed 0 ps no_flags are) (λ flags is.
      after_such IsClassHeadText IsClassText (class_name_line flags.1) _ (class_name_line_listed flags.1 is.1) (λ name named.
      record { name = named; flags = is.0 }))

-- ---- fields

-- a value that can be listed, and that fits the type
abbrev IsValueOf : Ty → Init → Type 0
IsValueOf t i = IsInitText i × IsTrue (value_fits i t)

fitting_listed : (t : Ty) (i : Init) → IsInitText i → IfOk (fitting_value t i) (IsValueOf t)
fitting_listed t i is =
    let P : Result Init LineKind → Type 0 = λ r. IfOk r (IsValueOf t) in
    cond_both (value_fits i t) _ _ P (λ e. (is, e)) (λ _. tt)

number_listed : (t : Ty) (o : Option Number) → IfOk (number_value t o) (IsValueOf t)
number_listed t None = tt
number_listed t (Some n) = after_any (IsValueOf t) (fitting (number_as t.base n)) _ (λ z. fitting_listed t (init.Num z) tt)

boolean_base_fits : (dims : ℕ) (b : Base) (n : ℕ) → n < 2 → (dims == 0) ≡ true → is_boolean_base b ≡ true → value_fits (init.Num (pos n)) (record { dims = dims; base = b }) ≡ true
boolean_base_fits dims base.Z zero lt none is = and_from _ _ none refl
boolean_base_fits dims base.Z (suc zero) lt none is = and_from _ _ none refl
boolean_base_fits dims base.Z (suc (suc n)) lt none is = absurd (omega arith)
boolean_base_fits dims base.B n lt none is = absurd (cc)
boolean_base_fits dims base.C n lt none is = absurd (cc)
boolean_base_fits dims base.S n lt none is = absurd (cc)
boolean_base_fits dims base.I n lt none is = absurd (cc)
boolean_base_fits dims base.J n lt none is = absurd (cc)
boolean_base_fits dims (base.Class name) n lt none is = absurd (cc)

boolean_listed : (t : Ty) (n : ℕ) → n < 2 → IfOk (boolean_value t n) (IsValueOf t)
boolean_listed t n lt =
    let P : Result Init LineKind → Type 0 = λ r. IfOk r (IsValueOf t) in
    cond_both (is_boolean t) _ _ P (λ e. let p = and_parts (t.dims == 0) (is_boolean_base t.base) e in (tt, boolean_base_fits t.dims t.base n lt p.0 p.1)) (λ _. tt)

word_listed : (t : Ty) (w : List ℕ) → IfOk (word_value t w) (IsValueOf t)
unfolding word_value
word_listed t w =
    either (IsValueOf t) (is_true w) _ _ (boolean_listed t 1 (lit< tt))
    (either (IsValueOf t) (is_false w) _ _ (boolean_listed t 0 (lit< tt))
    (either (IsValueOf t) (bytes_eq w (codes "null")) _ _ (fitting_listed t init.Null tt) (number_listed t (number_in w))))

value_listed : (t : Ty) (p : Piece) → IsPieceText p → IfOk (value_in t p) (IsValueOf t)
unfolding value_in
value_listed t (AWord w) is = word_listed t w
value_listed t (ACharacter u) is = fitting_listed t (init.Num (pos u)) tt
value_listed t (AString units) is = fitting_listed t (init.Str units) is
value_listed t (AMark b) is = tt

alone_listed : (t : Ty) (ps : List Piece) → ArePieceTexts ps → IfOk (value_alone t ps) (IsValueOf t)
alone_listed t [] are = tt
alone_listed t (p ∷ ps) are =
    after_such (IsValueOf t) (IsValueOf t) (value_in t p) _ (value_listed t p (All-head IsPieceText p ps are)) (λ i is.
    after_any (IsValueOf t) (ended ps) _ (λ _. is))

-- a value that stands on a field of this type
abbrev StandsOn : Ty → ℕ → Init → Type 0
StandsOn t flags i = IsInitText i × IsTrue (may_stand i t flags)

stands_by : (t : Ty) (flags : ℕ) (i : Init) → has_flag flags flag.Static ≡ true → IsValueOf t i → StandsOn t flags i
stands_by t flags init.Absent static is = (tt, refl)
stands_by t flags (init.Num n) static is = (tt, and_from _ _ static is.1)
stands_by t flags (init.Str units) static is = (is.0, and_from _ _ static is.1)
stands_by t flags init.Null static is = (tt, and_from _ _ static is.1)

init_listed : (t : Ty) (flags : ℕ) (ps : List Piece) → ArePieceTexts ps → IfOk (init_line (has_flag flags flag.Static) t ps) (StandsOn t flags)
init_listed t flags [] are = (tt, refl)
init_listed t flags (AWord w ∷ ps) are = tt
init_listed t flags (AMark b ∷ ps) are =
    let P : Result Init LineKind → Type 0 = λ r. IfOk r (StandsOn t flags) in
    cond_both ((b == 61) && has_flag flags flag.Static) _ _ P
    (λ e.
    let static = (and_parts (b == 61) (has_flag flags flag.Static) e).1 in
    weaker_ok (IsValueOf t) (StandsOn t flags) (value_alone t ps) (λ i is. stands_by t flags i static is) (alone_listed t ps (behind_text (AMark b) ps are)))
    (λ _. tt)
init_listed t flags (AString units ∷ ps) are = tt
init_listed t flags (ACharacter unit ∷ ps) are = tt

module _ (types : TypesAreRead) where
  abbrev IsNameAndType : NameAndType → Type 0
  IsNameAndType x = IsNameText x.0 × IsTypeText x.1

  name_and_type_listed : (w : List ℕ) → IsUtf8 w → IfOk (name_and_type w) IsNameAndType
  unfolding name_and_type
  name_and_type_listed w u =
      after_such IsNameAndType (IsCutAt 58 w) (found_parts (cut_at 58 w)) _ (found_split 58 w) (λ parts cut.
      let texts = cut_utf8 parts.0 58 parts.1 (lit< tt) (subst IsUtf8 cut u) in
      after_such IsNameAndType (λ name. (name ≡ parts.0) × IsTrue (is_name name)) (member_name parts.0) _ (name_listed parts.0) (λ name named.
      after_such IsNameAndType IsTypeText (type_in parts.1) _ (type_word_text types parts.1 texts.1) (λ ty typed.
      ((named.1, subst IsUtf8 (sym named.0) texts.0), typed))))

  pub field_listed : (ps : List Piece) → ArePieceTexts ps → IfOk (field_line ps) IsListedField
  unfolding field_line
  field_listed ps are =
      after_such IsListedField (λ x. HasKnownFlags x.0 × ArePieceTexts x.1) (flags_at 0 ps) _ (flags_listed 0 ps no_flags are) (λ flags known.
      after_such IsListedField (λ x. IsNameAndType x.0 × ArePieceTexts x.1) (word_at name_and_type flags.1) _ (of_word IsNameAndType name_and_type name_and_type_listed flags.1 known.1) (λ field is.
      after_such IsListedField (StandsOn field.0.1 flags.0) (init_line (has_flag flags.0 flag.Static) field.0.1 field.1) _ (init_listed field.0.1 flags.0 field.1 is.1) (λ value stands.
      record { name = is.0.0; ty = is.0.1; flags = known.0; init = stands.0; stands = stands.1 })))

-- ---- methods

module _ (protos : PrototypesAreRead) where
  name_and_proto_listed : (flags : ℕ) → HasKnownFlags flags → (w : List ℕ) → IsUtf8 w → IfOk (name_and_proto flags w) IsSignatureText
  unfolding name_and_proto
  name_and_proto_listed flags known w u =
      after_such IsSignatureText (IsCutAt 40 w) (found_parts (cut_at 40 w)) _ (found_split 40 w) (λ parts cut.
      let texts = cut_utf8 parts.0 40 parts.1 (lit< tt) (subst IsUtf8 cut u) in
      after_such IsSignatureText (λ name. (name ≡ parts.0) × IsTrue (is_name name)) (member_name parts.0) _ (name_listed parts.0) (λ name named.
      after_such IsSignatureText (IsProtoOf (40 ∷ parts.1)) (proto_in (40 ∷ parts.1)) _ (proto_listed protos (40 ∷ parts.1)) (λ proto typed.
      record {
        name = (named.1, subst IsUtf8 (sym named.0) texts.0);
        proto = (typed.0, subst IsUtf8 (sym typed.1) (before_ascii 40 parts.1 (lit< tt) texts.1));
        flags = known;
      })))

  pub signature_listed : (ps : List Piece) → ArePieceTexts ps → IfOk (signature_line ps) IsSignatureText
  unfolding signature_line
  signature_listed ps are =
      after_such IsSignatureText (λ x. HasKnownFlags x.0 × ArePieceTexts x.1) (flags_at 0 ps) _ (flags_listed 0 ps no_flags are) (λ flags known.
      of_alone IsSignatureText (word_at (name_and_proto flags.0) flags.1) (of_word IsSignatureText (name_and_proto flags.0) (name_and_proto_listed flags.0 known.0) flags.1 known.1))

-- ---- lines

said_listed : {A : Type 0} (P : A → Type 0) (f : A → ClassLine) (read : Result A LineKind) → ((x : A) → P x → IsClassLineText (f x)) → IfOk read P → IfOk (said f read) IsClassLineText
said_listed P f (Ok x) goes is = goes x is
said_listed P f (Err k) goes is = tt

module _ (types : TypesAreRead) (protos : PrototypesAreRead) where
  super_listed : (is_object has_super : Bool) (ps : List Piece) → ArePieceTexts ps → IfOk (superclass_line is_object has_super ps) IsClassLineText
  super_listed true has_super ps are = tt
  super_listed false true ps are = tt
  super_listed false false ps are = said_listed IsClassText line.Super (class_name_line ps) (λ name is. is) (class_name_line_listed types ps are)

  inside_listed : (is_object has_super : Bool) (d : Directive) (ps : List Piece) → ArePieceTexts ps → IfOk (inside_line is_object has_super d ps) IsClassLineText
  inside_listed is_object has_super directive.Super ps are = super_listed is_object has_super ps are
  inside_listed is_object has_super directive.Implements ps are = said_listed IsClassText line.Implements (class_name_line ps) (λ name is. is) (class_name_line_listed types ps are)
  inside_listed is_object has_super directive.Field ps are = said_listed IsListedField line.Field (field_line ps) (λ f is. is) (field_listed types ps are)
  inside_listed is_object has_super directive.Method ps are = said_listed IsSignatureText line.Method (signature_line ps) (λ s is. is) (signature_listed protos ps are)
  inside_listed is_object has_super d ps are = tt

  directive_listed : (s : Standing) (n : ℕ) (d : Directive) (ps : List Piece) → ArePieceTexts ps → IfOk (by_directive s n d ps) IsClassLineText
  directive_listed s n directive.Class ps are =
      either IsClassLineText (lacks_super s) _ _ tt (said_listed IsClassHeadText line.Class (class_head_line n ps) (λ h is. is) (class_head_listed types n ps are))
  directive_listed s n directive.Source ps are = tt
  directive_listed standing.Outside n d ps are = tt
  directive_listed (standing.Inside is_object has_super) n d ps are = inside_listed is_object has_super d ps are

  head_listed : (s : Standing) (n : ℕ) (h : Head) (ps : List Piece) → ArePieceTexts ps → IfOk (by_head s n h ps) IsClassLineText
  head_listed s n (head.Directive d) ps are = directive_listed s n d (after_first ps) (behind_texts ps are)
  head_listed s n h ps are = tt

  pub line_listed : (s : Standing) (n : ℕ) (ps : List Piece) → ArePieceTexts ps → IfOk (class_line s n ps) IsClassLineText
  unfolding class_line
  line_listed s n ps are = head_listed s n (head_of ps) ps are
