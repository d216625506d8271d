-- Words that are read can be listed: types, references, names and registers.
use Rattle.std.proofs.Common.{◌≡◌, ℕ, suc, ◌+◌, ◌-◌, ◌^◌, ◌<◌, ◌==◌, ◌&&◌, true, List, [], ◌∷◌, ◌++◌, length, drop, Option, Some, None, IfSome, Result, Ok, Err, IfOk, IsTrue, refl, sym, ap, subst, ◌∙◌, append_assoc, arith, lit<, length-append, take_at, drop_at}
use Rattle.std.specs.Prelude.{nat_lt, codes}
use Rattle.std.specs.Option.{option_and_then, option_map_or}
use Rattle.std.specs.Str.{IsUtf8}
use Rattle.std.proofs.lemmas.Bool.{and_parts, cond_both, eqb-true, ltb-true}
use Rattle.std.proofs.lemmas.List.{get_or_at}
use Rattle.std.proofs.lemmas.Str.{IsCharBoundary-before_ascii, IsUtf8-take, IsUtf8-drop}
use Rattle.dv_defs.specs.declared.faults.LineKind.{LineKind}
use Rattle.dv_defs.specs.declared.names.Ty.{Ty}
use Rattle.dv_defs.specs.declared.names.Proto.{Proto}
use Rattle.dv_defs.specs.declared.names.FieldRef.{FieldRef}
use Rattle.dv_defs.specs.declared.names.MethodRef.{MethodRef}
use Rattle.dv_defs.specs.Types.{is_reference}
use Rattle.dv_names.specs.declared.error.NameError.{NameError}
use Rattle.dv_names.specs.Descriptors.{descriptor, prototype, is_name, IsType, IsProto}
use Rattle.dv_names.specs.Grammar.{Mode, Open, Parameters, Return, Array, Name, Whole, Alone, after, refusal, refused_byte, step, type_refusal, proto_refusal}
use Rattle.dv_names.specs.Written.{field_text, method_text}
use Rattle.dv_names.proofs.Fronts.{type_text, proto_text}
use Rattle.dv_lex.specs.Laws.Names.{IsFieldRef, IsMethodRef}
use Rattle.dv_lex.proofs.Grammar.Utf8.{past_ascii}
use Rattle.dv_coderead.specs.declared.words.Frame.{Frame}
use Rattle.dv_coderead.specs.Laws.{TypesAreRead, PrototypesAreRead}
use Rattle.dv_coderead.specs.References.{type_in, type_of, proto_in, proto_of, only_reference, reference_type_in, is_class_type, only_class, class_in, cut_at, cut_at_arrow, with_byte, found_parts, arrow_parts, member_name, field_in, method_in, unless_refused}
use Rattle.dv_coderead.specs.Words.{argument_of, begins_with, decimal_in, label_in, register_in, register_of}
use Rattle.dv_coderead.proofs.FormedParts.{after_such}
use Rattle.law_listing.specs.Listable.{IsNameText, IsTypeText, IsFieldText, IsMethodText}

-- ---- one reading after another

pub weaker_ok : {A : Type 0} (P Q : A → Type 0) (read : Result A LineKind) → ((x : A) → P x → Q x) → IfOk read P → IfOk read Q
weaker_ok P Q (Ok x) goes is = goes x is
weaker_ok P Q (Err k) goes is = tt

-- ---- UTF-8

-- the parts of a text round an ASCII byte
pub cut_utf8 : (xs : List ℕ) (b : ℕ) (ys : List ℕ) → b < 128 → IsUtf8 (xs ++ b ∷ ys) → IsUtf8 xs × IsUtf8 ys
cut_utf8 xs b ys small u =
    let inside : length xs < length (xs ++ b ∷ ys) = omega (arith, length-append xs (b ∷ ys)) in
    let here = get_or_at xs b ys 0 (length xs) refl in
    let cut = IsCharBoundary-before_ascii (xs ++ b ∷ ys) (length xs) inside (rw here small) in
    let front = rw (take_at xs (b ∷ ys) (length xs) refl) at (IsUtf8-take (xs ++ b ∷ ys) (length xs) u cut) in
    let back = rw (drop_at xs (b ∷ ys) (length xs) refl) at (IsUtf8-drop (xs ++ b ∷ ys) (length xs) u cut) in
    (front, past_ascii b ys small back)

-- ---- cuts

abbrev Cut : Type 0
Cut = List ℕ × List ℕ

abbrev pub IsCutAt : ℕ → List ℕ → Cut → Type 0
IsCutAt c w p = w ≡ p.0 ++ c ∷ p.1

abbrev IsCutAtArrow : List ℕ → Cut → Type 0
IsCutAtArrow w p = w ≡ p.0 ++ 45 ∷ 62 ∷ p.1

byte_more : (b c : ℕ) (w : List ℕ) (found : Option Cut) → IfSome found (IsCutAt c w) → IfSome (with_byte b found) (IsCutAt c (b ∷ w))
byte_more b c w None is = tt
byte_more b c w (Some p) is = ap (λ l. b ∷ l) is

pub cut_split : (c : ℕ) (w : List ℕ) → IfSome (cut_at c w) (IsCutAt c w)
unfolding cut_at
cut_split c [] = tt
cut_split c (b ∷ w) =
    cond_both (b == c) _ _ (λ o. IfSome o (IsCutAt c (b ∷ w))) (λ e. ap (λ x. x ∷ w) (eqb-true b c e)) (λ _. byte_more b c w (cut_at c w) (cut_split c w))

arrow_more : (b : ℕ) (w : List ℕ) (found : Option Cut) → IfSome found (IsCutAtArrow w) → IfSome (with_byte b found) (IsCutAtArrow (b ∷ w))
arrow_more b w None is = tt
arrow_more b w (Some p) is = ap (λ l. b ∷ l) is

tip : (b : ℕ) (w : List ℕ) → begins_with b w ≡ true → w ≡ b ∷ drop 1 w
tip b [] e = absurd (cc)
tip b (c ∷ w) e = ap (λ x. x ∷ w) (eqb-true c b e)

arrow_split : (w : List ℕ) → IfSome (cut_at_arrow w) (IsCutAtArrow w)
unfolding cut_at_arrow
arrow_split [] = tt
arrow_split (b ∷ w) =
    cond_both ((b == 45) && begins_with 62 w) _ _ (λ o. IfSome o (IsCutAtArrow (b ∷ w)))
    (λ e.
    let p = and_parts (b == 45) (begins_with 62 w) e in
    ap (λ x. x ∷ w) (eqb-true b 45 p.0) ∙ ap (λ l. 45 ∷ l) (tip 62 w p.1))
    (λ _. arrow_more b w (cut_at_arrow w) (arrow_split w))

found_such : (P : Cut → Type 0) (found : Option Cut) → IfSome found P → IfOk (found_parts found) P
found_such P None is = tt
found_such P (Some p) is = is

pub found_split : (c : ℕ) (w : List ℕ) → IfOk (found_parts (cut_at c w)) (IsCutAt c w)
found_split c w = found_such (IsCutAt c w) (cut_at c w) (cut_split c w)

-- ---- what isn't refused is read whole

whole_end : (m : Mode) (at : ℕ) → refusal m at [] ≡ None → after m [] ≡ Some Whole
unfolding refusal
whole_end Open at e = absurd (cc)
whole_end Parameters at e = absurd (cc)
whole_end Return at e = absurd (cc)
whole_end (Array p n) at e = absurd (cc)
whole_end (Name p w) at e = absurd (cc)
whole_end Whole at e = refl

whole_by : (m : Mode) (at b : ℕ) (text : List ℕ) (o : Option Mode) → ((n : Mode) → refusal n (suc at) text ≡ None → after n text ≡ Some Whole)
    → option_map_or (λ n. refusal n (suc at) text) o (Some (refused_byte m b at)) ≡ None → option_and_then (λ n. after n text) o ≡ Some Whole
whole_by m at b text None ih e = absurd (cc)
whole_by m at b text (Some n) ih e = ih n e

whole_read : (text : List ℕ) (m : Mode) (at : ℕ) → refusal m at text ≡ None → after m text ≡ Some Whole
unfolding refusal
whole_read [] m at e = whole_end m at e
whole_read (b ∷ text) m at e = whole_by m at b text (step m b) (λ n. whole_read text n (suc at)) e

-- ---- types and prototypes

-- a word that is a type's descriptor
abbrev pub IsTypeOf : List ℕ → Ty → Type 0
IsTypeOf w t = IsType t × (descriptor t ≡ w)

abbrev pub IsProtoOf : List ℕ → Proto → Type 0
IsProtoOf w p = IsProto p × (prototype p ≡ w)

same_ok : {X : Type 0} (x y : X) (r : Result X LineKind) → r ≡ Ok x → r ≡ Ok y → y ≡ x
same_ok x y r e f = cc

module _ (types : TypesAreRead) where
  type_by : (w : List ℕ) (o : Option NameError) → type_refusal w ≡ o → IfOk (unless_refused o (type_of w)) (IsTypeOf w)
  unfolding type_in
  type_by w None e =
      let text = type_text w (whole_read w (Array Alone 0) 0 e) in
      let read = ap type_in (sym text.2) ∙ types text.0 text.1 in
      let own : type_in w ≡ Ok (type_of w) = ap (λ o. unless_refused o (type_of w)) e in
      subst (IsTypeOf w) (same_ok (type_of w) text.0 (type_in w) own read) (text.1, text.2)
  type_by w (Some f) e = tt

  pub type_listed : (w : List ℕ) → IfOk (type_in w) (IsTypeOf w)
  unfolding type_in
  type_listed w = type_by w (type_refusal w) refl

  pub type_word_text : (w : List ℕ) → IsUtf8 w → IfOk (type_in w) IsTypeText
  type_word_text w u = weaker_ok (IsTypeOf w) IsTypeText (type_in w) (λ t is. (is.0, subst IsUtf8 (sym is.1) u)) (type_listed w)

  reference_listed : (w : List ℕ) → IfOk (reference_type_in w) (λ t. IsTypeOf w t × IsTrue (is_reference t))
  reference_listed w =
      let P : Ty → Type 0 = λ t. IsTypeOf w t × IsTrue (is_reference t) in
      after_such P (IsTypeOf w) (type_in w) only_reference (type_listed w) (λ t is.
      cond_both (is_reference t) _ _ (λ r. IfOk r P) (λ e. (is, e)) (λ _. tt))

  pub class_listed : (w : List ℕ) → IfOk (class_in w) (λ t. IsTypeOf w t × (t.dims ≡ 0) × IsTrue (is_class_type t.base))
  unfolding class_in
  class_listed w =
      let P : Ty → Type 0 = λ t. IsTypeOf w t × (t.dims ≡ 0) × IsTrue (is_class_type t.base) in
      let Q : Result Ty LineKind → Type 0 = λ r. IfOk r P in
      after_such P (IsTypeOf w) (type_in w) only_class (type_listed w) (λ t is.
      cond_both ((t.dims == 0) && is_class_type t.base) _ _ Q
      (λ e. let p = and_parts (t.dims == 0) (is_class_type t.base) e in (is, eqb-true t.dims 0 p.0, p.1)) (λ _. tt))

module _ (protos : PrototypesAreRead) where
  proto_by : (w : List ℕ) (o : Option NameError) → proto_refusal w ≡ o → IfOk (unless_refused o (proto_of w)) (IsProtoOf w)
  unfolding proto_in
  proto_by w None e =
      let text = proto_text w (whole_read w Open 0 e) in
      let read = ap proto_in (sym text.2) ∙ protos text.0 text.1 in
      let own : proto_in w ≡ Ok (proto_of w) = ap (λ o. unless_refused o (proto_of w)) e in
      subst (IsProtoOf w) (same_ok (proto_of w) text.0 (proto_in w) own read) (text.1, text.2)
  proto_by w (Some f) e = tt

  pub proto_listed : (w : List ℕ) → IfOk (proto_in w) (IsProtoOf w)
  unfolding proto_in
  proto_listed w = proto_by w (proto_refusal w) refl

-- ---- names

pub name_listed : (w : List ℕ) → IfOk (member_name w) (λ name. (name ≡ w) × IsTrue (is_name name))
name_listed w = cond_both (is_name w) _ _ (λ r. IfOk r (λ name. (name ≡ w) × IsTrue (is_name name))) (λ e. (refl, e)) (λ _. tt)

-- ---- references

abbrev IsFieldOf : List ℕ → FieldRef → Type 0
IsFieldOf w f = IsFieldRef f × IsTrue (is_reference f.class) × (field_text f ≡ w)

abbrev IsMethodOf : List ℕ → MethodRef → Type 0
IsMethodOf w m = IsMethodRef m × IsTrue (is_reference m.class) × (method_text m ≡ w)

field_split : (class name ty : List ℕ) → class ++ codes "->" ++ name ++ codes ":" ++ ty ≡ class ++ 45 ∷ 62 ∷ (name ++ 58 ∷ ty)
field_split class name ty = simp append_assoc

method_split : (class name proto : List ℕ) → class ++ codes "->" ++ name ++ proto ≡ class ++ 45 ∷ 62 ∷ (name ++ proto)
method_split class name proto = simp append_assoc

module _ (types : TypesAreRead) (protos : PrototypesAreRead) where
  field_listed : (w : List ℕ) → IfOk (field_in w) (IsFieldOf w)
  unfolding field_in
  field_listed w =
      let P : FieldRef → Type 0 = IsFieldOf w in
      after_such P (IsCutAtArrow w) (arrow_parts w) _ (found_such (IsCutAtArrow w) (cut_at_arrow w) (arrow_split w)) (λ parts split.
      after_such P (λ t. IsTypeOf parts.0 t × IsTrue (is_reference t)) (reference_type_in parts.0) _ (reference_listed types parts.0) (λ class is.
      after_such P (IsCutAt 58 parts.1) (found_parts (cut_at 58 parts.1)) _ (found_split 58 parts.1) (λ member cut.
      after_such P (λ name. (name ≡ member.0) × IsTrue (is_name name)) (member_name member.0) _ (name_listed member.0) (λ name named.
      after_such P (IsTypeOf member.1) (type_in member.1) _ (type_listed types member.1) (λ ty typed. (
        (is.0.0, named.1, typed.0),
        is.1,
        field_split (descriptor class) name (descriptor ty)
            ∙ (λ i. is.0.1 i ++ 45 ∷ 62 ∷ (named.0 i ++ 58 ∷ typed.1 i)) ∙ ap (λ l. parts.0 ++ 45 ∷ 62 ∷ l) (sym cut) ∙ sym split,
      ))))))

  method_listed : (w : List ℕ) → IfOk (method_in w) (IsMethodOf w)
  unfolding method_in
  method_listed w =
      let P : MethodRef → Type 0 = IsMethodOf w in
      after_such P (IsCutAtArrow w) (arrow_parts w) _ (found_such (IsCutAtArrow w) (cut_at_arrow w) (arrow_split w)) (λ parts split.
      after_such P (λ t. IsTypeOf parts.0 t × IsTrue (is_reference t)) (reference_type_in parts.0) _ (reference_listed types parts.0) (λ class is.
      after_such P (IsCutAt 40 parts.1) (found_parts (cut_at 40 parts.1)) _ (found_split 40 parts.1) (λ member cut.
      after_such P (λ name. (name ≡ member.0) × IsTrue (is_name name)) (member_name member.0) _ (name_listed member.0) (λ name named.
      after_such P (IsProtoOf (40 ∷ member.1)) (proto_in (40 ∷ member.1)) _ (proto_listed protos (40 ∷ member.1)) (λ proto typed. (
        (is.0.0, named.1, typed.0),
        is.1,
        method_split (descriptor class) name (prototype proto)
            ∙ (λ i. is.0.1 i ++ 45 ∷ 62 ∷ (named.0 i ++ typed.1 i)) ∙ ap (λ l. parts.0 ++ 45 ∷ 62 ∷ l) (sym cut) ∙ sym split,
      ))))))

  pub field_word_text : (w : List ℕ) → IsUtf8 w → IfOk (field_in w) IsFieldText
  field_word_text w u = weaker_ok (IsFieldOf w) IsFieldText (field_in w) (λ f is. (is.0, is.1, subst IsUtf8 (sym is.2) u)) (field_listed w)

  pub method_word_text : (w : List ℕ) → IsUtf8 w → IfOk (method_in w) IsMethodText
  method_word_text w u = weaker_ok (IsMethodOf w) IsMethodText (method_in w) (λ m is. (is.0, is.1, subst IsUtf8 (sym is.2) u)) (method_listed w)

-- ---- labels

label_by : (w : List ℕ) → IsUtf8 w → (begins_with 58 w && is_name (drop 1 w)) ≡ true → IsNameText (drop 1 w)
label_by w u e =
    let p = and_parts (begins_with 58 w) (is_name (drop 1 w)) e in
    (p.1, past_ascii 58 (drop 1 w) (lit< tt) (subst IsUtf8 (tip 58 w p.0) u))

pub label_listed : (w : List ℕ) → IsUtf8 w → IfOk (label_in w) IsNameText
unfolding label_in
label_listed w u =
    let P : Result (List ℕ) LineKind → Type 0 = λ r. IfOk r IsNameText in
    cond_both (begins_with 58 w && is_name (drop 1 w)) _ _ P (label_by w u) (λ _. tt)

-- ---- registers

abbrev pub IsRegister : ℕ → Type 0
IsRegister n = n < 2 ^ 16

register_small : (o : Option ℕ) → IfOk (register_of o) IsRegister
register_small None = tt
register_small (Some n) = cond_both (nat_lt n 65536) _ _ (λ r. IfOk r IsRegister) (λ e. ltb-true n 65536 e) (λ _. tt)

argument_small : (frame : Frame) (o : Option ℕ) → IfOk (argument_of frame o) IsRegister
argument_small frame None = tt
argument_small frame (Some n) =
    cond_both (nat_lt (frame.registers + n) frame.arguments) _ _ (λ r. IfOk r IsRegister) (λ _. tt) (λ _. register_small (Some (frame.registers + n - frame.arguments)))

pub register_listed : (frame : Frame) (w : List ℕ) → IfOk (register_in frame w) IsRegister
unfolding register_in
register_listed frame w =
    let P : Result ℕ LineKind → Type 0 = λ r. IfOk r IsRegister in
    cond_both (begins_with 118 w) _ _ P (λ _. register_small (decimal_in (drop 1 w))) (λ _.
    cond_both (begins_with 112 w) _ _ P (λ _. argument_small frame (decimal_in (drop 1 w))) (λ _. tt))
