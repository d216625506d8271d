-- What is read whole is the text of a type or a prototype.
use Rattle.std.proofs.Common.{◌≡◌, ℕ, suc, ◌+◌, ◌<◌, ◌≤◌, eqb, ltb, List, [], ◌∷◌, ◌++◌, replicate, Option, Some, None, inl, inr, refl, sym, ap, ◌∙◌, arith}
use Rattle.std.specs.Prelude.{IfSome}
use Rattle.std.specs.Option.{option_and_then, is_some}
use Rattle.std.specs.List.{All, flat_map}
use Rattle.std.proofs.lemmas.List.{append_assoc, append-nil}
use Rattle.std.proofs.lemmas.List.Elements.{All-nil, All-cons}
use Rattle.std.proofs.lemmas.Bool.{cond-true, cond-false, ne_eqb, eq-eqb, le-ltb, cases_eq, cases_lt}
use Rattle.dv_defs.specs.declared.names.Base.{Base}
use Rattle.dv_defs.specs.declared.names.Base.TheVariants as base
use Rattle.dv_defs.specs.declared.names.Ty.{Ty}
use Rattle.dv_names.specs.Descriptors.{base_text, descriptor, return_text, IsBase, IsType}
use Rattle.dv_names.specs.Faults.{IsTypeText, IsProtoText}
use Rattle.dv_names.specs.Grammar.{Position, Alone, Parameter, Returned, Part, Before, Mode, Open, Parameters, Return, Array, Name, Whole, mode_behind, primitive_of, step, after}
use Rattle.dv_names.proofs.Bytes.{step_bracket, step_class, step_no_type, primitive_text}
use Rattle.dv_names.proofs.Classes.{NameByte, Goes, Slash, Last, Nowhere, name_byte, class_from, none_left, going, stuck}

-- ---- what a byte is to a type, wherever it stands

data TypeByte (k b : ℕ) : Type 0 where
  Bracket : b ≡ 91 → k < 255 → ((p : Position) → step (Array p k) b ≡ Some (Array p (suc k))) → TypeByte k b
  Letter : (found : Base) → primitive_of b ≡ Some found → ((p : Position) → step (Array p k) b ≡ Some (mode_behind p)) → TypeByte k b
  Class : b ≡ 76 → ((p : Position) → step (Array p k) b ≡ Some (Name p Before)) → TypeByte k b
  Nothing : ((p : Position) → step (Array p k) b ≡ None) → TypeByte k b

other_byte : (k b : ℕ) → (b ≡ 91 → ⊥) → (o : Option Base) → primitive_of b ≡ o → TypeByte k b
other_byte k b ne (Some found) e =
    Letter found e (λ p. cond-false (eqb b 91) _ _ (ne_eqb b 91 ne) ∙ cond-true (is_some (primitive_of b)) _ _ (ap is_some e))
other_byte k b ne None e =
    elim (cases_eq b 76) [
      | inl is ↦ Class is (λ p. step_class p k b is)
      | inr no_class ↦ Nothing (λ p. step_no_type p k b (λ _ is. ne is) e no_class)
    ]

type_byte : (k b : ℕ) → TypeByte k b
type_byte k b =
    elim (cases_eq b 91) [
      | inl is ↦ elim (cases_lt k 255) [
        | inl lt ↦ Bracket is lt (λ p. ap (step (Array p k)) is ∙ step_bracket p k lt)
        | inr le ↦ Nothing (λ p. cond-true (eqb b 91) _ _ (eq-eqb b 91 is) ∙ cond-false (ltb k 255) _ _ (le-ltb k 255 le))
      ]
      | inr ne ↦ other_byte k b ne (primitive_of b) refl
    ]

-- ---- a type alone

record TypeFrom (k : ℕ) (text : List ℕ) : Type 0 where
  dims : ℕ
  found : Base
  few : k + dims ≤ 255
  is : IsBase found
  spelled : text ≡ replicate dims 91 ++ base_text found

letter_alone : (k b : ℕ) (text : List ℕ) (found : Base) → k ≤ 255 → primitive_of b ≡ Some found → text ≡ [] → TypeFrom k (b ∷ text)
letter_alone k b text found few e none =
    let letter = primitive_text b found e in
    record { dims = 0; found = found; few = omega arith; is = letter.1; spelled = ap (λ l. b ∷ l) none ∙ sym letter.0 }

bracket_alone : (k b : ℕ) (text : List ℕ) → b ≡ 91 → TypeFrom (suc k) text → TypeFrom k (b ∷ text)
bracket_alone k b text is r = record {
  dims = suc r.dims;
  found = r.found;
  few = omega (arith, r.few);
  is = r.is;
  spelled = ap (λ z. z ∷ text) is ∙ ap (λ l. 91 ∷ l) r.spelled;
}

alone_by : (k b : ℕ) (text : List ℕ) → TypeByte k b → k ≤ 255 → (suc k ≤ 255 → after (Array Alone (suc k)) text ≡ Some Whole → TypeFrom (suc k) text)
    → after (Array Alone k) (b ∷ text) ≡ Some Whole → TypeFrom k (b ∷ text)
alone_by k b text (Bracket is lt goes) few ih e = bracket_alone k b text is (ih (omega arith) (going (Array Alone k) (Array Alone (suc k)) b text (goes Alone) e))
alone_by k b text (Letter found is goes) few ih e = letter_alone k b text found few is (none_left text (going (Array Alone k) Whole b text (goes Alone) e))
alone_by k b text (Class is goes) few ih e =
    let name = class_from b text is (going (Array Alone k) (Name Alone Before) b text (goes Alone) e) in
    record { dims = 0; found = base.Class (b ∷ text); few = omega arith; is = name; spelled = refl }
alone_by k b text (Nothing goes) few ih e = absurd (stuck (Array Alone k) b text (goes Alone) e)

alone : (text : List ℕ) (k : ℕ) → k ≤ 255 → after (Array Alone k) text ≡ Some Whole → TypeFrom k text
alone [] k few e = absurd (cc)
alone (b ∷ text) k few e = alone_by k b text (type_byte k b) few (alone text (suc k)) e

pub type_text : (text : List ℕ) → after (Array Alone 0) text ≡ Some Whole → IsTypeText text
type_text text e = let r = alone text 0 (omega arith) e in (record { dims = r.dims; base = r.found }, (omega (arith, r.few), r.is), sym r.spelled)

-- ---- a type that something follows

-- a front that is read whole, and what is known of the rest
record Cut (T : List ℕ → Type 0) (m : Mode) (text : List ℕ) : Type 0 where
  front : List ℕ
  rest : List ℕ
  split : text ≡ front ++ rest
  run : after m front ≡ Some Whole
  tail : T rest

module _ (T : List ℕ → Type 0) where
  -- one more byte of the front, or its last
  longer : (m n : Mode) (b : ℕ) (text : List ℕ) → step m b ≡ Some n → Cut T n text → Cut T m (b ∷ text)
  longer m n b text goes r = record {
    front = b ∷ r.front;
    rest = r.rest;
    split = ap (λ l. b ∷ l) r.split;
    run = ap (option_and_then (λ k. after k r.front)) goes ∙ r.run;
    tail = r.tail;
  }

  ended : (m : Mode) (b : ℕ) (text : List ℕ) → step m b ≡ Some Whole → T text → Cut T m (b ∷ text)
  ended m b text goes tail = record {
    front = b ∷ [];
    rest = text;
    split = refl;
    run = ap (option_and_then (λ k. after k [])) goes;
    tail = tail;
  }

  module _ (p : Position) (b : ℕ) (text : List ℕ) (tail : after (mode_behind p) text ≡ Some Whole → T text) (in_name : (w : Part) → after (Name p w) text ≡ Some Whole → Cut T (Name Alone w) text) where
    cut_name : (w : Part) → NameByte w b → after (Name p w) (b ∷ text) ≡ Some Whole → Cut T (Name Alone w) (b ∷ text)
    cut_name w (Goes v goes begins) e = longer (Name Alone w) (Name Alone v) b text (goes Alone) (in_name v (going (Name p w) (Name p v) b text (goes p) e))
    cut_name w (Slash is whole goes) e = longer (Name Alone w) (Name Alone Before) b text (goes Alone) (in_name Before (going (Name p w) (Name p Before) b text (goes p) e))
    cut_name w (Last is whole goes) e = ended (Name Alone w) b text (goes Alone) (tail (going (Name p w) (mode_behind p) b text (goes p) e))
    cut_name w (Nowhere goes) e = absurd (stuck (Name p w) b text (goes p) e)

    cut_type : (k : ℕ) → TypeByte k b → ((j : ℕ) → after (Array p j) text ≡ Some Whole → Cut T (Array Alone j) text) → after (Array p k) (b ∷ text) ≡ Some Whole → Cut T (Array Alone k) (b ∷ text)
    cut_type k (Bracket is lt goes) in_type e = longer (Array Alone k) (Array Alone (suc k)) b text (goes Alone) (in_type (suc k) (going (Array p k) (Array p (suc k)) b text (goes p) e))
    cut_type k (Letter found is goes) in_type e = ended (Array Alone k) b text (goes Alone) (tail (going (Array p k) (mode_behind p) b text (goes p) e))
    cut_type k (Class is goes) in_type e = longer (Array Alone k) (Name Alone Before) b text (goes Alone) (in_name Before (going (Array p k) (Name p Before) b text (goes p) e))
    cut_type k (Nothing goes) in_type e = absurd (stuck (Array p k) b text (goes p) e)

-- ---- the result of a prototype

abbrev IsNone : List ℕ → Type 0
IsNone text = text ≡ []

record ReturnCuts (text : List ℕ) : Type 0 where
  types : (k : ℕ) → after (Array Returned k) text ≡ Some Whole → Cut IsNone (Array Alone k) text
  names : (w : Part) → after (Name Returned w) text ≡ Some Whole → Cut IsNone (Name Alone w) text

return_cuts : (text : List ℕ) → ReturnCuts text
return_cuts [] = record { types = λ k e. absurd (cc); names = λ w e. absurd (cc) }
return_cuts (b ∷ text) =
    let ih = return_cuts text in
    record {
      types = λ k. cut_type IsNone Returned b text (none_left text) ih.names k (type_byte k b) ih.types;
      names = λ w. cut_name IsNone Returned b text (none_left text) ih.names w (name_byte w b);
    }

record ReturnFrom (text : List ℕ) : Type 0 where
  ret : Option Ty
  is : IfSome ret IsType
  spelled : return_text ret ≡ text

return_type_from : (text : List ℕ) → Cut IsNone (Array Alone 0) text → ReturnFrom text
return_type_from text r =
    let t = type_text r.front r.run in
    record { ret = Some t.0; is = t.1; spelled = t.2 ∙ sym (append-nil r.front) ∙ ap (λ l. r.front ++ l) (sym r.tail) ∙ sym r.split }

return_from : (text : List ℕ) → after Return text ≡ Some Whole → ReturnFrom text
return_from [] e = absurd (cc)
return_from (b ∷ text) e =
    elim (cases_eq b 86) [
      | inl is ↦
          let none = none_left text (going Return Whole b text (ap (step Return) is) e) in
          record { ret = None; is = tt; spelled = ap (λ z. z ∷ []) (sym is) ∙ ap (λ l. b ∷ l) (sym none) }
      | inr ne ↦ return_type_from (b ∷ text) ((return_cuts (b ∷ text)).types 0 (ap (option_and_then (λ k. after k text)) (sym (cond-false (eqb b 86) _ _ (ne_eqb b 86 ne))) ∙ e))
    ]

-- ---- a prototype

record ProtoTail (text : List ℕ) : Type 0 where
  params : List Ty
  ret : Option Ty
  are : All IsType params
  is : IfSome ret IsType
  spelled : flat_map descriptor params ++ 41 ∷ return_text ret ≡ text

record ProtoCuts (text : List ℕ) : Type 0 where
  tails : after Parameters text ≡ Some Whole → ProtoTail text
  types : (k : ℕ) → after (Array Parameter k) text ≡ Some Whole → Cut ProtoTail (Array Alone k) text
  names : (w : Part) → after (Name Parameter w) text ≡ Some Whole → Cut ProtoTail (Name Alone w) text

closed : (b : ℕ) (text : List ℕ) → b ≡ 41 → ReturnFrom text → ProtoTail (b ∷ text)
closed b text is r = record {
  params = [];
  ret = r.ret;
  are = All-nil IsType;
  is = r.is;
  spelled = ap (λ z. z ∷ return_text r.ret) (sym is) ∙ ap (λ l. b ∷ l) r.spelled;
}

one_more : (text : List ℕ) → Cut ProtoTail (Array Alone 0) text → ProtoTail text
one_more text r =
    let t = type_text r.front r.run in
    let more = r.tail in
    record {
      params = t.0 ∷ more.params;
      ret = more.ret;
      are = All-cons IsType t.0 more.params t.1 more.are;
      is = more.is;
      spelled = append_assoc (descriptor t.0) (flat_map descriptor more.params) (41 ∷ return_text more.ret) ∙ ap (λ l. l ++ (flat_map descriptor more.params ++ 41 ∷ return_text more.ret)) t.2
          ∙ ap (λ l. r.front ++ l) more.spelled ∙ sym r.split;
    }

proto_cuts : (text : List ℕ) → ProtoCuts text
proto_cuts [] = record { tails = λ e. absurd (cc); types = λ k e. absurd (cc); names = λ w e. absurd (cc) }
proto_cuts (b ∷ text) =
    let ih = proto_cuts text in
    record {
      tails = λ e. elim (cases_eq b 41) [
        | inl is ↦ closed b text is (return_from text (going Parameters Return b text (ap (step Parameters) is) e))
        | inr ne ↦ one_more (b ∷ text) (cut_type ProtoTail Parameter b text ih.tails ih.names 0 (type_byte 0 b) ih.types
            (ap (option_and_then (λ k. after k text)) (sym (cond-false (eqb b 41) _ _ (ne_eqb b 41 ne))) ∙ e))
      ];
      types = λ k. cut_type ProtoTail Parameter b text ih.tails ih.names k (type_byte k b) ih.types;
      names = λ w. cut_name ProtoTail Parameter b text ih.tails ih.names w (name_byte w b);
    }

opened : (b : ℕ) (text : List ℕ) → b ≡ 40 → ProtoTail text → IsProtoText (b ∷ text)
opened b text is r = (record { params = r.params; ret = r.ret }, (r.are, r.is), ap (λ z. z ∷ (flat_map descriptor r.params ++ 41 ∷ return_text r.ret)) (sym is) ∙ ap (λ l. b ∷ l) r.spelled)

pub proto_text : (text : List ℕ) → after Open text ≡ Some Whole → IsProtoText text
proto_text [] e = absurd (cc)
proto_text (b ∷ text) e =
    elim (cases_eq b 40) [
      | inl is ↦ opened b text is ((proto_cuts text).tails (going Open Parameters b text (ap (step Open) is) e))
      | inr ne ↦ absurd (stuck Open b text (cond-false (eqb b 40) _ _ (ne_eqb b 40 ne)) e)
    ]
