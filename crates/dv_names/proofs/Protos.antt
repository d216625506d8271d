-- A prototype, byte by byte.
use Rattle.std.proofs.Common.{◌≡◌, ℕ, suc, ◌+◌, ◌<◌, ◌≤◌, Bool, false, eqb, List, [], ◌∷◌, ◌++◌, length, get_or, drop, Option, Some, None, ◌⊎◌, inl, inr, refl, sym, ap, ◌∙◌, arith}
use Rattle.std.specs.Prelude.{slice_range, IfSome}
use Rattle.std.specs.Option.{option_and_then, option_map_or}
use Rattle.std.specs.List.{All, flat_map}
use Rattle.std.proofs.lemmas.List.{append-nil, append_assoc, at_drop_more, take_all}
use Rattle.std.proofs.lemmas.Slice.{between_from_start}
use Rattle.std.proofs.lemmas.List.Concat.{flat_map-append}
use Rattle.std.proofs.lemmas.List.Elements.{All-head, All-tail}
use Rattle.std.proofs.lemmas.Bool.{cond-false, ne_eqb, eqb-false, cases_eq}
use Rattle.dv_defs.specs.declared.names.Ty.{Ty}
use Rattle.dv_defs.specs.declared.names.Proto.{Proto}
use Rattle.dv_names.specs.declared.error.NameError.TheVariants as error
use Rattle.dv_names.specs.Descriptors.{descriptor, return_text, prototype, IsType, IsProto}
use Rattle.dv_names.specs.Grammar.{Position, Alone, Parameter, Returned, Mode, Open, Parameters, Return, Array, Whole, step, after, refusal, type_refusal, proto_refusal, no_type}
use Rattle.dv_names.specs.Parts.{ReadsParameters}
use Rattle.dv_names.proofs.Steps.{after_both, refusal_behind, refusal_from, refusal_here, refusal_end, parts, one}
use Rattle.dv_names.proofs.Types.{type_run}

-- ---- a type where parameters or a result may end

not_close : (b : ℕ) → (b ≡ 41 → ⊥) → step Parameters b ≡ step (Array Parameter 0) b
not_close b ne = cond-false (eqb b 41) _ _ (ne_eqb b 41 ne)

not_void : (b : ℕ) → (b ≡ 86 → ⊥) → step Return b ≡ step (Array Returned 0) b
not_void b ne = cond-false (eqb b 86) _ _ (ne_eqb b 86 ne)

-- no type begins with this byte
cannot : (p : Position) (b : ℕ) (text : List ℕ) (n : Mode) → step (Array p 0) b ≡ None → after (Array p 0) (b ∷ text) ≡ Some n → ⊥
cannot p b text n e is = let h : None ≡ Some n = sym (ap (option_and_then (λ k. after k text)) e) ∙ is in absurd (cc)

parameter_run : (text : List ℕ) → after (Array Parameter 0) text ≡ Some Parameters → after Parameters text ≡ Some Parameters
parameter_run [] e = refl
parameter_run (b ∷ text) e =
    elim (cases_eq b 41) [
      | inl is ↦ absurd (cannot Parameter b text Parameters (ap (step (Array Parameter 0)) is) e)
      | inr ne ↦ ap (option_and_then (λ k. after k text)) (not_close b ne) ∙ e
    ]

return_type_run : (text : List ℕ) → after (Array Returned 0) text ≡ Some Whole → after Return text ≡ Some Whole
return_type_run [] e = absurd (cc)
return_type_run (b ∷ text) e =
    elim (cases_eq b 86) [
      | inl is ↦ absurd (cannot Returned b text Whole (ap (step (Array Returned 0)) is) e)
      | inr ne ↦ ap (option_and_then (λ k. after k text)) (not_void b ne) ∙ e
    ]

pub parameters_run : (ts : List Ty) → All IsType ts → after Parameters (flat_map descriptor ts) ≡ Some Parameters
parameters_run [] are = refl
parameters_run (t ∷ ts) are =
    after_both (descriptor t) (flat_map descriptor ts) Parameters Parameters (parameter_run (descriptor t) (type_run Parameter t (All-head IsType t ts are)))
    ∙ parameters_run ts (All-tail IsType t ts are)

return_run : (r : Option Ty) → IfSome r IsType → after Return (return_text r) ≡ Some Whole
return_run None is = refl
return_run (Some t) is = return_type_run (descriptor t) (type_run Returned t is)

pub proto_run : (p : Proto) → IsProto p → after Open (prototype p) ≡ Some Whole
proto_run p is =
    after_both (flat_map descriptor p.params) (41 ∷ return_text p.ret) Parameters Parameters (parameters_run p.params is.0) ∙ return_run p.ret is.1

-- ---- a whole text isn't refused

pub whole : (m : Mode) (text : List ℕ) → after m text ≡ Some Whole → refusal m 0 text ≡ None
unfolding refusal
whole m text e = ap (refusal m 0) (sym (append-nil text)) ∙ refusal_behind text [] 0 Whole m e

module _ (text : List ℕ) where
  pub too_long : (m : Mode) (end : ℕ) → end < length text → after m (slice_range text 0 end) ≡ Some Whole → refusal m 0 text ≡ Some (error.BadDescriptor end)
  too_long m end lt e = refusal_from text 0 end m Whole (omega arith) (omega arith) e ∙ refusal_here text end Whole lt refl

  -- ---- parameters and result at a place

  pub more_parameters : (at : ℕ) → at < length text → (get_or text at 0 ≡ 41 → ⊥) → refusal Parameters at (drop at text) ≡ refusal (Array Parameter 0) at (drop at text)
  unfolding refusal
  more_parameters at lt ne =
      at_drop_more (refusal Parameters at) text at 0 lt
      ∙ ap (λ o. option_map_or (λ k. refusal k (suc at) (drop (at + 1) text)) o (Some (no_type (get_or text at 0) at))) (not_close (get_or text at 0) ne)
      ∙ sym (at_drop_more (refusal (Array Parameter 0) at) text at 0 lt)

  pub parameters_so_far : (start at : ℕ) (ts : List Ty) → start ≤ at → at ≤ length text → All IsType ts → slice_range text start at ≡ flat_map descriptor ts
      → refusal Parameters start (drop start text) ≡ refusal Parameters at (drop at text)
  parameters_so_far start at ts before within are spelled =
      refusal_from text start at Parameters Parameters before within (ap (after Parameters) spelled ∙ parameters_run ts are)

  pub parameters_more : (start at end : ℕ) (ts us : List Ty) (t : Ty) → start ≤ at → at ≤ end → us ≡ ts ++ t ∷ []
      → slice_range text start at ≡ flat_map descriptor ts → slice_range text at end ≡ descriptor t → slice_range text start end ≡ flat_map descriptor us
  parameters_more start at end ts us t before behind pushed so_far last =
      parts text start at end before behind ∙ ap (λ l. l ++ slice_range text at end) so_far ∙ ap (λ l. flat_map descriptor ts ++ l) (last ∙ sym (append-nil (descriptor t)))
      ∙ sym (flat_map-append descriptor ts (t ∷ [])) ∙ ap (flat_map descriptor) (sym pushed)

  return_here : (at : ℕ) → at < length text → (get_or text at 0 ≡ 86 → ⊥) → refusal Return at (drop at text) ≡ refusal (Array Returned 0) at (drop at text)
  unfolding refusal
  return_here at lt ne =
      at_drop_more (refusal Return at) text at 0 lt
      ∙ ap (λ o. option_map_or (λ k. refusal k (suc at) (drop (at + 1) text)) o (Some (no_type (get_or text at 0) at))) (not_void (get_or text at 0) ne)
      ∙ sym (at_drop_more (refusal (Array Returned 0) at) text at 0 lt)

  pub return_type : (at : ℕ) → ((at < length text) × (get_or text at 0 ≡ 86 → ⊥)) ⊎ (length text ≤ at) → refusal Return at (drop at text) ≡ refusal (Array Returned 0) at (drop at text)
  return_type at (inl h) = return_here at h.0 h.1
  return_type at (inr le) = refusal_end text at Return le ∙ sym (refusal_end text at (Array Returned 0) le)

  -- ---- the whole

  module _ (close : ℕ) (ts : List Ty) (begun : get_or text 0 0 ≡ 40) (read : ReadsParameters text 1 ts close) where
    -- what stands before the result
    front : slice_range text 0 (close + 1) ≡ 40 ∷ (flat_map descriptor ts ++ 41 ∷ [])
    front =
        parts text 0 1 (close + 1) (omega arith) (omega (arith, read.0))
        ∙ ap (λ l. l ++ slice_range text 1 (close + 1)) (one text 0 (omega (arith, read.1)) ∙ ap (λ b. b ∷ []) begun)
        ∙ ap (λ l. 40 ∷ l) (parts text 1 close (close + 1) read.0 (omega arith) ∙ ap (λ l. l ++ slice_range text close (close + 1)) read.4
        ∙ ap (λ l. flat_map descriptor ts ++ l) (one text close read.1 ∙ ap (λ b. b ∷ []) read.2))

    pub at_return : refusal Open 0 text ≡ refusal Return (close + 1) (drop (close + 1) text)
    at_return =
        refusal_from text 0 (close + 1) Open Return (omega arith) (omega (arith, read.1))
        (ap (after Open) front ∙ after_both (flat_map descriptor ts) (41 ∷ []) Parameters Parameters (parameters_run ts read.3))

    pub spelled_proto : (end : ℕ) (p : Proto) → close + 1 < end → p.params ≡ ts → slice_range text (close + 1) end ≡ return_text p.ret → slice_range text 0 end ≡ prototype p
    spelled_proto end p past same result =
        parts text 0 (close + 1) end (omega arith) (omega arith) ∙ ap (λ l. l ++ slice_range text (close + 1) end) front
        ∙ ap (λ l. 40 ∷ l) (append_assoc (flat_map descriptor ts) (41 ∷ []) (slice_range text (close + 1) end) ∙ ap (λ l. flat_map descriptor ts ++ (41 ∷ l)) result
        ∙ ap (λ us. flat_map descriptor us ++ (41 ∷ return_text p.ret)) (sym same))

  pub is_some_byte : (t : Bool) → t ≡ eqb (length text) 0 → t ≡ false → 0 < length text
  is_some_byte t e f = let ne = eqb-false (length text) 0 (sym e ∙ f) in omega (arith, ne)

  pub at_open : 0 < length text → get_or text 0 0 ≡ 40 → refusal Open 0 text ≡ refusal Parameters 1 (drop 1 text)
  at_open some begun =
      refusal_from text 0 1 Open Parameters (omega arith) (omega arith) (ap (after Open) (one text 0 some) ∙ ap (λ b. after Open (b ∷ [])) begun)

  pub not_open : (length text ≤ 0) ⊎ ((0 < length text) × (get_or text 0 0 ≡ 40 → ⊥)) → refusal Open 0 text ≡ Some (error.BadDescriptor 0)
  not_open (inl none) = refusal_end text 0 Open none
  not_open (inr h) = refusal_here text 0 Open h.0 (cond-false (eqb (get_or text 0 0) 40) _ _ (ne_eqb (get_or text 0 0) 40 h.1))

  pub all_of : (end : ℕ) → length text ≤ end → slice_range text 0 end ≡ text
  all_of end le = between_from_start text end ∙ take_all end text le

-- ---- the text of a type or a prototype isn't refused

pub type_none : (t : Ty) (text : List ℕ) → IsType t → descriptor t ≡ text → type_refusal text ≡ None
type_none t text is same = sym (ap type_refusal same) ∙ whole (Array Alone 0) (descriptor t) (type_run Alone t is)

pub proto_none : (p : Proto) (text : List ℕ) → IsProto p → prototype p ≡ text → proto_refusal text ≡ None
proto_none p text is same = sym (ap proto_refusal same) ∙ whole Open (prototype p) (proto_run p is)
