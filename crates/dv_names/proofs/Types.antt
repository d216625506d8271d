-- A type's descriptor, byte by byte.
use Rattle.std.proofs.Common.{◌≡◌, ℕ, zero, suc, ◌+◌, ◌-◌, ◌<◌, ◌≤◌, List, [], ◌∷◌, ◌++◌, length, get_or, drop, replicate, Option, Some, None, refl, sym, ap, subst, ◌∙◌, arith}
use Rattle.std.specs.Prelude.{slice_range}
use Rattle.std.specs.Option.{option_and_then}
use Rattle.std.proofs.lemmas.List.Edits.{between_more}
use Rattle.dv_defs.specs.declared.names.Base.{Base}
use Rattle.dv_defs.specs.declared.names.Base.TheVariants as base
use Rattle.dv_defs.specs.declared.names.Ty.{Ty}
use Rattle.dv_names.specs.declared.error.NameError.{NameError}
use Rattle.dv_names.specs.declared.error.NameError.TheVariants as error
use Rattle.dv_names.specs.Descriptors.{base_text, descriptor, IsBase, IsType, IsClassName}
use Rattle.dv_names.specs.Grammar.{Position, Alone, Before, Array, Name, Whole, mode_behind, after, refusal, no_type, primitive_of, Refuses}
use Rattle.dv_names.proofs.Steps.{after_both, parts, one, first_byte, refusal_from, refusal_here, refusal_end}
use Rattle.dv_names.proofs.Bytes.{step_bracket, step_no_type, step_class, primitive_text}
use Rattle.dv_names.proofs.Classes.{class_run, class_from}

-- ---- from types to bytes

pub brackets_run : (p : Position) (n k : ℕ) → k + n ≤ 255 → after (Array p k) (replicate n 91) ≡ Some (Array p (k + n))
brackets_run p zero k few = let e : k ≡ k + 0 = omega arith in ap (λ i. Some (Array p i)) e
brackets_run p (suc n) k few =
    let e : suc k + n ≡ k + suc n = omega arith in
    ap (option_and_then (λ m. after m (replicate n 91))) (step_bracket p k (omega arith)) ∙ brackets_run p n (suc k) (omega arith) ∙ ap (λ i. Some (Array p i)) e

base_run : (p : Position) (n : ℕ) (b : Base) → IsBase b → after (Array p n) (base_text b) ≡ Some (mode_behind p)
base_run p n base.Z is = refl
base_run p n base.B is = refl
base_run p n base.C is = refl
base_run p n base.S is = refl
base_run p n base.I is = refl
base_run p n base.J is = refl
base_run p n (base.Class name) is = class_run p n name is

pub type_run : (p : Position) (t : Ty) → IsType t → after (Array p 0) (descriptor t) ≡ Some (mode_behind p)
type_run p t is = after_both (replicate t.dims 91) (base_text t.base) (Array p 0) (Array p (0 + t.dims)) (brackets_run p t.dims 0 (omega (arith, is.0))) ∙ base_run p (0 + t.dims) t.base is.1

-- ---- refusals

pub refuses_is : (e : NameError) (found : Option NameError) → found ≡ Some e → Refuses e found
refuses_is (error.BadDescriptor n) found is = is
refuses_is (error.FloatType n) found is = is
refuses_is error.Memory found is = tt

pub refuses_same : (e : NameError) (found other : Option NameError) → other ≡ found → Refuses e found → Refuses e other
refuses_same (error.BadDescriptor n) found other same is = same ∙ is
refuses_same (error.FloatType n) found other same is = same ∙ is
refuses_same error.Memory found other same is = tt

-- ---- a type at a place, whose brackets are read

module _ (text : List ℕ) (start at : ℕ) (before : start ≤ at) (within : at ≤ length text) (few : at - start ≤ 255)
    (brackets : slice_range text start at ≡ replicate (at - start) 91) where
  array : (p : Position) → after (Array p 0) (slice_range text start at) ≡ Some (Array p (at - start))
  array p = let e : 0 + (at - start) ≡ at - start = omega arith in ap (after (Array p 0)) brackets ∙ brackets_run p (at - start) 0 (omega arith) ∙ ap (λ i. Some (Array p i)) e

  -- the same refusal, behind the brackets
  skip : (p : Position) → refusal (Array p 0) start (drop start text) ≡ refusal (Array p (at - start)) at (drop at text)
  skip p = refusal_from text start at (Array p 0) (Array p (at - start)) before within (array p)

  pub type_open : at ≡ length text → (p : Position) → refusal (Array p 0) start (drop start text) ≡ Some (error.BadDescriptor at)
  type_open end p = skip p ∙ refusal_end text at (Array p (at - start)) (omega arith)

  pub type_refused : at < length text → (at - start < 255 → get_or text at 0 ≡ 91 → ⊥) → primitive_of (get_or text at 0) ≡ None → (get_or text at 0 ≡ 76 → ⊥)
      → (e : NameError) → e ≡ no_type (get_or text at 0) at → (p : Position) → Refuses e (refusal (Array p 0) start (drop start text))
  type_refused lt most none other e is p =
      refuses_is e _ (skip p ∙ refusal_here text at (Array p (at - start)) lt (step_no_type p (at - start) (get_or text at 0) most none other) ∙ ap (λ x. Some x) (sym is))

  pub primitive_spelled : at < length text → (b : Base) → primitive_of (get_or text at 0) ≡ Some b
      → IsBase b × (slice_range text start (at + 1) ≡ descriptor (record { dims = at - start; base = b }))
  primitive_spelled lt b is =
      let letter = primitive_text (get_or text at 0) b is in
      (letter.1, between_more text start at 0 before lt ∙ ap (λ l. l ++ get_or text at 0 ∷ []) brackets ∙ ap (λ l. replicate (at - start) 91 ++ l) (sym letter.0))

  module _ (lt : at < length text) (letter : get_or text at 0 ≡ 76) where
    class_skip : (p : Position) → refusal (Array p 0) start (drop start text) ≡ refusal (Name p Before) (at + 1) (drop (at + 1) text)
    class_skip p =
        let run : after (Array p (at - start)) (slice_range text at (at + 1)) ≡ Some (Name p Before) =
        ap (after (Array p (at - start))) (one text at lt) ∙ ap (option_and_then (λ m. Some m)) (step_class p (at - start) (get_or text at 0) letter) in
        skip p ∙ refusal_from text at (at + 1) (Array p (at - start)) (Name p Before) (omega arith) (omega arith) run

    pub class_refused : (e : NameError) → ((p : Position) → Refuses e (refusal (Name p Before) (at + 1) (drop (at + 1) text))) → (p : Position) → Refuses e (refusal (Array p 0) start (drop start text))
    class_refused e rest p = refuses_same e _ _ (class_skip p) (rest p)

    pub class_spelled : (end : ℕ) → at + 1 < end → end ≤ length text → after (Name Alone Before) (slice_range text (at + 1) end) ≡ Some Whole
        → (name : List ℕ) → name ≡ slice_range text at end
        → IsClassName name × (slice_range text start end ≡ descriptor (record { dims = at - start; base = base.Class name }))
    class_spelled end past inside run name is =
        let first = is ∙ first_byte text at end (omega arith) inside in (
          let P : List ℕ → Type 0 = λ l. IsClassName l in subst P (sym first) (class_from (get_or text at 0) (slice_range text (at + 1) end) letter run),
          parts text start at end before (omega arith) ∙ ap (λ l. l ++ slice_range text at end) brackets ∙ ap (λ l. replicate (at - start) 91 ++ l) (sym is),
        )
