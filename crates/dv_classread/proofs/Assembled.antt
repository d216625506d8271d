-- Bodies that are assembled, one behind the other.
use Rattle.std.proofs.Common.{◌≡◌, List, [], ◌∷◌, ◌++◌, length, Option, Some, None, Result, Ok, Err, refl, sym, ap, ◌∙◌, append_assoc, append-nil, arith}
use Rattle.dv_defs.specs.declared.faults.LineError.{LineError}
use Rattle.dv_defs.specs.declared.faults.LineError.TheVariants as error
use Rattle.dv_defs.specs.Body.{BodyValue}
use Rattle.dv_draft.specs.Draft.{DraftValue}
use Rattle.dv_asm.specs.Layout.{layout}
use Rattle.dv_asm.specs.Refusals.{Refusal, Tells, refusal}
use Rattle.dv_lex.specs.declared.line.Stop.{Stop}
use Rattle.dv_coderead.specs.Giving.{◌>>>◌, Stops}
use Rattle.dv_coderead.proofs.Drafts.{stops_all}
use Rattle.dv_classread.specs.declared.program.BodyDraft.{BodyDraft}
use Rattle.dv_classread.specs.declared.program.BodyDraft.TheVariants as body
use Rattle.dv_classread.specs.Assembling.{and_then, assembled, assembled_by, assembled_class, assembled_method, classes_of, methods_of}

-- ---- a body

told_refusal : (e : LineError) (r : Option Refusal) (b : BodyValue) → Tells e r → Stops e (assembled_by r b)
told_refusal error.Memory r b tells = tt
told_refusal (error.At line kind) r b tells = ap (λ s. assembled_by s b) tells

module _ (d : DraftValue) (b : Option BodyDraft) (is : b ≡ Some (body.Drafted d)) where
  pub body_laid : (v : BodyValue) → refusal d ≡ None → v ≡ layout d → assembled b ≡ Ok (Some v)
  unfolding assembled
  body_laid v sound value = ap assembled is ∙ ap (λ r. assembled_by r (layout d)) sound ∙ ap (λ l. Ok (Some l)) (sym value)

  pub body_refused : (e : LineError) → Tells e (refusal d) → Stops e (assembled b)
  unfolding assembled
  body_refused e tells = stops_all e (assembled_by (refusal d) (layout d)) (assembled b) (λ s stops. ap assembled is ∙ stops) (told_refusal e (refusal d) (layout d) tells)

-- ---- one behind the other

and_then_and_then : {A : Type 0} (xs ys : List A) (r : Result (List A) Stop) → and_then xs (and_then ys r) ≡ and_then (xs ++ ys) r
and_then_and_then xs ys (Ok zs) = ap Ok (sym (append_assoc xs ys zs))
and_then_and_then xs ys (Err e) = refl

none_before : {A : Type 0} (r : Result (List A) Stop) → r ≡ and_then [] r
none_before (Ok ys) = refl
none_before (Err e) = refl

no_item : {A : Type 0} (xs : List A) → length xs ≡ 0 → xs ≡ []
no_item [] is = refl
no_item (x ∷ xs) is = absurd (omega arith)

-- all is one behind the other
pub record InTurn {A B : Type 0} (one : A → Result B Stop) (all : List A → Result (List B) Stop) : Type 0 where
  pub none : all [] ≡ Ok []
  pub more : (x : A) (xs : List A) → all (x ∷ xs) ≡ (one x >>> λ d. and_then (d ∷ []) (all xs))

module _ {A B : Type 0} {one : A → Result B Stop} {all : List A → Result (List B) Stop} (turns : InTurn one all) where
  pub turn_none : (whole : Result (List B) Stop) (done : List B) (left : List A) → whole ≡ and_then done (all left) → length left ≡ 0 → whole ≡ Ok done
  turn_none whole done left so_far none = so_far ∙ ap (λ ls. and_then done (all ls)) (no_item left none) ∙ ap (and_then done) turns.none ∙ ap Ok (append-nil done)

  module _ (whole : Result (List B) Stop) (done : List B) (left : List A) (x : A) (rest : List A) (so_far : whole ≡ and_then done (all left)) (next : left ≡ x ∷ rest) where
    this_turn : whole ≡ and_then done (one x >>> λ d. and_then (d ∷ []) (all rest))
    this_turn = so_far ∙ ap (λ ls. and_then done (all ls)) next ∙ ap (and_then done) (turns.more x rest)

    by_one : Result B Stop → Result (List B) Stop
    by_one r = and_then done (r >>> λ d. and_then (d ∷ []) (all rest))

    pub turn_more : (d : B) → one x ≡ Ok d → (new : List B) → new ≡ done ++ d ∷ [] → whole ≡ and_then new (all rest)
    unfolding by_one
    turn_more d is new added = this_turn ∙ ap by_one is ∙ and_then_and_then done (d ∷ []) (all rest) ∙ ap (λ ds. and_then ds (all rest)) (sym added)

    pub turn_refused : (e : LineError) → Stops e (one x) → Stops e whole
    unfolding by_one
    turn_refused e stops = stops_all e (one x) whole (λ s is. this_turn ∙ ap by_one is) stops

-- ---- methods, and classes

pub methods_in_turn : InTurn assembled_method methods_of
unfolding methods_of
methods_in_turn = record { none = refl; more = λ m ms. refl }

pub classes_in_turn : InTurn assembled_class classes_of
unfolding classes_of
classes_in_turn = record { none = refl; more = λ c cs. refl }
