-- A test that finds methods accepted, by states that it is given.
use Rattle.std.proofs.Common.{◌≡◌, inl, inr, ℕ, zero, suc, ◌<◌, ◌≤◌, List, [], ◌∷◌, length, Bool, true, false, ◌&&◌, ◌||◌, not, Option, Some, None, refl, ap, ◌∙◌, subst, arith}
use Rattle.std.specs.Prelude.{slice_index_or, is_none, All}
use Rattle.std.proofs.lemmas.Bool.{cases_lt, eqb-true}
use Rattle.std.proofs.lemmas.Option.{slice_get_past}
use Rattle.std.proofs.lemmas.Slice.Eq.{bytes_eq-Decides}
use Rattle.dv_defs.specs.declared.names.Base.{Base}
use Rattle.dv_defs.specs.declared.names.Base.TheVariants as base
use Rattle.dv_defs.specs.declared.names.Ty.{Ty}
use Rattle.dv_defs.specs.Images.{Image}
use Rattle.dv_typing.specs.declared.typing.RegType.{RegType}
use Rattle.dv_typing.specs.declared.typing.RegType.TheVariants as ty
use Rattle.dv_typing.specs.declared.typing.PendingType.{PendingType}
use Rattle.dv_typing.specs.declared.typing.PendingType.TheVariants as pend
use Rattle.dv_typing.specs.declared.typing.RegState.{RegState}
use Rattle.dv_defs.specs.declared.faults.Rule.{Rule}
use Rattle.dv_defs.specs.Types.{base_eq, ty_eq}
use Rattle.dv_defs.specs.Order.{sub}
use Rattle.dv_defs.specs.Pools.{method_at}
use Rattle.dv_defs.specs.Op.{Code, code_at, can_throw}
use Rattle.dv_typing.specs.Statics.{At, fetch}
use Rattle.dv_typing.specs.RegTypes.{Types, type_at, under, UnderPending, UnderCaught, IsBelow}
use Rattle.dv_typing.specs.Demands.{ok}
use Rattle.dv_typing.specs.Transfer.{entry_state, out}
use Rattle.dv_typing.specs.Flow.{Catcher, Typing, Leads, Flows, IsTyping, targets, handlers_at, thrown_at, caught_state}
use Rattle.dv_typing.specs.Joins.{same_type}
use Rattle.dv_typing.specs.Accepting.{Place, static_places, IsAcceptedMethod, Accepts}
use Rattle.test_machine.specs.Passes.{States, state_there, passes, states_on_entry}

no : {A : Type 0} → false ≡ true → A
no e = absurd (cc)

both : (a b : Bool) → (a && b) ≡ true → (a ≡ true) × (b ≡ true)
both true b e = (refl, e)
both false b e = no e

from_or : (a b : Bool) → (not a || b) ≡ true → a ≡ true → b ≡ true
from_or true b e h = e
from_or false b e h = no h

all_nil : {X : Type 0} (P : X → Type 0) → All P []
all_nil P k d h = absurd (omega arith)

all_cons : {X : Type 0} (P : X → Type 0) (x : X) (xs : List X) → P x → All P xs → All P (x ∷ xs)
all_cons P x xs p ps zero d h = p
all_cons P x xs p ps (suc k) d h = ps k d (omega arith)

-- ---- equal types

base_is : (a b : Base) → base_eq a b ≡ true → a ≡ b
base_is base.Z base.Z e = refl
base_is base.B base.B e = refl
base_is base.C base.C e = refl
base_is base.S base.S e = refl
base_is base.I base.I e = refl
base_is base.J base.J e = refl
base_is (base.Class x) (base.Class y) e = ap base.Class ((bytes_eq-Decides x y).0 e)
base_is a b e = no e

ty_is : (a b : Ty) → ty_eq a b ≡ true → a ≡ b
ty_is a b e =
    let p = both _ _ e in
    let made : ℕ → Base → Ty = λ n x. record { dims = n; base = x } in
    ap (λ n. made n a.base) (eqb-true a.dims b.dims p.0) ∙ ap (made b.dims) (base_is a.base b.base p.1)

type_is : (s t : RegType) → same_type s t ≡ true → s ≡ t
type_is ty.Conflict ty.Conflict e = refl
type_is ty.Zero ty.Zero e = refl
type_is ty.Int ty.Int e = refl
type_is ty.LongLo ty.LongLo e = refl
type_is ty.LongHi ty.LongHi e = refl
type_is (ty.Class a) (ty.Class b) e = ap ty.Class (ty_is a b e)
type_is (ty.Uninit a) (ty.Uninit b) e = ap ty.Uninit (eqb-true a b e)
type_is ty.UninitThis ty.UninitThis e = refl
type_is s t e = no e

-- ---- a state under another

abbrev pub regs_below : Image → Types → Types → Bool
regs_below image [] [] = true
regs_below image (s ∷ ss) (t ∷ ts) = under image s t && regs_below image ss ts
regs_below image ss ts = false

regs_each : (image : Image) (ss ts : Types) → regs_below image ss ts ≡ true → (k : ℕ) → under image (type_at ss k) (type_at ts k) ≡ true
regs_each image [] [] e k = refl
regs_each image (s ∷ ss) (t ∷ ts) e zero = (both _ _ e).0
regs_each image (s ∷ ss) (t ∷ ts) e (suc k) = regs_each image ss ts (both _ _ e).1 k
regs_each image ss ts e k = no e

regs_count : (image : Image) (ss ts : Types) → regs_below image ss ts ≡ true → length ss ≡ length ts
regs_count image [] [] e = refl
regs_count image (s ∷ ss) (t ∷ ts) e = ap suc (regs_count image ss ts (both _ _ e).1)
regs_count image ss ts e = no e

abbrev pub result_below : PendingType → PendingType → Bool
result_below r pend.None = true
result_below (pend.One s) (pend.One t) = same_type s t
result_below pend.Long pend.Long = true
result_below r s = false

result_is : (r s : PendingType) → result_below r s ≡ true → UnderPending r s
result_is r pend.None e = tt
result_is (pend.One s) (pend.One t) e = ap pend.One (type_is s t e)
result_is pend.Long pend.Long e = refl
result_is r s e = no e

abbrev pub caught_below : Image → Option Ty → Option Ty → Bool
caught_below image c None = true
caught_below image (Some c) (Some d) = sub image c d
caught_below image c d = false

caught_is : (image : Image) (c d : Option Ty) → caught_below image c d ≡ true → UnderCaught image c d
caught_is image c None e = tt
caught_is image (Some c) (Some d) e = e
caught_is image None (Some d) e = no e

abbrev pub state_below : Image → RegState → RegState → Bool
state_below image s t = regs_below image s.regs t.regs && (result_below s.result t.result && (caught_below image s.caught t.caught && (not s.this_pending || t.this_pending)))

below_is : (image : Image) (s t : RegState) → state_below image s t ≡ true → IsBelow image s t
below_is image s t e =
    let p = both _ _ e in
    let q = both _ _ p.1 in
    let r = both _ _ q.1 in
    record { each = regs_each image s.regs t.regs p.0; count = regs_count image s.regs t.regs p.0; result = result_is s.result t.result q.0; caught = caught_is image s.caught t.caught r.0; this_pending = from_or s.this_pending t.this_pending r.1 }

-- ---- edges

abbrev pub leads_to : Image → RegState → Option RegState → Bool
leads_to image s None = false
leads_to image s (Some t) = state_below image s t

leads_is : (image : Image) (T : Typing) (s : RegState) (to : ℕ) (o : Option RegState) → T to ≡ o → leads_to image s o ≡ true → Leads image T s to
leads_is image T s to None h e = no e
leads_is image T s to (Some t) h e = record { state = t; has_state = h; below = below_is image s t e }

abbrev pub all_lead : Image → Typing → RegState → List ℕ → Bool
all_lead image T s [] = true
all_lead image T s (to ∷ tos) = leads_to image s (T to) && all_lead image T s tos

all_lead_is : (image : Image) (n : ℕ) (T : Typing) (s : RegState) (tos : List ℕ) → all_lead image T s tos ≡ true → All (λ to. (y : At) → fetch image n to ≡ Some y → Leads image T s to) tos
all_lead_is image n T s [] e = all_nil (λ to. (y : At) → fetch image n to ≡ Some y → Leads image T s to)
all_lead_is image n T s (to ∷ tos) e = let p = both _ _ e in all_cons (λ to. (y : At) → fetch image n to ≡ Some y → Leads image T s to) to tos (λ y h. leads_is image T s to (T to) refl p.0) (all_lead_is image n T s tos p.1)

abbrev pub all_caught : Image → Typing → RegState → List Catcher → Bool
all_caught image T s [] = true
all_caught image T s (h ∷ hs) = leads_to image (caught_state s h) (T h.to) && all_caught image T s hs

all_caught_is : (image : Image) (n : ℕ) (T : Typing) (s : RegState) (hs : List Catcher) → all_caught image T s hs ≡ true → All (λ h. (y : At) → fetch image n h.to ≡ Some y → Leads image T (caught_state s h) h.to) hs
all_caught_is image n T s [] e = all_nil (λ h. (y : At) → fetch image n h.to ≡ Some y → Leads image T (caught_state s h) h.to)
all_caught_is image n T s (h ∷ hs) e = let p = both _ _ e in all_cons (λ h. (y : At) → fetch image n h.to ≡ Some y → Leads image T (caught_state s h) h.to) h hs (λ y g. leads_is image T (caught_state s h) h.to (T h.to) refl p.0) (all_caught_is image n T s hs p.1)

none_is : (r : Option Rule) → is_none r ≡ true → r ≡ None
none_is None e = refl
none_is (Some r) e = no e

-- ---- an address

abbrev pub fine_at : Image → Code → Typing → ℕ → RegState → Option At → Bool
fine_at image code T at s None = false
fine_at image code T at s (Some x) = all_lead image T (out image code.method at x.op s) (targets x) && ((not (can_throw x.op) || all_caught image T s (handlers_at image code.method.id (thrown_at at x))) && is_none (ok image code.method x s))

pub record FineAt (image : Image) (code : Code) (T : Typing) (at : ℕ) (s : RegState) : Type 0 where
  pub x : At
  pub has_x : fetch image code.method.id at ≡ Some x
  pub flows : Flows image code.method T at x s
  pub good : ok image code.method x s ≡ None

fine_is : (image : Image) (code : Code) (T : Typing) (at : ℕ) (s : RegState) (o : Option At) → fetch image code.method.id at ≡ o → fine_at image code T at s o ≡ true → FineAt image code T at s
fine_is image code T at s None h e = no e
fine_is image code T at s (Some x) h e =
    let p = both _ _ e in
    let q = both _ _ p.1 in
    record { x = x; has_x = h; flows = record { onward = all_lead_is image code.method.id T _ _ p.0; handled = λ c. all_caught_is image code.method.id T s _ (from_or _ _ q.0 c) }; good = none_is _ q.1 }

abbrev pub each_fine : Image → Code → Typing → (ℕ → ℕ) → States → Bool
each_fine image code T f [] = true
each_fine image code T f (None ∷ ss) = each_fine image code T (λ k. f (suc k)) ss
each_fine image code T f (Some s ∷ ss) = fine_at image code T (f 0) s (fetch image code.method.id (f 0)) && each_fine image code T (λ k. f (suc k)) ss

each_is : (image : Image) (code : Code) (T : Typing) (f : ℕ → ℕ) (ss : States) → each_fine image code T f ss ≡ true → (at : ℕ) (s : RegState) → slice_index_or ss at None ≡ Some s → FineAt image code T (f at) s
each_is image code T f [] e at s h = absurd (cc)
each_is image code T f (None ∷ ss) e zero s h = absurd (cc)
each_is image code T f (None ∷ ss) e (suc at) s h = each_is image code T (λ k. f (suc k)) ss e at s h
each_is image code T f (Some t ∷ ss) e zero s h =
    let p = both _ _ e in
    let g : t ≡ s = cc in
    subst (λ u. FineAt image code T (f 0) u) g (fine_is image code T (f 0) t _ refl p.0)
each_is image code T f (Some t ∷ ss) e (suc at) s h = each_is image code T (λ k. f (suc k)) ss (both _ _ e).1 at s h

-- ---- a method

abbrev pub typing_of : States → Typing
typing_of states at = state_there states at

abbrev pub is_typing_by : Image → Code → States → Bool
is_typing_by image code states = leads_to image (entry_state image code.method code.body.registers) (state_there states 0) && each_fine image code (typing_of states) (λ k. k) states

typing_by : (image : Image) (code : Code) (states : States) → is_typing_by image code states ≡ true → IsTyping image code (typing_of states)
typing_by image code states e =
    let p = both _ _ e in
    let each : (at : ℕ) (s : RegState) → typing_of states at ≡ Some s → FineAt image code (typing_of states) at s = λ at s h. each_is image code (typing_of states) (λ k. k) states p.1 at s h in
    record {
      closed = record { start = leads_is image (typing_of states) _ 0 _ refl p.0; each = λ at s h. let g = each at s h in (g.x, g.has_x, g.flows) };
      good = λ at s x h y. let g = each at s h in (let q : g.x ≡ x = cc in subst (λ u. ok image code.method u s ≡ None) q g.good);
    }

abbrev pub is_empty : List Place → Bool
is_empty [] = true
is_empty (p ∷ ps) = false

empty_is : (ps : List Place) → is_empty ps ≡ true → ps ≡ []
empty_is [] e = refl
empty_is (p ∷ ps) e = no e

-- where it has a body: no static fault, and the states of six passes are a typing
abbrev pub is_accepted_by : Image → Option Code → Bool
is_accepted_by image None = true
is_accepted_by image (Some code) = is_empty (static_places image code) && is_typing_by image code (passes image code 6 (states_on_entry image code))

accepted_is : (image : Image) (code : Code) (o : Option Code) → o ≡ Some code → is_accepted_by image o ≡ true → IsAcceptedMethod image code
accepted_is image code None h e = absurd (cc)
accepted_is image code (Some c) h e =
    let p = both _ _ e in
    let g : c ≡ code = cc in
    subst (λ d. IsAcceptedMethod image d) g (record { static = empty_is _ p.0; typing = typing_of (passes image c 6 (states_on_entry image c)); is_typing = typing_by image c _ p.1 })

-- ---- an image

abbrev pub all_accepted : Image → ℕ → Bool
all_accepted image zero = true
all_accepted image (suc n) = is_accepted_by image (code_at image n) && all_accepted image n

each_accepted : (image : Image) (n k : ℕ) → all_accepted image n ≡ true → k < n → is_accepted_by image (code_at image k) ≡ true
each_accepted image zero k e h = absurd (omega arith)
each_accepted image (suc n) k e h = elim (cases_lt k n) [ inl l ↦ each_accepted image n k (both _ _ e).1 l | inr l ↦ let g : n ≡ k = omega arith in subst (λ j. is_accepted_by image (code_at image j) ≡ true) g (both _ _ e).0 ]

past : (image : Image) (n : ℕ) → length image.methods ≤ n → code_at image n ≡ None
unfolding code_at method_at
past image n h = rw (slice_get_past image.methods n h) refl

-- an image whose methods all pass is accepted
pub accepted_by : (image : Image) → all_accepted image (length image.methods) ≡ true → Accepts image
accepted_by image e n code h = elim (cases_lt n (length image.methods)) [ inl l ↦ accepted_is image code (code_at image n) h (each_accepted image _ n e l) | inr l ↦ absurd (let g = past image n l in cc) ]
