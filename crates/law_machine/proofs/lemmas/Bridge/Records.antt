-- Acceptance gives a typing of each method, with what the verifier found at each address.
use Rattle.std.proofs.Common.{◌≡◌, ◌≤◌, ℕ, List, ◌∷◌, Bool, true, false, Option, Some, None, refl, sym, subst}
use Rattle.std.proofs.lemmas.List.Elements.{All-cons}
use Rattle.std.specs.Prelude.{is_some, All}
use Rattle.dv_defs.specs.Images.{Image}
use Rattle.dv_typing.specs.declared.typing.RegState.{RegState}
use Rattle.dv_defs.specs.Op.{Code, code_at}
use Rattle.dv_typing.specs.Statics.{At, fetch, arg_words}
use Rattle.dv_typing.specs.Demands.{Demand, demand, demands, goes_on, onward_ok, ok}
use Rattle.dv_typing.specs.Transfer.{entry_state, out}
use Rattle.dv_typing.specs.Flow.{Catcher, Typing, Leads, Flows, targets, jumps, handlers_at, thrown_at, caught_state}
use Rattle.dv_typing.specs.Accepting.{IsAcceptedMethod, Accepts}
use Rattle.dv_machine.specs.WellTyped.{Typings}
use Rattle.dv_machine.specs.Accepted.{IsFine}
use Rattle.law_machine.specs.Laws.{AcceptanceGivesRecords}
use Rattle.law_types.proofs.Facts.{is_there}
use Rattle.law_flow.proofs.Statics.{IsStatic, IsThere, is_static_body, has_room, fetched_rules}
use Rattle.law_flow.proofs.Targets.{IsCaught, jumps_there, handlers_there}
use Rattle.law_types.proofs.Demanded.{first_none, demanded}
use Rattle.law_flow.proofs.MethodCode.{method_id, code_is}
use Rattle.dv_defs.specs.declared.faults.Rule.TheVariants as rule

-- ---- edges

-- what is asked of the next address
abbrev onward : Image → ℕ → At → Bool → Demand
onward image n x b = elim b [ true ↦ demand (is_some (fetch image n x.next)) (rule.V 1) | false ↦ None ]

targets_by : (image : Image) (n : ℕ) (x : At) (b : Bool) → onward image n x b ≡ None → All (IsThere image n) (jumps x.op) → All (IsThere image n) (elim b [ true ↦ x.next ∷ jumps x.op | false ↦ jumps x.op ])
targets_by image n x true e h = All-cons (IsThere image n) x.next (jumps x.op) (is_there (fetch image n x.next) (demanded (is_some (fetch image n x.next)) (rule.V 1) e)) h
targets_by image n x false e h = h

-- each edge leads to a state, where it leads to operations
all_lead : (image : Image) (n : ℕ) (T : Typing) (s : RegState) (tos : List ℕ) → All (IsThere image n) tos → All (λ to. (y : At) → fetch image n to ≡ Some y → Leads image T s to) tos → All (Leads image T s) tos
all_lead image n T s tos there h k d l = let (y, e) = there k d l in h k d l y e

all_caught : (image : Image) (n : ℕ) (T : Typing) (s : RegState) (hs : List Catcher) → All (IsCaught image n) hs → All (λ c. (y : At) → fetch image n c.to ≡ Some y → Leads image T (caught_state s c) c.to) hs → All (λ c. Leads image T (caught_state s c) c.to) hs
all_caught image n T s hs there h k d l = let (y, e) = there k d l in h k d l y e

-- ---- a method

-- what a typing of a body gives at each address
record IsTypedBody (image : Image) (n : ℕ) (code : Code) (T : Typing) : Type 0 where
  has_code : code_at image n ≡ Some code
  entry : Leads image T (entry_state image code.method code.body.registers) 0
  room : arg_words code.method ≤ code.body.registers
  each : (at : ℕ) (s : RegState) → T at ≡ Some s → (x : At) × (fetch image n at ≡ Some x) × IsFine image T code at x s

address_fine : (image : Image) (n at : ℕ) (code : Code) (T : Typing) (x : At) (s : RegState) → code_at image n ≡ Some code → code.method.id ≡ n → IsStatic image code → fetch image n at ≡ Some x → Flows image code.method T at x s → ok image code.method x s ≡ None → IsFine image T code at x s
address_fine image n at code T x s has id static e flows good =
    let parts = first_none (demands image code.method x.op s) (onward_ok image code.method x) good in
    let next : All (IsThere image code.method.id) (targets x) = targets_by image code.method.id x (goes_on x.op) parts.1 (subst (λ (z : ℕ). All (IsThere image z) (jumps x.op)) (sym id) (jumps_there image n at code x has static e)) in
    let caught : All (IsCaught image code.method.id) (handlers_at image code.method.id (thrown_at at x)) = subst (λ (z : ℕ). All (IsCaught image z) (handlers_at image z (thrown_at at x))) (sym id) (handlers_there image n (thrown_at at x) code has static) in
    let (r, rules) = fetched_rules image n at code x has e in
    record {
      ok = parts.0;
      flows = all_lead image code.method.id T (out image code.method at x.op s) (targets x) next flows.onward;
      handled = λ can. all_caught image code.method.id T s (handlers_at image code.method.id (thrown_at at x)) caught (flows.handled can);
      reference = r;
      rules = rules;
    }

typed_body : (image : Image) (n : ℕ) (code : Code) → code_at image n ≡ Some code → (a : IsAcceptedMethod image code) → IsTypedBody image n code a.typing
typed_body image n code has a =
    let id : code.method.id ≡ n = method_id image n code.method (code_is image n code has).method in
    let static = is_static_body image n code has a.static in
    record {
      has_code = has;
      entry = a.is_typing.closed.start;
      room = has_room image code static;
      each = λ at s h. (let (x, e, flows) = a.is_typing.closed.each at s h in
          let there : fetch image n at ≡ Some x = subst (λ (z : ℕ). fetch image z at ≡ Some x) id e in
          (x, there, address_fine image n at code a.typing x s has id static there flows (a.is_typing.good at s x h e)));
    }

-- ---- an image

abbrev typing_from : (image : Image) → Accepts image → (n : ℕ) (o : Option Code) → code_at image n ≡ o → Typing
typing_from image acc n None e at = None
typing_from image acc n (Some code) e at = (acc n code e).typing at

abbrev typings : (image : Image) → Accepts image → Typings
typings image acc n = typing_from image acc n (code_at image n) refl

-- what a typing gives of a method that may have no body
abbrev IsTypedMethod : Image → ℕ → Option Code → Typing → Type 0
IsTypedMethod image n None T = (at : ℕ) → T at ≡ None
IsTypedMethod image n (Some code) T = IsTypedBody image n code T

typed_from : (image : Image) (acc : Accepts image) (n : ℕ) (o : Option Code) (e : code_at image n ≡ o) → IsTypedMethod image n o (typing_from image acc n o e)
typed_from image acc n None e = λ at. refl
typed_from image acc n (Some code) e = typed_body image n code e (acc n code e)

typed_method : (image : Image) (acc : Accepts image) (n : ℕ) (code : Code) → code_at image n ≡ Some code → IsTypedBody image n code (typings image acc n)
typed_method image acc n code e =
    let P : Option Code → Type 0 = λ o. IsTypedMethod image n o (typings image acc n) in
    subst P e (typed_from image acc n (code_at image n) refl)

-- what the verifier found at an address that has a state
abbrev FineAt : Image → ℕ → ℕ → Typing → RegState → Type 0
FineAt image n at T s = (code : Code) × (x : At) × (code_at image n ≡ Some code) × (fetch image n at ≡ Some x) × IsFine image T code at x s

each_from : (image : Image) (n at : ℕ) (s : RegState) (T : Typing) (o : Option Code) → IsTypedMethod image n o T → T at ≡ Some s → FineAt image n at T s
each_from image n at s T None none e = absurd (let q = none at in cc)
each_from image n at s T (Some code) body e = let (x, there, fine) = body.each at s e in (code, x, body.has_code, there, fine)

pub acceptance_gives_records : AcceptanceGivesRecords
acceptance_gives_records image acc = (
  typings image acc,
  record {
    entry = λ n code e. (typed_method image acc n code e).entry;
    room = λ n code e. (typed_method image acc n code e).room;
    each = λ n at s e. each_from image n at s (typings image acc n) (code_at image n) (typed_from image acc n (code_at image n) refl) e;
  },
)
