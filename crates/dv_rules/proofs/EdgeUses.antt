-- A typing flows along each edge exactly where it flows on.
use Rattle.std.proofs.Common.{◌≡◌, ℕ, Bool, true, false, List, [], ◌∷◌, ◌++◌, map, cond, Some, All, refl}
use Rattle.std.specs.Prelude.{filter}
use Rattle.std.proofs.lemmas.List.Elements.{All-nil, All-cons, All-head, All-tail, All-append, All-weaker}
use Rattle.dv_defs.specs.Images.{Image}
use Rattle.dv_typing.specs.declared.typing.RegState.{RegState}
use Rattle.dv_defs.specs.Tiling.{begins_insn}
use Rattle.dv_defs.specs.Op.{Code, can_throw}
use Rattle.dv_typing.specs.Statics.{At, fetch}
use Rattle.dv_typing.specs.Transfer.{out}
use Rattle.dv_typing.specs.Flow.{Catcher, targets, handlers_at, thrown_at, caught_state, Typing, Leads, Flows}
use Rattle.law_flow.specs.Clean.{IsClean}
use Rattle.dv_rules.specs.declared.flow.Edge.{Edge}
use Rattle.dv_rules.specs.Edges.{plain_edge, handler_edge, edges_of}
use Rattle.dv_rules.specs.Carried.{carried}

-- what holds of each that a filter keeps
abbrev Where : {A : Type 0} → (A → Bool) → (A → Type 0) → A → Type 0
Where p Q x = p x ≡ true → Q x

kept_by : {A : Type 0} (P : Edge → Type 0) (f : A → Edge) (p : A → Bool) (b : Bool) (x : A) (xs : List A) → p x ≡ b →
    All P (map f (cond b (x ∷ filter p xs) (filter p xs))) → (All P (map f (filter p xs)) → All (Where p (λ a. P (f a))) xs) →
    All (Where p (λ a. P (f a))) (x ∷ xs)
kept_by P f p true x xs e all next =
    All-cons (Where p (λ a. P (f a))) x xs (λ k. All-head P (f x) (map f (filter p xs)) all) (next (All-tail P (f x) (map f (filter p xs)) all))
kept_by P f p false x xs e all next = All-cons (Where p (λ a. P (f a))) x xs (λ k. absurd (cc)) (next all)

kept : {A : Type 0} (P : Edge → Type 0) (f : A → Edge) (p : A → Bool) (xs : List A) → All P (map f (filter p xs)) → All (Where p (λ a. P (f a))) xs
kept P f p [] all = All-nil (Where p (λ a. P (f a)))
kept P f p (x ∷ xs) all = kept_by P f p (p x) x xs refl all (kept P f p xs)

back_by : {A : Type 0} (P : Edge → Type 0) (f : A → Edge) (p : A → Bool) (b : Bool) (x : A) (xs : List A) → p x ≡ b → Where p (λ a. P (f a)) x →
    All P (map f (filter p xs)) → All P (map f (cond b (x ∷ filter p xs) (filter p xs)))
back_by P f p true x xs e here rest = All-cons P (f x) (map f (filter p xs)) (here e) rest
back_by P f p false x xs e here rest = rest

back : {A : Type 0} (P : Edge → Type 0) (f : A → Edge) (p : A → Bool) (xs : List A) → All (Where p (λ a. P (f a))) xs → All P (map f (filter p xs))
back P f p [] all = All-nil P
back P f p (x ∷ xs) all =
    back_by P f p (p x) x xs refl (All-head (Where p (λ a. P (f a))) x xs all) (back P f p xs (All-tail (Where p (λ a. P (f a))) x xs all))

parts : (P : Edge → Type 0) (xs ys : List Edge) → All P (xs ++ ys) → All P xs × All P ys
parts P [] ys all = (All-nil P, all)
parts P (x ∷ xs) ys all =
    let rest = parts P xs ys (All-tail P x (xs ++ ys) all) in
    (All-cons P x xs (All-head P x (xs ++ ys) all) rest.0, rest.1)

abbrev to_handlers : Code → Bool → List Catcher → List Edge
to_handlers code throws hs = elim throws [ true ↦ map handler_edge (filter (λ h. begins_insn code.tiles h.to) hs) | false ↦ [] ]

handled_by : (P : Edge → Type 0) (code : Code) (throws : Bool) (hs : List Catcher) → All P (to_handlers code throws hs) → throws ≡ true →
    All (Where (λ h. begins_insn code.tiles h.to) (λ h. P (handler_edge h))) hs
handled_by P code true hs all e = kept P handler_edge (λ h. begins_insn code.tiles h.to) hs all
handled_by P code false hs all e = absurd (cc)

handlers_by : (P : Edge → Type 0) (code : Code) (throws : Bool) (hs : List Catcher) →
    (throws ≡ true → All (Where (λ h. begins_insn code.tiles h.to) (λ h. P (handler_edge h))) hs) → All P (to_handlers code throws hs)
handlers_by P code true hs all = back P handler_edge (λ h. begins_insn code.tiles h.to) hs (all refl)
handlers_by P code false hs all = All-nil P

-- what holds of each edge holds of each target that is an instruction
pub each_target : (P : Edge → Type 0) (image : Image) (code : Code) (at : ℕ) (x : At) → All P (edges_of image code at x) →
    All (λ to. begins_insn code.tiles to ≡ true → P (plain_edge to)) (targets x)
each_target P image code at x all =
    let both = parts P (map plain_edge (filter (begins_insn code.tiles) (targets x))) (to_handlers code (can_throw x.op) (handlers_at image code.method.id (thrown_at at x))) all in
    kept P plain_edge (begins_insn code.tiles) (targets x) both.0

-- and of each handler that is
pub each_handler : (P : Edge → Type 0) (image : Image) (code : Code) (at : ℕ) (x : At) → All P (edges_of image code at x) → can_throw x.op ≡ true →
    All (λ h. begins_insn code.tiles h.to ≡ true → P (handler_edge h)) (handlers_at image code.method.id (thrown_at at x))
each_handler P image code at x all throws =
    let both = parts P (map plain_edge (filter (begins_insn code.tiles) (targets x))) (to_handlers code (can_throw x.op) (handlers_at image code.method.id (thrown_at at x))) all in
    handled_by P code (can_throw x.op) (handlers_at image code.method.id (thrown_at at x)) both.1 throws

-- and the other way
pub each_edge : (P : Edge → Type 0) (image : Image) (code : Code) (at : ℕ) (x : At) →
    All (λ to. begins_insn code.tiles to ≡ true → P (plain_edge to)) (targets x) →
    (can_throw x.op ≡ true → All (λ h. begins_insn code.tiles h.to ≡ true → P (handler_edge h)) (handlers_at image code.method.id (thrown_at at x))) →
    All P (edges_of image code at x)
each_edge P image code at x onward handled =
    All-append P (map plain_edge (filter (begins_insn code.tiles) (targets x))) (to_handlers code (can_throw x.op) (handlers_at image code.method.id (thrown_at at x)))
    (back P plain_edge (begins_insn code.tiles) (targets x) onward)
    (handlers_by P code (can_throw x.op) (handlers_at image code.method.id (thrown_at at x)) handled)

-- the typing has a state above what flows along an edge
abbrev pub LeadsAlong : Image → Code → Typing → ℕ → At → RegState → Edge → Type 0
LeadsAlong image code typing at x s e = Leads image typing (carried image code.method at x s e) e.to

-- where it has one for each edge, it flows on
pub flows_along : (image : Image) (code : Code) (typing : Typing) (at : ℕ) (x : At) (s : RegState) → IsClean image code →
    All (LeadsAlong image code typing at x s) (edges_of image code at x) → Flows image code.method typing at x s
flows_along image code typing at x s clean all =
    record {
      onward = All-weaker (λ to. begins_insn code.tiles to ≡ true → LeadsAlong image code typing at x s (plain_edge to))
          (λ to. (y : At) → fetch image code.method.id to ≡ Some y → Leads image typing (out image code.method at x.op s) to)
          (λ to leads y e. leads (clean.only to y e)) (targets x) (each_target (LeadsAlong image code typing at x s) image code at x all);
      handled = λ throws.
          All-weaker (λ h. begins_insn code.tiles h.to ≡ true → LeadsAlong image code typing at x s (handler_edge h))
          (λ h. (y : At) → fetch image code.method.id h.to ≡ Some y → Leads image typing (caught_state s h) h.to)
          (λ h leads y e. leads (clean.only h.to y e)) (handlers_at image code.method.id (thrown_at at x))
          (each_handler (LeadsAlong image code typing at x s) image code at x all throws);
    }

-- and where it flows on, it has one for each edge
pub leads_along : (image : Image) (code : Code) (typing : Typing) (at : ℕ) (x : At) (s : RegState) → IsClean image code →
    Flows image code.method typing at x s → All (LeadsAlong image code typing at x s) (edges_of image code at x)
leads_along image code typing at x s clean flows =
    each_edge (LeadsAlong image code typing at x s) image code at x
    (All-weaker (λ to. (y : At) → fetch image code.method.id to ≡ Some y → Leads image typing (out image code.method at x.op s) to)
    (λ to. begins_insn code.tiles to ≡ true → LeadsAlong image code typing at x s (plain_edge to))
    (λ to leads b. let (y, f) = clean.each to b in leads y f.fetched) (targets x) flows.onward)
    (λ throws.
    All-weaker (λ h. (y : At) → fetch image code.method.id h.to ≡ Some y → Leads image typing (caught_state s h) h.to)
    (λ h. begins_insn code.tiles h.to ≡ true → LeadsAlong image code typing at x s (handler_edge h))
    (λ h leads b. let (y, f) = clean.each h.to b in leads y f.fetched) (handlers_at image code.method.id (thrown_at at x)) (flows.handled throws))
