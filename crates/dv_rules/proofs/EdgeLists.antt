-- The edges from an instruction of a body that breaks no static rule.
use Rattle.std.proofs.Common.{◌≡◌, ℕ, Bool, true, false, List, [], ◌∷◌, ◌++◌, map, cond, Some, All, refl, ap, sym, ◌∙◌}
use Rattle.std.specs.Prelude.{filter}
use Rattle.std.proofs.lemmas.List.Elements.{All-head, All-tail, All-weaker}
use Rattle.dv_defs.specs.Images.{Image}
use Rattle.dv_defs.specs.Tiling.{begins_insn}
use Rattle.dv_defs.specs.Op.{Code, can_throw}
use Rattle.dv_typing.specs.Statics.{At, fetch}
use Rattle.dv_typing.specs.Demands.{goes_on}
use Rattle.dv_typing.specs.Flow.{Catcher, jumps, targets, handlers_at, thrown_at}
use Rattle.law_flow.specs.Clean.{IsHandler, IsClean}
use Rattle.dv_rules.specs.declared.flow.Edge.{Edge}
use Rattle.dv_rules.specs.Edges.{plain_edge, handler_edge, edges_of}
use Rattle.dv_rules.specs.EdgeParts.{edges_onward, edges_thrown, target_edges}

abbrev kept_if : {A : Type 0} → Bool → A → List A → List A
kept_if b x xs = cond b (x ∷ xs) xs

-- a filter that all pass
pub all_pass : {A : Type 0} (p : A → Bool) (xs : List A) → All (λ x. p x ≡ true) xs → filter p xs ≡ xs
all_pass p [] all = refl
all_pass p (x ∷ xs) all =
    ap (λ b. kept_if b x (filter p xs)) (All-head (λ y. p y ≡ true) x xs all) ∙
    ap (λ ys. x ∷ ys) (all_pass p xs (All-tail (λ y. p y ≡ true) x xs all))

one_more_by : (b : Bool) (x : ℕ) (xs : List ℕ) → map plain_edge (kept_if b x xs) ≡ map plain_edge (kept_if b x []) ++ map plain_edge xs
one_more_by true x xs = refl
one_more_by false x xs = refl

-- the next address is filtered by itself
targets_by : (code : Code) (goes : Bool) (next : ℕ) (js : List ℕ) → filter (begins_insn code.tiles) js ≡ js →
    map plain_edge (filter (begins_insn code.tiles) (elim goes [ true ↦ next ∷ js | false ↦ js ])) ≡
    elim goes [ true ↦ map plain_edge (filter (begins_insn code.tiles) (next ∷ [])) | false ↦ [] ] ++ map plain_edge js
targets_by code true next js e =
    ap (λ xs. map plain_edge (kept_if (begins_insn code.tiles next) next xs)) e ∙ one_more_by (begins_insn code.tiles next) next js
targets_by code false next js e = ap (map plain_edge) e

pub targets_apart : (code : Code) (x : At) → All (λ to. begins_insn code.tiles to ≡ true) (jumps x.op) →
    map plain_edge (filter (begins_insn code.tiles) (targets x)) ≡ edges_onward code x.op x.next ++ map plain_edge (jumps x.op)
targets_apart code x all = targets_by code (goes_on x.op) x.next (jumps x.op) (all_pass (begins_insn code.tiles) (jumps x.op) all)

-- handlers lead to instructions
handlers_pass : (image : Image) (code : Code) (at : ℕ) → IsClean image code →
    filter (λ h. begins_insn code.tiles h.to) (handlers_at image code.method.id at) ≡ handlers_at image code.method.id at
handlers_pass image code at clean =
    all_pass (λ h. begins_insn code.tiles h.to) (handlers_at image code.method.id at)
    (All-weaker (IsHandler code) (λ h. begins_insn code.tiles h.to ≡ true) (λ h k. k.leads) (handlers_at image code.method.id at) (clean.handlers_lead at))

abbrev thrown_if : Bool → List Catcher → List Edge
thrown_if b hs = elim b [ true ↦ map handler_edge hs | false ↦ [] ]

pub thrown_pass : (image : Image) (code : Code) (at : ℕ) (x : At) → IsClean image code →
    thrown_if (can_throw x.op) (filter (λ h. begins_insn code.tiles h.to) (handlers_at image code.method.id (thrown_at at x))) ≡ edges_thrown image code at x
thrown_pass image code at x clean = ap (thrown_if (can_throw x.op)) (handlers_pass image code (thrown_at at x) clean)

-- to the next instruction, and then to the targets
pub all_targets : (image : Image) (code : Code) (at : ℕ) (x : At) (none onward jumped : List Edge) → IsClean image code → fetch image code.method.id at ≡ Some x →
    none ≡ [] → onward ≡ none ++ edges_onward code x.op x.next → jumped ≡ onward ++ map plain_edge (jumps x.op) → jumped ≡ target_edges code x
all_targets image code at x none onward jumped clean e a b c =
    let first : onward ≡ edges_onward code x.op x.next = b ∙ ap (λ es. es ++ edges_onward code x.op x.next) a in
    c ∙ (ap (λ es. es ++ map plain_edge (jumps x.op)) first ∙ sym (targets_apart code x (clean.jumps_lead at x e)))

-- and these, one after another, are all edges
pub all_edges : (image : Image) (code : Code) (at : ℕ) (x : At) (front thrown : List Edge) → IsClean image code →
    front ≡ target_edges code x → thrown ≡ front ++ edges_thrown image code at x → thrown ≡ edges_of image code at x
all_edges image code at x front thrown clean a d =
    d ∙ (ap (λ es. es ++ edges_thrown image code at x) a ∙ ap (λ es. target_edges code x ++ es) (sym (thrown_pass image code at x clean)))
