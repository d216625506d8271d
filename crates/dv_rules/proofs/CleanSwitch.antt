-- The switch at an address of a body that breaks no static rule.
use Rattle.std.proofs.Common.{◌≡◌, ℕ, true, Option, Some, None, Ok, is_some, map, ap, sym, ◌∙◌, subst}
use Rattle.dv_defs.specs.declared.code.Insn.{Insn}
use Rattle.dv_defs.specs.declared.code.Payload.{Payload}
use Rattle.dv_defs.specs.Images.{Image}
use Rattle.dv_defs.specs.Numbers.{jump}
use Rattle.dv_typing.specs.Flow.{jumps}
use Rattle.dv_defs.specs.Payloads.{payload_spelling}
use Rattle.dv_typing.specs.Statics.{At, fetch}
use Rattle.dv_defs.specs.Tiling.{insn_in, insn_at, payload_at}
use Rattle.dv_defs.specs.Op.{Code, op_of}
use Rattle.law_flow.specs.Clean.{IsClean, IsFetched}
use Rattle.dv_rules.specs.Distances.{distances, is_switch}
use Rattle.dv_rules.proofs.SwitchTargets.{HasCases, switch_cases, targets_at}

same_at : (x y : At) → (let o : Option At = Some x in o) ≡ Some y → x ≡ y
same_at x y e = cc

same_insn : (i j : Insn) → (let o : Option Insn = Some i in o) ≡ Some j → i ≡ j
same_insn i j e = cc

by_fetched : (image : Image) (code : Code) (at : ℕ) (x y : At) (i : Insn) → IsFetched image code at y → fetch image code.method.id at ≡ Some x → insn_at code.tiles at ≡ Some i → op_of image code at i ≡ Ok x.op
by_fetched image code at x y i f e h =
    let there : insn_at code.tiles at ≡ Some f.insn = ap (λ o. elim o [ None ↦ None | Some t ↦ insn_in t.item ]) f.there ∙ ap insn_in f.is_insn in
    let insn = same_insn i f.insn (sym h ∙ there) in
    let op = same_at y x (sym f.fetched ∙ e) in
    ap (op_of image code at) insn ∙ (f.op ∙ ap (λ z. Ok z.op) op)

-- the instruction at an address is resolved to what is fetched there
pub resolved_there : (image : Image) (code : Code) (at : ℕ) (x : At) (i : Insn) → IsClean image code → fetch image code.method.id at ≡ Some x → insn_at code.tiles at ≡ Some i → op_of image code at i ≡ Ok x.op
resolved_there image code at x i clean e h =
    let (y, f) = clean.each at (clean.only at x e) in
    by_fetched image code at x y i f e h

pub cases_there : (image : Image) (code : Code) (at : ℕ) (x : At) (i : Insn) → IsClean image code → fetch image code.method.id at ≡ Some x → is_switch x.op ≡ true → insn_at code.tiles at ≡ Some i → HasCases code at (jump at i.off) x.op
cases_there image code at x i clean e s h = switch_cases image code at i x.op (resolved_there image code at x i clean e h) s

pub payload_there : (image : Image) (code : Code) (at : ℕ) (x : At) (i : Insn) → IsClean image code → fetch image code.method.id at ≡ Some x → is_switch x.op ≡ true → insn_at code.tiles at ≡ Some i → is_some (payload_at code.tiles (jump at i.off)) ≡ true
payload_there image code at x i clean e s h = ap is_some (cases_there image code at x i clean e s h).there

same_payload : (p q : Payload) → (let o : Option Payload = Some p in o) ≡ Some q → p ≡ q
same_payload p q e = cc

-- its payload leads to its jumps
pub jumps_there : (image : Image) (code : Code) (at : ℕ) (x : At) (i : Insn) (p : Payload) → IsClean image code → fetch image code.method.id at ≡ Some x → is_switch x.op ≡ true → insn_at code.tiles at ≡ Some i → payload_at code.tiles (jump at i.off) ≡ Some p → is_some (payload_spelling p) ≡ true → map (jump at) (distances p) ≡ jumps x.op
jumps_there image code at x i p clean e s h there spelled =
    let c = cases_there image code at x i clean e s h in
    let P : Payload → Type 0 = λ q. is_some (payload_spelling q) ≡ true → map (jump at) (distances q) ≡ jumps x.op in
    subst P (same_payload c.payload p (sym c.there ∙ there)) (λ k. sym (targets_at at c.payload k) ∙ c.targets) spelled
