use Rattle.std.proofs.Common.{rules, ◌≡◌, ◌++◌, ℕ, true, List, Some, Option, is_some, map, OnOk, ap, sym, ◌∙◌, subst}
use Rattle.dv_defs.specs.Images.{Image}
use Rattle.dv_defs.specs.Numbers.{jump}
use Rattle.dv_typing.specs.Statics.{At, fetch}
use Rattle.dv_defs.specs.Tiling.{begins_insn, insn_at, payload_at, tiles_in, tiling}
use Rattle.dv_ops.specs.Meaning.{code_of}
use Rattle.dv_rules.specs.Distances.{is_switch}
use Rattle.dv_rules.specs.Edges.{plain_edge}
use Rattle.dv_rules.proofs.CleanSwitch.{payload_there, jumps_there}
use Rattle.dv_rules.proofs.switches.push_cases.Goals as goal

also_switch : (image : Image) (n at : ℕ) (x y : At) → fetch image n at ≡ Some x → fetch image n at ≡ Some y → is_switch x.op ≡ true → is_switch y.op ≡ true
also_switch image n at x y e h s =
    let both : (let o : Option At = Some x in o) ≡ Some y = sym e ∙ h in
    let same : x ≡ y = cc in
    sym (ap (λ z. is_switch z.op) same) ∙ s

pub insn_at-insn-requires-clause-begins : goal.insn_at-insn-requires-clause-begins
insn_at-insn-requires-clause-begins c =
    let same : c.items-units.result.now ≡ c.args.code.now.body.now.units = search rules in
    let P : List ℕ → Type 0 = λ us. begins_insn (tiles_in (tiling us)) c.args.at ≡ true in
    subst P (sym same) (c.requires.clean.only c.args.at c.requires.switch.0 c.requires.switch.1)

pub payload_at-requires-clause-there : goal.payload_at-requires-clause-there
payload_at-requires-clause-there c =
    let at = c.args.at in
    let i = c.insn_at-insn.result in
    let same : c.items-units.result.now ≡ c.args.code.now.body.now.units = search rules in
    let to : c.target.result ≡ jump c.args.at c.insn_at-insn.result.off = search rules in
    let there = sym (ap (λ us. insn_at (tiles_in (tiling us)) at) same) ∙ c.insn_at-insn.ensures.there in
    let P : List ℕ → Type 0 = λ us. is_some (payload_at (tiles_in (tiling us)) c.target.result) ≡ true in
    let Q : ℕ → Type 0 = λ n. is_some (payload_at (tiles_in (tiling c.args.code.now.body.now.units)) n) ≡ true in
    subst P (sym same) (subst Q (sym to) (payload_there c.args.image.now (code_of c.args.code.now) at c.requires.switch.0 i c.requires.clean c.requires.switch.1 c.requires.switch.2 there))

pub returns : goal.returns
returns c x e =
    let at = c.args.at in
    let i = c.insn_at-insn.result in
    let image = c.args.image.now in
    let p = c.in_ok-payload.payload in
    let same : c.items-units.result.now ≡ c.args.code.now.body.now.units = search rules in
    let to : c.target.result ≡ jump c.args.at c.insn_at-insn.result.off = search rules in
    let there = sym (ap (λ us. insn_at (tiles_in (tiling us)) at) same) ∙ c.insn_at-insn.ensures.there in
    let s = also_switch image c.args.code.now.method.id.0 at c.requires.switch.0 x c.requires.switch.1 e c.requires.switch.2 in
    let value = ap (payload_at (tiles_in (tiling c.args.code.now.body.now.units))) (sym to) ∙ (sym (ap (λ us. payload_at (tiles_in (tiling us)) c.target.result) same) ∙ c.in_ok-payload.ensures.value) in
    let targets = jumps_there image (code_of c.args.code.now) at x i p c.requires.clean e s there value c.in_ok-payload.ensures.spelled in
    let P : List ℕ → Type 0 = λ ts. OnOk c.push_targets.result (c.push_targets.new.edges.items ≡ c.args.edges.now.items ++ map plain_edge ts) in
    subst P (ap (map (jump at)) c.distances.ensures ∙ targets) c.push_targets.ensures
