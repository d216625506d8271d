use Rattle.std.proofs.Common.{◌≡◌, ℕ, ℤ, List, w32, rules, ap, ◌∙◌}
use Rattle.std.proofs.lemmas.Int.{to_z-of_z}
use Rattle.std.proofs.lemmas.List.{length-map}
use mir.Val.{SFits, to_z, of_z}
use Rattle.dv_defs.specs.declared.code.Payload.TheVariants as payload
use Rattle.dv_asm.specs.Layout.{targets_of}
use Rattle.dv_asm.proofs.PayloadLemmas.{packed_spelled_as}
use Rattle.dv_asm.proofs.short.Short.packed_of.Goals as goal

packed : (first : ℤ) (ts us : List ℤ) → SFits w32 first → ts ≡ us → payload.Packed (to_z w32 (of_z w32 first)) ts ≡ payload.Packed first us
packed first ts us fits same = let read = to_z-of_z w32 first fits in cc

pub returns-clause-value : goal.returns-clause-value
returns-clause-value c =
    let fits : SFits w32 c.args.first = search rules in
    packed c.args.first _ _ fits (c.in_ok-targets.ensures.value ∙ ap (λ (address : ℕ). targets_of c.args.self.now address c.args.names.now) c.address_of.ensures.value)

pub returns-clause-spelled : goal.returns-clause-spelled
returns-clause-spelled c =
    let fits : SFits w32 c.args.first = search rules in
    packed_spelled_as c.args.first _ _ fits c.in_ok-targets.ensures.value (simp length-map c.requires.few) c.in_ok-targets.ensures.fitting
