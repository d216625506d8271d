use Rattle.std.proofs.lemmas.Grind.{common_steps}
use Rattle.std.proofs.Common.{◌≡◌, ℕ, ap, ◌∙◌, arith}
use Rattle.dv_defs.specs.declared.code.Payload.TheVariants as payload
use Rattle.dv_asm.specs.Layout.{targets_of}
use Rattle.dv_asm.specs.Places.{address_of}
use Rattle.dv_asm.proofs.short.Short.sparse_of.Goals as goal

pub returns-clause-value : goal.returns-clause-value
returns-clause-value c =
    let items = c.args.self.now in
    let names = c.args.names.now in
    let targets : c.in_ok-targets.targets ≡ targets_of items (address_of items c.args.k) names =
    c.in_ok-targets.ensures.value ∙ ap (λ (address : ℕ). targets_of items address names) c.address_of.ensures.value in
    λ i. payload.Sparse (c.in_ok-keys.ensures.same i) (targets i)

pub returns-clause-spelled : goal.returns-clause-spelled
returns-clause-spelled c = grind (arith, common_steps)

pub returns-in_err-targets-clause-spelled : goal.returns-in_err-targets-clause-spelled
returns-in_err-targets-clause-spelled c = grind (arith, common_steps)
