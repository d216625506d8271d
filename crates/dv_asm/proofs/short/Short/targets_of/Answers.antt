use Rattle.std.proofs.Common.{ℕ, ◌≤◌, subst}
use Rattle.dv_asm.specs.Layout.{base_of}
use Rattle.dv_asm.proofs.PayloadLemmas.{distances_fit}
use Rattle.dv_asm.proofs.short.Short.targets_of.Goals as goal

pub returns-in_err-distances-clause-fitting : goal.returns-in_err-distances-clause-fitting
returns-in_err-distances-clause-fitting c =
    let Small : ℕ → Type 0 = λ n. n ≤ 16384 in
    distances_fit c.args.self.now (base_of c.args.self.now c.args.address) c.args.names.now c.is_short.ensures (subst Small c.base_of-base.ensures.value c.base_of-base.ensures.small)

pub returns-clause-fitting : goal.returns-clause-fitting
returns-clause-fitting c =
    let Small : ℕ → Type 0 = λ n. n ≤ 16384 in
    distances_fit c.args.self.now (base_of c.args.self.now c.args.address) c.args.names.now c.is_short.ensures (subst Small c.base_of-base.ensures.value c.base_of-base.ensures.small)
