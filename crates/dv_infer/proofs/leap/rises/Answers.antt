use Rattle.std.proofs.Common.{◌≡◌, ℕ, List, map, subst}
use Rattle.dv_typing.specs.RegTypes.{type_at}
use Rattle.dv_bases.specs.Bases.{word_type}
use Rattle.dv_infer.specs.Leaps.{HasClass}
use Rattle.dv_infer.proofs.leap.rises.Goals as goal

pub returns-in-Some-Some : goal.returns-in-Some-Some
returns-in-Some-Some c = λ names risen.
    let same : c.deref.result.now ≡ c.args.words.now.regs.items = cc (c.deref.ensures.value) in
    let at : c.from-register.result ≡ c.args.register = cc (c.from-register.ensures) in
    subst (λ (k : ℕ). HasClass (type_at (map (word_type names) c.args.words.now.regs.items) k)) at
    (subst (λ (ws : List ℕ). HasClass (type_at (map (word_type names) ws) c.from-register.result)) same (c.in-Some-Some.ensures names))
