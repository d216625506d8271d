use Rattle.std.proofs.Common.{◌≡◌, ◌∙◌, ◌+◌, ℕ, List, Some, true, sym, ap, arith}
use Rattle.dv_defs.specs.Op.{Code, code_at}
use Rattle.dv_defs.specs.Spelling.{all_fit}
use Rattle.dv_ops.specs.Meaning.{code_of}
use Rattle.dv_builtin.proofs.Following.{code_there, head_there, next_there}
use Rattle.dv_builtin.proofs.step.next_address.Goals as goal

pub returns : goal.returns
returns c h op image is at =
    let own = code_of c.in_ok-code.code in
    let head = head_there h c.args.stack.now c.args.insn.now op is at c.in_ok-head.head c.in_ok-head.ensures in
    let has : Some own ≡ code_at h.image c.in_ok-head.head.method.0 = c.in_ok-code.ensures ∙ ap (λ i. code_at i c.in_ok-head.head.method.0) (sym image) in
    let code = code_there h c.args.stack.now c.args.insn.now op is at c.in_ok-head.head own c.in_ok-head.ensures has in
    let fits : all_fit 16 at.code.body.units ≡ true = ap (λ (k : Code). all_fit 16 k.body.units) (sym code) ∙ ap (λ (us : List ℕ). all_fit 16 us) (sym c.units_of.ensures.units) ∙ c.is_within.ensures.whole in
    let next = next_there h c.args.stack.now c.args.insn.now op is at fits in
    let place : c.in_ok-head.head.at ≡ h.frame.at = ap (λ x. x.at) head in
    let same : c.in_ok-head.head.at + c.size_of.result ≡ h.next = omega (arith, next, place, c.size_of.ensures.size) in
    ap Some same
