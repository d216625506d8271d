use Rattle.std.proofs.Common.{◌≡◌, ℕ, ◌+◌, List, true, Some, ap, sym, ◌∙◌, arith}
use Rattle.dv_defs.specs.Formats.{size_at}
use Rattle.dv_defs.specs.Op.{Code}
use Rattle.dv_defs.specs.Spelling.{all_fit}
use Rattle.dv_ops.specs.Meaning.{code_of}
use Rattle.dv_frames.specs.declared.heads.Head.{Head}
use Rattle.dv_threads.proofs.Addresses.{code_is, head_is, next_is}
use Rattle.dv_threads.proofs.step.address_after.Goals as goal

pub returns : goal.returns
returns c h insn o stack same op at =
    let head = c.in_ok-head.head in
    let own = code_of c.in_ok-code.code in
    let top = head_is h insn o at c.args.stack.now stack head c.in_ok-head.ensures in
    let code = code_is h insn o at c.args.stack.now stack c.args.image.now same head own top c.in_ok-code.ensures in
    let units = c.units_of-units.ensures.units ∙ ap (λ (k : Code). k.body.units) code in
    let fits : all_fit 16 at.code.body.units ≡ true = ap (λ (us : List ℕ). all_fit 16 us) (sym units) ∙ c.is_within.ensures.whole in
    let sum : head.at + c.size_of.result ≡ h.next = omega (arith, next_is h insn o at fits, ap (λ (x : Head). x.at) top, c.size_of.ensures.size, ap size_at op) in
    ap Some sum
