use Rattle.std.proofs.Common.{◌∙◌, Some, sym, ap, subst}
use Rattle.dv_words.specs.Running.{blocked_levels}
use Rattle.dv_core.specs.Machines.{machine_with}
use Rattle.dv_core.specs.Watching.{IsTopWatched}
use Rattle.dv_core.proofs.Waits.{code_on}
use Rattle.dv_core.proofs.waiting.blocked_stack.Goals as goal

pub returns-in-Code : goal.returns-in-Code
returns-in-Code c s e l p are watched =
    let image = c.args.image.now in
    let top = code_on c.args.stack.now.levels c.in-Code.method c.in-Code.at (ap Some (sym c.in-Code.is) ∙ c.in_ok-top.ensures) in
    c.blocked_code.ensures top.frame top.rest s e l p are top.is (subst (IsTopWatched image) top.is watched) ∙
    ap (blocked_levels image (machine_with c.args.guest.now s e l p) c.args.thread) (sym top.is)
