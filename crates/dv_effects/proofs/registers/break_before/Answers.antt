use Rattle.std.proofs.Common.{subst, sym}
use Rattle.dv_effects.specs.Said.{SayAll}
use Rattle.dv_effects.proofs.Breaking.{before}
use Rattle.dv_effects.proofs.registers.break_before.Goals as goal

pub returns-then-k-gt0 : goal.returns-then-k-gt0
returns-then-k-gt0 c = λ names ts h.
    subst (λ us. SayAll names c.break_lo.new.regs.items us) (sym (before ts c.args.k c.if-k-gt0.true)) (c.break_lo.ensures names ts h)
