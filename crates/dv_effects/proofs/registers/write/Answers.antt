use Rattle.std.proofs.Common.{subst}
use Rattle.dv_effects.specs.Said.{SayAll}
use Rattle.dv_effects.proofs.Breaking.{one_written}
use Rattle.dv_effects.proofs.registers.write.Goals as goal

pub returns : goal.returns
returns c = λ names ts t h s.
    subst (λ us. SayAll names c.put.new.regs.items us) (one_written ts c.args.k t)
    (c.put.ensures names _ t (c.break_hi.ensures names _ (c.break_before.ensures names ts h)) s)
