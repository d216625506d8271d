use Rattle.std.proofs.Common.{subst}
use Rattle.dv_effects.specs.Said.{SayAll}
use Rattle.dv_effects.proofs.Breaking.{two_written}
use Rattle.dv_effects.proofs.registers.write_pair.Goals as goal

pub returns : goal.returns
returns c = λ names ts t u h s r.
    subst (λ us. SayAll names c.put-2.new.regs.items us) (two_written ts c.args.k t u)
    (c.put-2.ensures names _ u (c.put.ensures names _ t (c.break_hi.ensures names _ (c.break_before.ensures names ts h)) s) r)
