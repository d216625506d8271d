use Rattle.dv_effects.proofs.Saying.{says_set}
use Rattle.dv_effects.proofs.registers.put.Goals as goal

pub returns-then-k-len : goal.returns-then-k-len
returns-then-k-len c = λ names ts t h s. says_set names c.args.regs.now.items ts h c.args.k c.args.word t s
