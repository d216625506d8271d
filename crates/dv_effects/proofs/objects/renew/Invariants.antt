use Rattle.std.proofs.Common.{◌≡◌, ◌++◌, map, take, drop}
use Rattle.dv_effects.specs.Renewed.{renewed}
use Rattle.dv_effects.proofs.objects.renew.Given as goal

abbrev pub invariant-loop-word : goal.invariant-loop-word
invariant-loop-word l = l.word-items ≡ map (renewed l.which l.by) (take l.word-index l.fn.regs.items) ++ drop l.word-index l.fn.regs.items
