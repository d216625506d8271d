use Rattle.std.proofs.Common.{◌≡◌, map, take}
use Rattle.dv_print.specs.Operands.{register_text}
use Rattle.dv_print.proofs.operands.register_texts.Given as goal

abbrev pub invariant-loop-register : goal.invariant-loop-register
invariant-loop-register l = l.texts.items ≡ map register_text (take l.register-index l.registers)
