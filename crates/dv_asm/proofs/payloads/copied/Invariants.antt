use Rattle.std.proofs.Common.{◌≡◌, true, take}
use Rattle.dv_defs.specs.Payloads.{all_fit_signed}
use Rattle.dv_asm.proofs.payloads.copied.Given as goal

abbrev pub invariant-loop-number : goal.invariant-loop-number
invariant-loop-number l =
    (l.copy.items ≡ take l.number-index l.numbers) × (all_fit_signed (take l.number-index l.numbers) ≡ true)
