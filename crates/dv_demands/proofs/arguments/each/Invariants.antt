use Rattle.std.proofs.Common.{◌≡◌, drop}
use Rattle.dv_typing.specs.Demands.{each_for}
use Rattle.dv_defs.specs.Op.{named_registers}
use Rattle.dv_image.specs.Common.{type_of}
use Rattle.dv_demands.proofs.arguments.each.Given as goal

-- the elements before are good
abbrev pub invariant-loop-place : goal.invariant-loop-place
invariant-loop-place l = each_for l.image l.regs (named_registers l.named) (type_of l.dims l.base) ≡ each_for l.image l.regs (drop l.place (named_registers l.named)) (type_of l.dims l.base)
