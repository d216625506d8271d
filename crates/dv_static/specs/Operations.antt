-- What the rules of operations speak of.
use Rattle.std.specs.Prelude.{ℕ, Bool, true, false, ◌&&◌, ◌||◌, not, List, ◌++◌, length, Option, nat_eq, option_and_then}
use Rattle.dv_defs.specs.declared.names.Base.{Base}
use Rattle.dv_defs.specs.declared.names.Base.TheVariants as base
use Rattle.dv_defs.specs.declared.names.Ty.{Ty}
use Rattle.dv_defs.specs.declared.faults.Rule.{Rule}
use Rattle.dv_defs.specs.declared.faults.Rule.TheVariants as rule
use Rattle.dv_defs.specs.Images.{Image}
use Rattle.dv_defs.specs.Parts as parts
use Rattle.dv_defs.specs.Pools.{Method, class_named, is_abstract_class, is_interface}
use Rattle.dv_typing.specs.Statics.{arg_words, fits_call, is_some_super, unless}
use Rattle.dv_defs.specs.Types.{class_in, is_base, is_reference}
use Rattle.dv_ops.specs.declared.op.Op.{Op}
use Rattle.dv_ops.specs.declared.op.Op.TheVariants as op

-- whether it is an invoke
abbrev pub is_call : Op → Bool
is_call (op.Invoke call regs m) = true
is_call o = false

-- what a call of a method by another breaks, where the invoke names it by this type: S14 and S15
abbrev pub call_rules : Image → Method → Option Ty → parts.Call → List ℕ → Method → List Rule
call_rules image own t call args m = unless (fits_call image own t call m) (rule.S 14) ++ unless (nat_eq (length args) (arg_words m)) (rule.S 15)

-- whether a class may be made instances of: S16
abbrev pub has_instances : Image → ℕ → Bool
has_instances image c = not (is_interface image c) && not (is_abstract_class image c)

-- whether filled-new-array takes elements of so many dimensions over a base: S16
abbrev pub are_filled : ℕ → Base → Bool
are_filled dims b = is_base base.I (record { dims = dims; base = b }) || is_reference (record { dims = dims; base = b })

-- whether a base is that of a proper superclass of a class: S14
abbrev pub is_super_base : Image → ℕ → Base → Bool
is_super_base image c b = is_some_super image c (option_and_then (class_named image) (class_in b))
