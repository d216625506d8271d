-- What the instructions of a family do.
use Rattle.std.specs.Prelude.{◌&&◌, Bool, true, false, not}
use Rattle.dv_optable.specs.declared.family.Family.{Family}
use Rattle.dv_optable.specs.declared.family.Family.TheVariants as fam
use Rattle.dv_optable.specs.declared.family.Bin.{Bin}
use Rattle.dv_optable.specs.declared.family.Bin.TheVariants as bin

abbrev pub is_division : Bin → Bool
is_division bin.Div = true
is_division bin.Rem = true
is_division _ = false

-- whether they can throw; an instance-of never does
abbrev pub can_throw : Family → Bool
can_throw fam.ConstString = true
can_throw fam.ConstClass = true
can_throw fam.MonitorEnter = true
can_throw fam.MonitorExit = true
can_throw fam.CheckCast = true
can_throw fam.ArrayLength = true
can_throw fam.NewInstance = true
can_throw fam.NewArray = true
can_throw fam.FilledNewArray = true
can_throw fam.FillArrayData = true
can_throw fam.Throw = true
can_throw (fam.ArrayGet _) = true
can_throw (fam.ArrayPut _) = true
can_throw (fam.FieldGet _) = true
can_throw (fam.FieldPut _) = true
can_throw (fam.StaticGet _) = true
can_throw (fam.StaticPut _) = true
can_throw (fam.Invoke _) = true
can_throw (fam.IntBinary o) = is_division o
can_throw (fam.LongBinary o) = is_division o
can_throw (fam.IntTwo o) = is_division o
can_throw (fam.LongTwo o) = is_division o
can_throw (fam.IntLiteral o) = is_division o
can_throw _ = false

abbrev pub is_return : Family → Bool
is_return fam.ReturnVoid = true
is_return (fam.Return _) = true
is_return _ = false

abbrev pub is_instance_of : Family → Bool
is_instance_of fam.InstanceOf = true
is_instance_of _ = false

-- whether they concern their own frame alone
abbrev pub is_local : Family → Bool
is_local f = not (can_throw f) && not (is_return f) && not (is_instance_of f)
