-- Types, prototypes and references to members as they are written.
use Rattle.std.specs.Prelude.{ℕ, List, ◌∷◌, ◌++◌, replicate, Option, Some, None, codes}
use Rattle.std.specs.List.{flat_map}
use Rattle.dv_defs.specs.declared.names.Base.{Base}
use Rattle.dv_defs.specs.declared.names.Base.TheVariants as base
use Rattle.dv_defs.specs.declared.names.Ty.{Ty}
use Rattle.dv_defs.specs.declared.names.Proto.{Proto}
use Rattle.dv_defs.specs.declared.names.FieldRef.{FieldRef}
use Rattle.dv_defs.specs.declared.names.MethodRef.{MethodRef}

-- a primitive type's letter, or a class's descriptor
abbrev pub base_text : Base → List ℕ
base_text base.Z = codes "Z"
base_text base.B = codes "B"
base_text base.C = codes "C"
base_text base.S = codes "S"
base_text base.I = codes "I"
base_text base.J = codes "J"
base_text (base.Class name) = name

-- a bracket for each dimension, and the base
abbrev pub descriptor : Ty → List ℕ
descriptor t = replicate t.dims 91 ++ base_text t.base

abbrev pub return_text : Option Ty → List ℕ
return_text None = codes "V"
return_text (Some t) = descriptor t

-- the parameters in parentheses, and the result
abbrev pub prototype : Proto → List ℕ
prototype p = 40 ∷ (flat_map descriptor p.params ++ (41 ∷ return_text p.ret))

abbrev pub field_text : FieldRef → List ℕ
field_text f = descriptor f.class ++ codes "->" ++ f.name ++ codes ":" ++ descriptor f.ty

abbrev pub method_text : MethodRef → List ℕ
method_text m = descriptor m.class ++ codes "->" ++ m.name ++ prototype m.proto
