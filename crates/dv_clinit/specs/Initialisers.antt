-- The initialisers among an image's methods, as the code looks for them.
use Rattle.std.specs.Prelude.{◌≤◌, ◌<◌, ℕ, Bool, ◌&&◌, List, length, Option, Some, None, is_some, slice_index_or, bytes_eq, if◌then◌else◌}
use Rattle.dv_defs.specs.declared.class.MethodDef.{MethodDef}
use Rattle.dv_defs.specs.declared.image.MethodInfo.{MethodInfo}
use Rattle.dv_defs.specs.declared.flags.Flag.TheVariants as flag
use Rattle.dv_defs.specs.Flags.{has_flag}
use Rattle.dv_defs.specs.Images.{Image}
use Rattle.dv_defs.specs.Names.{clinit_name}
use Rattle.dv_defs.specs.Pools.{Method, is_initialiser, method_at, no_arguments}
use Rattle.dv_defs.specs.Types.{same_proto}

-- a static method <clinit>()V with a body, by its definition
abbrev pub is_initialiser_def : MethodDef → Bool
is_initialiser_def m = has_flag m.flags flag.Static && bytes_eq m.name clinit_name && same_proto m.proto no_arguments && is_some m.body

abbrev pub if_initialiser : Option Method → Option Method
if_initialiser None = None
if_initialiser (Some m) = if is_initialiser m then Some m else None

-- the method of a number, where it initialises its class
abbrev pub initialiser_at : Image → ℕ → Option Method
initialiser_at image id = if_initialiser (method_at image id)

-- the number of the class that a method is of
abbrev pub declaring_class : MethodInfo → ℕ
declaring_class m = m.class.0

-- the methods before a place are of lower classes, and those from it on aren't
pub record BeginsAt (methods : List MethodInfo) (class place : ℕ) : Type 0 where
  pub before : (k : ℕ) (d : MethodInfo) → k < place → declaring_class (slice_index_or methods k d) < class
  pub from : (k : ℕ) (d : MethodInfo) → place ≤ k → k < length methods → class ≤ declaring_class (slice_index_or methods k d)
