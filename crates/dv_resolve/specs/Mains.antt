-- Forms of a main method, and the method that a look-up finds.
use Rattle.std.specs.Prelude.{ℕ, Bool, false, ◌&&◌, List, Option, Some, None, is_some, Result, Ok, Err, nat_eq, bytes_eq}
use Rattle.dv_defs.specs.declared.names.Proto.{Proto}
use Rattle.dv_defs.specs.declared.class.MethodDef.{MethodDef}
use Rattle.dv_defs.specs.declared.faults.LinkKind.TheVariants as kind
use Rattle.dv_defs.specs.declared.flags.Flag.TheVariants as flag
use Rattle.dv_defs.specs.Flags.{has_flag}
use Rattle.dv_defs.specs.LinkFaults.{Found, found}
use Rattle.dv_defs.specs.Linked.{is_main_with, with_arguments}
use Rattle.dv_defs.specs.Names.{main_name}
use Rattle.dv_defs.specs.Pools.{Method, no_arguments}
use Rattle.dv_defs.specs.Types.{same_proto}
use Rattle.dv_resolve.specs.declared.main_method.MainForm.{MainForm}
use Rattle.dv_resolve.specs.declared.main_method.MainForm.TheVariants as form

abbrev pub proto_of : MainForm → Proto
proto_of form.Arguments = with_arguments
proto_of form.Bare = no_arguments

-- a static method main of this prototype with a body, by its definition
abbrev pub is_main_def : Proto → MethodDef → Bool
is_main_def p m = has_flag m.flags flag.Static && bytes_eq m.name main_name && same_proto m.proto p && is_some m.body

-- a main method of a class
abbrev pub test_of : ℕ → MainForm → Method → Bool
test_of class f m = nat_eq m.info.class.0 class && is_main_with (proto_of f) m

-- there is a method, and it passes a test
abbrev pub is_of : (Method → Bool) → Option Method → Bool
is_of test None = false
is_of test (Some m) = test m

-- the main method that a class has, or the fault that it has none
abbrev pub main_or_none : List ℕ → Option Method → Result Method Found
main_or_none name None = Err (found name kind.NoMain)
main_or_none name (Some m) = Ok m
