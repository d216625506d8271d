-- The lines that tell faults of the verifier, and the line that tells that there are none.
use Rattle.std.specs.Prelude.{ℕ, ◌-◌, Bool, false, ◌&&◌, List, [], ◌++◌, length, filter, replicate, Option, Some, None, is_some, nat_le, codes, decimal}
use Rattle.std.specs.Fmt.{digits}
use Rattle.dv_defs.specs.declared.faults.Fault.{Fault}
use Rattle.dv_defs.specs.declared.faults.Rule.{Rule}
use Rattle.dv_defs.specs.declared.faults.Rule.TheVariants as rule
use Rattle.dv_defs.specs.declared.image.MethodInfo.{MethodInfo}
use Rattle.dv_defs.specs.Images.{Image}
use Rattle.dv_defs.specs.Linked.{body_at}
use Rattle.dv_defs.specs.Pools.{Method, method_at, name_at}
use Rattle.dv_names.specs.Descriptors.{prototype}

-- four hexadecimal digits, or as many as the address has
abbrev pub address_text : ℕ → List ℕ
address_text n = let digits = digits 16 false n in replicate (4 - length digits) 48 ++ digits

abbrev pub rule_text : Rule → List ℕ
rule_text (rule.S number) = codes "S" ++ decimal number
rule_text (rule.V number) = codes "V" ++ decimal number

-- the class, the name and the prototype of a method
abbrev pub signature : Image → Option Method → List ℕ
signature image None = []
signature image (Some m) = name_at image m.info.class.0 ++ (codes "->" ++ (m.def.name ++ prototype m.def.proto))

-- a line of a method, an address and a rule
unfoldable pub fault_line_of : List ℕ → Fault → List ℕ
fault_line_of method f =
    codes "#fault " ++ (method ++ (codes " " ++ (address_text f.address ++ (codes " " ++ (rule_text f.rule ++ codes "\n")))))

abbrev pub fault_text : Image → Fault → List ℕ
fault_text image f = fault_line_of (signature image (method_at image f.method.0)) f

-- a method of the program, and not of the boot classes, with a body
abbrev pub is_verified : Image → MethodInfo → Bool
is_verified image m = nat_le image.boot m.class.0 && is_some (body_at image m)

abbrev pub verified_count : Image → ℕ
verified_count image = length (filter (is_verified image) image.methods)

-- the line of an accepted program
unfoldable pub accepted_text : Image → List ℕ
accepted_text image = codes "#accepted " ++ (decimal (verified_count image) ++ codes " methods\n")
