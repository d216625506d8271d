-- What is printed, kept so that a method's part of its faults' lines stands once.
use Rattle.std.specs.Prelude.{ℕ, List, [], ◌++◌, drop, codes}
use Rattle.std.specs.List.{flat_map}
use Rattle.dv_defs.specs.declared.faults.Fault.{Fault}
use Rattle.dv_defs.specs.Images.{Image}
use Rattle.dv_defs.specs.Pools.{method_at}
use Rattle.dv_console.specs.Faults.{fault_line_of, signature}
use Rattle.dv_top.specs.declared.printed.MethodFaults.{MethodFaults}

-- its bytes
pub record PrintedValue : Type 0 where
  pub items : List ℕ

-- what each line of a method's faults begins with
abbrev pub fault_head : Image → Fault → List ℕ
fault_head image f = codes "#fault " ++ signature image (method_at image f.method.0)

-- what stands behind the method in a fault's line: the line without a method, from behind its first word on
abbrev pub fault_tail : Fault → List ℕ
fault_tail f = drop 7 (fault_line_of [] f)

-- the lines of a method's faults
abbrev pub method_lines : MethodFaults → List ℕ
method_lines m = flat_map (λ tail. m.head ++ tail) m.tails.items

abbrev pub printed_lines : List MethodFaults → List ℕ
printed_lines ms = flat_map method_lines ms
