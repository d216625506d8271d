-- The lines that tell why a program is refused.
use Rattle.std.specs.Prelude.{ℕ, List, ◌++◌, codes, decimal}
use Rattle.dv_defs.specs.declared.faults.LineKind.{LineKind}
use Rattle.dv_defs.specs.declared.faults.LineKind.TheVariants as kind
use Rattle.dv_defs.specs.declared.faults.LinkKind.{LinkKind}
use Rattle.dv_defs.specs.declared.faults.LinkKind.TheVariants as link
use Rattle.dv_defs.specs.declared.faults.Which.{Which}
use Rattle.dv_defs.specs.declared.faults.Which.TheVariants as which
use Rattle.dv_console.specs.declared.refusals.Refusal.{Refusal}
use Rattle.dv_console.specs.declared.refusals.Refusal.TheVariants as refusal

-- what is said of a line
abbrev pub line_text : LineKind → List ℕ
line_text kind.NotUtf8 = codes "not UTF-8"
line_text kind.BadToken = codes "bad token"
line_text kind.BadEscape = codes "bad escape"
line_text kind.NumberRange = codes "number out of range"
line_text kind.BadDescriptor = codes "bad descriptor"
line_text kind.FloatType = codes "float type"
line_text kind.FloatInsn = codes "float instruction"
line_text kind.UnknownInsn = codes "unknown instruction"
line_text kind.UnknownDirective = codes "unknown directive"
line_text kind.Misplaced = codes "misplaced"
line_text kind.Missing = codes "missing part"
line_text kind.TooManyRegisters = codes "too many registers"
line_text kind.NoLabel = codes "no label"
line_text kind.LabelTwice = codes "label twice"
line_text kind.OffsetRange = codes "offset out of range"
line_text kind.RegisterRange = codes "register out of range"
line_text kind.TryRange = codes "empty try range"
line_text kind.TryOverlap = codes "try ranges overlap"
line_text kind.TooLong = codes "method too long"
line_text kind.Operands = codes "wrong operands"
line_text kind.Repeated = codes "repeated"
line_text kind.BadLogLine = codes "bad schedule line"

abbrev pub which_text : Which → List ℕ
which_text which.Classes = codes "classes"
which_text which.Methods = codes "methods"
which_text which.Fields = codes "fields"
which_text which.Cells = codes "cells"

-- what is said of a class that isn't linked
abbrev pub link_text : LinkKind → List ℕ
link_text (link.Limit many) = codes "too many " ++ which_text many
link_text link.ClassTwice = codes "defined twice"
link_text (link.FieldTwice name) = codes "field " ++ name ++ codes " twice"
link_text (link.MethodTwice name) = codes "method " ++ name ++ codes " twice"
link_text (link.NoClass name) = codes "no class " ++ name
link_text link.SuperKind = codes "wrong kind of superclass or interface"
link_text link.FinalSuper = codes "superclass is final"
link_text link.SuperCycle = codes "superclass cycle"
link_text (link.Body name) = codes "body of " ++ name ++ codes " missing or not allowed"
link_text (link.FinalOverride name) = name ++ codes " overrides a final method"
link_text (link.NoField reference) = codes "no field " ++ reference
link_text (link.NoMethod reference) = codes "no method " ++ reference
link_text (link.PrivateAccess reference) = reference ++ codes " is private"
link_text link.NoMain = codes "no main method"

-- the line or the class that is refused, and why
abbrev pub reason : Refusal → List ℕ
reason (refusal.Line number k) = codes "line " ++ decimal number ++ codes ": " ++ line_text k
reason (refusal.Link class k) = codes "class " ++ class ++ codes ": " ++ link_text k

-- a line of its own
unfoldable pub refusal_text : Refusal → List ℕ
refusal_text r = codes "#refused " ++ reason r ++ codes "\n"
