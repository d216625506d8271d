use Rattle.std.proofs.Common.{◌≡◌, ℕ, List, None, take}
use Rattle.dv_defs.specs.declared.class.ClassDef.{ClassDef}
use Rattle.dv_defs.specs.First.{first_in}
use Rattle.dv_defs.specs.LinkFaults.{no_type}
use Rattle.dv_defs.specs.Numbering.{declared}
use Rattle.law_linking.specs.Stripped.{def_names}
use Rattle.dv_hier.proofs.above.check_fields.Given as goal

abbrev pub invariant-loop-field : goal.invariant-loop-field
invariant-loop-field l =
    (cs : List ClassDef) (boot : ℕ) → l.names ≡ def_names cs → first_in (λ f. no_type (declared cs boot) f.ty) (take l.field-index l.fields) ≡ None
