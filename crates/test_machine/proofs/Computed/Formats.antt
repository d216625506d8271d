-- Examples: an instruction of each format, and its units.
use Rattle.std.specs.Prelude.{refl}
use Rattle.dv_defs.specs.Formats.{format_at}
use Rattle.dv_defs.specs.Spelling.{insn_eq}
use Rattle.test_machine.specs.Formats.{Formats}

pub formats : Formats
unfolding format_at insn_eq
formats = record { f10x = record { spelled = refl; here = refl }; f12x = record { spelled = refl; here = refl }; f11n = record { spelled = refl; here = refl }; f11x = record { spelled = refl; here = refl }; f10t = record { spelled = refl; here = refl }; f20t = record { spelled = refl; here = refl }; f22x = record { spelled = refl; here = refl }; f21t = record { spelled = refl; here = refl }; f21s = record { spelled = refl; here = refl }; f21h = record { spelled = refl; here = refl }; f21h_wide = record { spelled = refl; here = refl }; f21c = record { spelled = refl; here = refl }; f23x = record { spelled = refl; here = refl }; f22b = record { spelled = refl; here = refl }; f22t = record { spelled = refl; here = refl }; f22s = record { spelled = refl; here = refl }; f22c = record { spelled = refl; here = refl }; f30t = record { spelled = refl; here = refl }; f32x = record { spelled = refl; here = refl }; f31i = record { spelled = refl; here = refl }; f31t = record { spelled = refl; here = refl }; f31c = record { spelled = refl; here = refl }; f35c = record { spelled = refl; here = refl }; f35c_one = record { spelled = refl; here = refl }; f3rc = record { spelled = refl; here = refl }; f51l = record { spelled = refl; here = refl }; ragged = refl; unused_nibble = refl; six = refl; empty_range = refl; cut = refl; unused = refl; float = refl }
