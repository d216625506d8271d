use Rattle.std.proofs.Common.{ap, sym, ◌∙◌}
use Rattle.dv_typing.specs.Demands.{is_hi}
use Rattle.dv_typing.specs.RegTypes.{type_at}
use Rattle.dv_bases.specs.Bases.{type_in}
use Rattle.dv_effects.proofs.Saying.{part_read}
use Rattle.dv_effects.proofs.Parts.{not_hi}
use Rattle.dv_effects.proofs.registers.is_hi.Goals as goal

pub returns-in-LongHi : goal.returns-in-LongHi
returns-in-LongHi c = λ names ts h.
    ap (λ p. is_hi (type_in names p)) (sym c.in-LongHi.is) ∙
    ap is_hi (part_read names c.word_in.result c.part_of.result (type_at ts c.args.k) (c.word_in.ensures names ts h) c.part_of.ensures)

pub returns-in_default : goal.returns-in_default
returns-in_default c = λ names ts h.
    not_hi names c.part_of.result c.in_default.not-LongHi ∙
    ap is_hi (part_read names c.word_in.result c.part_of.result (type_at ts c.args.k) (c.word_in.ensures names ts h) c.part_of.ensures)
