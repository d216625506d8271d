use Rattle.dv_defs.proofs.DecodingLaws.{insn_here_spelled, spelled_insn_here}
use Rattle.dv_defs.proofs.PayloadLaws.{payload_here_spelled, spelled_payload_here}
use Rattle.dv_units.proofs.laws.units_spell_items.Goals as goal

pub returns-clause-insns : goal.returns-clause-insns
returns-clause-insns c us i n t = (λ e. insn_here_spelled us i n t e, λ h. spelled_insn_here us i n t h.0 h.1)

pub returns-clause-payloads : goal.returns-clause-payloads
returns-clause-payloads c us p n t = (λ e. payload_here_spelled us p n t e, λ h. spelled_payload_here us p n h.0 h.1)
