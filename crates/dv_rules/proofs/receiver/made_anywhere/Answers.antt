use Rattle.std.proofs.Common.{sym, ◌∙◌}
use Rattle.dv_ops.specs.Meaning.{code_of}
use Rattle.dv_rules.proofs.NothingMade.{nothing_made}
use Rattle.dv_rules.proofs.receiver.made_anywhere.Goals as goal

pub returns-else-begins_insn_at : goal.returns-else-begins_insn_at
returns-else-begins_insn_at c = nothing_made c.args.image.now (code_of c.args.code.now) c.args.at c.requires (sym c.begins_insn_at.ensures ∙ c.if-begins_insn_at.false)
