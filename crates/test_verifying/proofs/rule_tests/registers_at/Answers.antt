use Rattle.std.proofs.Common.{sym}
use Rattle.dv_ops.specs.Meaning.{code_of}
use Rattle.test_verifying.proofs.Asked.{is_tiled}
use Rattle.test_verifying.proofs.rule_tests.registers_at.Goals as goal

pub begins_insn_at-requires : goal.begins_insn_at-requires
begins_insn_at-requires c = record {
  tiled = is_tiled c.args.image.now c.args.method.0 c.requires.0 (code_of c.in_ok-code.code) c.requires.1 (sym c.in_ok-code.ensures);
}
