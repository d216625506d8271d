use Rattle.std.proofs.Common.{refl, sym, ◌∙◌}
use Rattle.dv_ops.specs.Meaning.{code_of}
use Rattle.dv_plan.proofs.Going.{none_there}
use Rattle.dv_plan.proofs.ways.ways_at.Goals as goal

pub returns-else-begins : goal.returns-else-begins
returns-else-begins c = none_there c.args.image.now (code_of c.args.code.now) c.args.at c.requires.clean (sym c.requires.begins ∙ c.if-begins.false)

pub returns-in_ok-ways_from : goal.returns-in_ok-ways_from
returns-in_ok-ways_from c =
    let insn = c.requires.clean.each c.args.at (sym c.requires.begins ∙ c.if-begins.true) in
    record {
      there = λ x fetched. (c.in_ok-ways_from.field-0, refl, c.in_ok-ways_from.ensures x fetched);
      only = λ w e. (insn.0, insn.1.fetched);
    }
