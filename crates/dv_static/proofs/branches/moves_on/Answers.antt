use Rattle.std.proofs.Common.{ap, ◌∙◌}
use Rattle.std.specs.Prelude.{nat_eq, not, ◌||◌}
use Rattle.dv_defs.specs.Families.{family_at}
use Rattle.dv_typing.specs.Statics.{is_branch}
use Rattle.dv_static.proofs.branches.moves_on.Goals as goal

pub returns : goal.returns
returns c =
    let op = c.args.insn.now.op in
    c.may_stand.ensures ∙
    (ap (λ b. not b || nat_eq op 0x2a || not c.stays.result) c.is_branch_at.ensures ∙
    ap (λ b. not (is_branch (family_at op)) || nat_eq op 0x2a || not b) c.stays.ensures)
