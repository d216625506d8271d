use Rattle.std.proofs.Common.{◌≡◌, ℤ, Ok, ap, sym, ◌∙◌, subst, rules, get_or}
use Rattle.std.proofs.lemmas.Int.{to_z-of_z}
use mir.Syntax.{w64}
use mir.Val.{SFits}
use Rattle.dv_defs.specs.Op.{Lit, int_op, resolve}
use Rattle.dv_optable.specs.declared.family.Family.{Family}
use Rattle.dv_ops.specs.Meaning.{meant}
use Rattle.dv_units.specs.Tables.{standard_bin, standard_family}
use Rattle.dv_ops.proofs.resolving.plain_op.Goals as goal

pub returns-in-IntLiteral : goal.returns-in-IntLiteral
returns-in-IntLiteral c image code has =
    let P : Family → Type 0 = λ f. resolve image code c.args.at c.args.insn.now (standard_family f) ≡ Ok (meant code c.args.at c.int_op-in-IntLiteral.result) in
    let fits : SFits w64 c.args.insn.now.lit = search rules in
    let literal = to_z-of_z w64 c.args.insn.now.lit fits in
    let op = λ (n : ℤ). int_op (standard_bin c.in-IntLiteral.o) (get_or c.args.insn.now.regs.first 0 0) (get_or c.args.insn.now.regs.first 1 0) (Lit n) in
    subst P (sym c.in-IntLiteral.is) (ap Ok (sym (c.int_op-in-IntLiteral.ensures code c.args.at ∙ ap op literal)))
