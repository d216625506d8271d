use Rattle.std.proofs.lemmas.Grind.{common_steps}
use Rattle.std.proofs.Common.{◌∷◌, [], ◌++◌, SFits, w32, ap, ◌∙◌, rules, arith}
use Rattle.std.proofs.lemmas.Int.{to_z-of_z}
use Rattle.dv_coderead.proofs.Adding.{adds_begin, adds_case, adds_handler, adds_label, adds_op, adds_registers, adds_target, on_push}
use Rattle.dv_coderead.proofs.drafting.Drafting.add.Goals as goal

pub returns-in-Registers : goal.returns-in-Registers
returns-in-Registers c =
    rw c.in-Registers.is
    (adds_registers c.args.self.now c.args.line c.requires.drafting (rw c.in-Registers.is at c.requires.stands) c.in-Registers.frame (rw c.in-Registers.is at c.requires.formed))

pub returns-in-Label : goal.returns-in-Label
returns-in-Label c =
    rw c.in-Label.is
    (on_push c.push.result c.push.ensures (adds_label c.args.self.now c.args.line c.requires.drafting (rw c.in-Label.is at c.requires.stands) c.in-Label.name c.push.new.list))

pub returns-in-Op : goal.returns-in-Op
returns-in-Op c =
    rw c.in-Op.is
    (on_push c.push-in-Op.result c.push-in-Op.ensures
    (adds_op c.args.self.now c.args.line c.requires.drafting (rw c.in-Op.is at c.requires.stands) c.in-Op.op c.push-in-Op.new.list (rw c.in-Op.is at c.requires.formed)))

pub returns-in-Handler : goal.returns-in-Handler
returns-in-Handler c =
    rw c.in-Handler.is
    (on_push c.push-in-Handler.result c.push-in-Handler.ensures
    (adds_handler c.args.self.now c.args.line c.requires.drafting (rw c.in-Handler.is at c.requires.stands) c.in-Handler.catch c.push-in-Handler.new.list))

pub returns-in-Begin : goal.returns-in-Begin
returns-in-Begin c =
    rw c.in-Begin.is
    (adds_begin c.args.self.now c.args.line c.requires.drafting (rw c.in-Begin.is at c.requires.stands) c.in-Begin.opening (rw c.in-Begin.is at c.requires.formed))

pub returns-in-Target : goal.returns-in-Target
returns-in-Target c =
    let stands = rw c.in-Target.is at c.requires.stands in
    rw c.in-Target.is
    (on_push c.push-in-Target.result c.push-in-Target.ensures (adds_target c.args.self.now c.args.line c.requires.drafting stands.0 c.in-Target.name c.push-in-Target.new.list stands.1))

pub returns-in_ok-push-in-Case : goal.returns-in_ok-push-in-Case
returns-in_ok-push-in-Case c =
    let fits : SFits w32 c.in-Case.key = search rules in
    rw c.in-Case.is
    (on_push c.push-in-Case-2.result c.push-in-Case-2.ensures
    (adds_case c.args.self.now c.args.line c.requires.drafting c.in-Case.key c.in-Case.name c.push-in-Case.new.self c.push-in-Case-2.new.list (rw c.in-Case.is at c.requires.stands)
    (c.in_ok-push-in-Case.ensures.items ∙ ap (λ k. c.args.self.now.open.keys.items ++ k ∷ []) (to_z-of_z w32 c.in-Case.key fits))))

pub returns-in-Elements : goal.returns-in-Elements
returns-in-Elements c = rw c.in-Elements.is (on_push c.add_elements.result c.add_elements.ensures (λ adds. adds c.args.line))

pub returns-in-End : goal.returns-in-End
returns-in-End c = rw c.in-End.is (on_push c.end_block.result c.end_block.ensures (λ adds. adds c.args.line))

pub returns-in_err-push-in-Case : goal.returns-in_err-push-in-Case
returns-in_err-push-in-Case c = grind (arith, common_steps)
