use Rattle.std.proofs.Common.{◌≡◌, ◌++◌, ◌∙◌, ap, append-nil, sym}
use Rattle.std.proofs.lemmas.Result.{on_ok_weaker}
use Rattle.dv_console.specs.Faults.{fault_text}
use Rattle.dv_top.specs.Printed.{fault_tail, printed_lines}
use Rattle.dv_top.proofs.FaultParts.{in_two, line_behind}
use Rattle.dv_top.proofs.printed.add_fault.Goals as goal

pub returns-in-Some : goal.returns-in-Some
returns-in-Some c =
    let f = c.args.fault.now in
    let text : fault_text c.args.image.now f ≡ c.in_ok-head.head ++ c.in_ok-tail.tail =
    in_two c.args.image.now f ∙ (ap (λ h. h ++ fault_tail f) (sym c.in_ok-head.ensures) ∙ ap (λ t. c.in_ok-head.head ++ t) (sym c.in_ok-tail.ensures)) in
    on_ok_weaker c.add_behind.result
    (line_behind c.args.methods.now.items c.pop.new.self.items c.add_behind.new.methods.items c.in-Some.last _ c.in_ok-head.head c.in_ok-tail.tail c.in-Some.ensures.items text)
    c.add_behind.ensures

pub returns-in-None : goal.returns-in-None
returns-in-None c =
    let f = c.args.fault.now in
    let text : fault_text c.args.image.now f ≡ c.in_ok-head.head ++ c.in_ok-tail.tail =
    in_two c.args.image.now f ∙ (ap (λ h. h ++ fault_tail f) (sym c.in_ok-head.ensures) ∙ ap (λ t. c.in_ok-head.head ++ t) (sym c.in_ok-tail.ensures)) in
    on_ok_weaker c.add_first.result
    (λ e. e ∙ (ap (λ l. printed_lines l ++ (c.in_ok-head.head ++ c.in_ok-tail.tail)) (sym (c.in-None.ensures.items ∙ append-nil c.pop.new.self.items)) ∙ ap (λ l. printed_lines c.args.methods.now.items ++ l) (sym text)))
    c.add_first.ensures
