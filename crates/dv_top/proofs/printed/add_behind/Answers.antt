use Rattle.std.proofs.Common.{◌∙◌, ap, refl, rules, tests}
use Rattle.dv_top.specs.Printed.{printed_lines}
use Rattle.dv_top.proofs.FaultParts.{line_added}
use Rattle.dv_top.proofs.printed.add_behind.Goals as goal

pub returns-then-eq : goal.returns-then-eq
returns-then-eq c = ap printed_lines c.in_ok-push-2.ensures.items ∙ line_added c.args.methods.now.items c.args.last _ c.args.head c.args.tail refl c.in_ok-push.ensures.items (search (rules, tests))
