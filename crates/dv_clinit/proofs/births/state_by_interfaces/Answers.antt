use Rattle.std.proofs.Common.{sym, ◌∙◌, arith}
use Rattle.dv_clinit.proofs.BirthLaws.{as_parent, ready_interface}
use Rattle.dv_clinit.proofs.births.state_by_interfaces.Goals as goal

pub returns-then-has_interface_flag : goal.returns-then-has_interface_flag
returns-then-has_interface_flag c =
    sym (ready_interface c.args.image.now c.args.class (omega (arith, c.requires.within, c.requires.known.count)) (sym c.has_interface_flag.ensures ∙ c.if-has_interface_flag.true) c.requires.none)

pub returns : goal.returns
returns c =
    as_parent c.args.image.now c.requires.known.linked c.args.class (omega (arith, c.requires.within, c.requires.known.count)) (sym c.has_interface_flag.ensures ∙ c.if-has_interface_flag.false) c.requires.none
    c.if-is_fresh_before.ensures
