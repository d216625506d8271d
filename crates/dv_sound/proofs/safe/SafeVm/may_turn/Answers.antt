use Rattle.std.proofs.Common.{◌≡◌, ◌∙◌, true, false, ap, sym}
use Rattle.std.specs.Prelude.{is_none}
use Rattle.dv_machine.specs.Running.{ending_of}
use Rattle.dv_sound.proofs.Going.{none_of}
use Rattle.dv_sound.proofs.safe.SafeVm.may_turn.Goals as goal

pub returns-then-goes_on-clause-may : goal.returns-then-goes_on-clause-may
returns-then-goes_on-clause-may c main m at is =
    let ready = c.is_ready.ensures.ready main m at is in
    record {
      goes_on = none_of (ending_of c.args.self.now.verified.image m) (sym (c.goes_on.ensures.goes_on main m at c.args.thread ready.0) ∙ c.if-goes_on.true);
      runs = ready.0;
      at_home = ready.1;
    }

pub returns-else-goes_on-clause-held : goal.returns-else-goes_on-clause-held
returns-else-goes_on-clause-held c main m at off may =
    let d : true ≡ false = sym (c.goes_on.ensures.goes_on main m at c.args.thread may.runs ∙ ap is_none may.goes_on) ∙ c.if-goes_on.false in
    cc d
