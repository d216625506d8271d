use Rattle.std.proofs.Common.{subst, map, Option}
use Rattle.std.specs.Prelude.{IfSome, string_bytes}
use Rattle.dv_console.specs.declared.command.Cmd.{Cmd}
use Rattle.dv_top.specs.Words.{IsUsable}
use Rattle.dv_top.proofs.Usable.{asked_usable}
use Rattle.dv_top.proofs.words.command_of.Goals as goal

pub returns-in-Ok-clause-usable : goal.returns-in-Ok-clause-usable
returns-in-Ok-clause-usable c =
    subst (λ (o : Option Cmd). IfSome o IsUsable) c.in-Ok.ensures (asked_usable (map string_bytes c.args.words.now))
