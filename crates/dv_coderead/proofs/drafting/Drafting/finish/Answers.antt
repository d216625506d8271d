use Rattle.std.proofs.Common.{◌≡◌, true, false, rules}
use Rattle.std.specs.Prelude.{is_some}
use Rattle.dv_coderead.proofs.Finishing.{is_whole, left_open, no_frame}
use Rattle.dv_coderead.proofs.drafting.Drafting.finish.Goals as goal

pub returns-in_default : goal.returns-in_default
returns-in_default c = rw c.missing.ensures (no_frame c.args.past c.args.self c.in_default.is)

pub returns-then-is_some : goal.returns-then-is_some
returns-then-is_some c =
    let some : is_some c.args.self.context.block ≡ true = search rules in
    rw c.missing-then-is_some.ensures (left_open c.args.past c.args.self c.in-Some.frame c.in-Some.is some)

pub returns : goal.returns
returns c =
    let none : is_some c.args.self.context.block ≡ false = search rules in
    rw (c.of.ensures, c.of-2.ensures) (is_whole c.args.past c.args.self c.in-Some.frame c.in-Some.is none)
