use Rattle.std.proofs.Common.{sym}
use Rattle.dv_ops.specs.Meaning.{code_of}
use Rattle.law_words.proofs.Fetching.{read_here}
use Rattle.dv_fetch.proofs.Bodiless.{no_code}
use Rattle.dv_call.proofs.returns.next_of.Goals as goal

pub returns-in_err-code : goal.returns-in_err-code
returns-in_err-code c x e = absurd (no_code c.args.image.now c.args.method.0 c.args.at x (sym c.in_err-code.ensures) e)

pub returns : goal.returns
returns c x e =
    c.next_in.ensures x
    (read_here c.args.image.now c.args.method.0 c.args.at c.units_of.result.now x
    (record { code = code_of c.in_ok-code.code; has_code = sym c.in_ok-code.ensures; same_units = sym c.units_of.ensures.units; has_at = e }))
