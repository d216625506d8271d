use Rattle.std.proofs.Common.{sym}
use Rattle.dv_ops.specs.Meaning.{code_of, meant, method_of}
use Rattle.dv_infer.proofs.Receiving.{receiver_begins, made_there}
use Rattle.dv_infer.proofs.receivers.made_of.Goals as goal

pub made_by-requires-clause-begins : goal.made_by-requires-clause-begins
made_by-requires-clause-begins c =
    receiver_begins c.args.image.now (code_of c.args.code.now) c.args.state.now (meant (code_of c.args.code.now) 0 c.args.op.now) c.in-Some.place
    c.requires.fits (sym (c.in-Some.ensures 0))

pub returns-in-Some : goal.returns-in-Some
returns-in-Some c at =
    made_there c.args.image.now (method_of c.args.code.now.method) (meant (code_of c.args.code.now) at c.args.op.now) c.args.state.now.regs c.in-Some.place
    c.made_by.result (sym (c.in-Some.ensures at)) c.made_by.ensures
