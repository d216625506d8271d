use Rattle.dv_coderead.proofs.RawTries.{all_entries, one_more}
use Rattle.dv_coderead.proofs.raw_body.tries.Goals as goal

pub loop-handler-preserved : goal.loop-handler-preserved
loop-handler-preserved c =
    one_more c.args.types.now c.args.handlers.now c.loop-handler.handler-index c.loop-handler.tries.items _ c.handler-item.result c.in_ok-own.own
    c.loop-handler-test.true c.handler-item.is c.in_ok-own.ensures c.in_ok-add_handler.ensures c.loop-handler.invariant

pub returns : goal.returns
returns c = all_entries c.args.types.now c.args.handlers.now c.loop-handler.handler-index c.loop-handler.tries.items c.loop-handler-test.false c.loop-handler.invariant
