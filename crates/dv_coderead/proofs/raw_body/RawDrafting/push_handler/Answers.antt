use Rattle.dv_coderead.proofs.RawAdding.{adds_handler}
use Rattle.dv_coderead.proofs.raw_body.RawDrafting.push_handler.Goals as goal

pub returns-clause-with : goal.returns-clause-with
returns-clause-with c = adds_handler c.args.self.now c.args.handler c.push.new.self c.in_ok-push.ensures.items
