use Rattle.std.proofs.lemmas.Result.{on_ok_weaker}
use Rattle.dv_coderead.proofs.RawAdding.{adds_entry}
use Rattle.dv_coderead.proofs.raw_body.RawDrafting.add_entry.Goals as goal

pub returns-clause-with : goal.returns-clause-with
returns-clause-with c = on_ok_weaker c.add-added.result (adds_entry c.args.self.now c.args.entry _) c.add-added.ensures
