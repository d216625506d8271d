use Rattle.std.proofs.Common.{sym, ◌∙◌}
use Rattle.dv_ops.specs.Meaning.{method_of}
use Rattle.dv_call.proofs.Called.{native_found}
use Rattle.dv_call.proofs.landings.native_of.Goals as goal

pub returns : goal.returns
returns c =
    native_found c.args.image.now (method_of c.args.method.now) c.native.result c.name_of.result.now c.bytes.result.now (sym c.is_in.ensures ∙ c.if-not-is_in.false) c.name_of.ensures c.bytes.ensures c.native.ensures
