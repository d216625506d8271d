use Rattle.std.proofs.lemmas.Result.{err_from_is_err_and}
use Rattle.dv_names.specs.Grammar.{proto_refusal}
use Rattle.dv_coderead.specs.References.{proto_in, proto_of}
use Rattle.dv_coderead.proofs.Readings.{fails_refused}
use Rattle.dv_coderead.proofs.Descriptors.{proto_read}
use Rattle.dv_coderead.proofs.references.proto.Goals as goal

pub returns-in_err-parse_proto : goal.returns-in_err-parse_proto
unfolding proto_in
returns-in_err-parse_proto c =
    let p = err_from_is_err_and c.from_residual.result c.from_residual.ensures.1 in
    rw (p.1, p.2) (fails_refused (proto_of c.args.word.now) (proto_refusal c.args.word.now) c.in_err-parse_proto.field-0.0 c.in_err-parse_proto.ensures.exact)

pub returns : goal.returns
returns c =
    let is = c.in_ok-parse_proto.ensures.prints in
    proto_read c.args.word.now c.in_ok-parse_proto.field-0 c.in_ok-parse_proto.ensures.exact is.0 is.1
