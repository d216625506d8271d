use Rattle.std.proofs.lemmas.Result.{err_from_is_err_and}
use Rattle.dv_names.specs.Grammar.{type_refusal}
use Rattle.dv_coderead.specs.References.{type_in, type_of}
use Rattle.dv_coderead.proofs.Readings.{fails_refused}
use Rattle.dv_coderead.proofs.Descriptors.{type_read}
use Rattle.dv_coderead.proofs.references.ty.Goals as goal

pub returns-in_err-parse_type : goal.returns-in_err-parse_type
unfolding type_in
returns-in_err-parse_type c =
    let p = err_from_is_err_and c.from_residual.result c.from_residual.ensures.1 in
    rw (p.1, p.2) (fails_refused (type_of c.args.word.now) (type_refusal c.args.word.now) c.in_err-parse_type.field-0.0 c.in_err-parse_type.ensures.exact)

pub returns : goal.returns
returns c =
    let is = c.in_ok-parse_type.ensures.prints in
    type_read c.args.word.now c.in_ok-parse_type.field-0 c.in_ok-parse_type.ensures.exact is.0 is.1
