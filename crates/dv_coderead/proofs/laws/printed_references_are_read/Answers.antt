use Rattle.dv_coderead.proofs.Printed.{printed_type, printed_proto, printed_field, printed_method}
use Rattle.dv_coderead.proofs.laws.printed_references_are_read.Goals as goal

pub returns-clause-types : goal.returns-clause-types
returns-clause-types c = printed_type

pub returns-clause-prototypes : goal.returns-clause-prototypes
returns-clause-prototypes c = printed_proto

pub returns-clause-fields : goal.returns-clause-fields
returns-clause-fields c = printed_field

pub returns-clause-methods : goal.returns-clause-methods
returns-clause-methods c = printed_method
