use Rattle.std.proofs.Common.{ap, option_map, ◌∙◌}
use Rattle.dv_resolve.specs.Members.{of_method}
use Rattle.dv_resolve.proofs.Walking.{class_within, method_by_class}
use Rattle.dv_resolve.proofs.members.Members.method_named.Goals as goal

pub returns : goal.returns
returns c = λ image knows.
    c.method_along.ensures image knows (class_within image c.args.reference.now.class c.class_of.result c.in_ok-class.class (c.class_of.ensures image knows) c.in_ok-class.was)
    ∙ ap (option_map of_method) (method_by_class image c.args.reference.now c.class_of.result c.in_ok-class.class (c.class_of.ensures image knows) c.in_ok-class.was)
