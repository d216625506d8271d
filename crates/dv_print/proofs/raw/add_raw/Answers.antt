use Rattle.std.proofs.Common.{◌++◌, ap, ◌∙◌}
use Rattle.dv_print.proofs.raw.add_raw.Goals as goal

pub returns : goal.returns
returns c = c.in_ok-extend_from_slice.ensures.items ∙ ap (λ xs. c.args.text.now.items ++ xs) (c.deref.ensures.value ∙ c.in_ok-raw.ensures)
