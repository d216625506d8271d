use Rattle.std.proofs.Common.{◌∙◌, ap, arith, length}
use Rattle.std.proofs.lemmas.Result.{IfOk-weaker}
use Rattle.dv_top.proofs.FaultParts.{front_of, tail_within}
use Rattle.dv_top.proofs.printed.head_of.Goals as goal

pub overflow_sub-length : goal.overflow_sub-length
overflow_sub-length c =
    omega (arith, ap length (c.bytes.ensures ∙ c.in_ok-line.ensures), ap length (c.bytes-2.ensures ∙ c.requires), tail_within c.args.image.now c.args.fault.now)

pub returns : goal.returns
returns c =
    IfOk-weaker c.of.result _ _
    (λ head is. is ∙ ((rw (c.bytes-3.ensures, c.bytes-2.ensures, c.bytes.ensures, c.in_ok-line.ensures, c.requires) at c.in_ok-from_slice.ensures.items) ∙ front_of c.args.image.now c.args.fault.now))
    c.of.ensures
