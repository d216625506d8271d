use Rattle.std.proofs.Common.{ℕ, arith, length-drop}
use Rattle.std.proofs.lemmas.List.{length-take}
use Rattle.dv_print.proofs.Steps.Bytes.{few_bytes}
use Rattle.dv_print.proofs.items.+low_first.Goals as goal

pub overflow_mul-result : goal.overflow_mul-result
overflow_mul-result t c =
    let small = few_bytes _ _ (omega (arith, length-take {A = ℕ}, length-drop {A = ℕ})) c.low_first.ensures.small in
    omega (arith, small, c.low_first.ensures.value)

pub overflow_add-result : goal.overflow_add-result
overflow_add-result t c =
    let small = few_bytes _ _ (omega (arith, length-take {A = ℕ}, length-drop {A = ℕ})) c.low_first.ensures.small in
    omega (arith, small, c.low_first.ensures.value)
