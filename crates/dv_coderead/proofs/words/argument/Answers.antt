use Rattle.std.proofs.Common.{◌≡◌, ℤ, ◌+◌, ◌-◌, ◌*◌, ◌/◌, ◌%◌, ◌+ℤ◌, ◌-ℤ◌, ◌*ℤ◌, of_z, to_z, w64, length, take, Err, pos, sym, ap, ◌∙◌, arith, rules}
use Rattle.std.specs.Prelude.{slice_index}
use Rattle.std.proofs.lemmas.Int.{ints}
use Rattle.std.proofs.lemmas.Result.{err_from_is_err_and}
use Rattle.dv_lex.specs.Numbers.{value_from}
use Rattle.dv_coderead.proofs.Numbers.{argument_behind, argument_early, argument_read, is_tens, tens_err, tens_ok}
use Rattle.dv_coderead.proofs.words.argument.Goals as goal
use Rattle.dv_coderead.proofs.words.argument.Goals.{then-tens-ltminus1000000000-via-then-tens-ltminus1000000000, then-tens-ltminus1000000000-via-else-tens-ltminus1000000000+then-tens-gt1000000000}

pub tens-requires : goal.tens-requires
tens-requires c = (is_tens c.args.digits.now (sym c.are_decimal.ensures ∙ c.if-not-are_decimal.false)).front

pub returns-in_err-tens : goal.returns-in_err-tens
returns-in_err-tens c =
    let ds = c.args.digits.now in
    let is = is_tens ds (sym c.are_decimal.ensures ∙ c.if-not-are_decimal.false) in
    let p = err_from_is_err_and c.from_residual.result c.from_residual.ensures.1 in
    let far = tens_err (value_from 10 0 (take (length ds - 1) ds)) c.in_err-tens.field-0.0 (sym c.in_err-tens.ensures) in
    rw (p.1, p.2) (ap Err far.0 ∙ sym (argument_behind c.args.frame ds _ _ is (let large = far.1 in omega arith)))

pub returns-then-tens-ltminus1000000000 : goal.returns-then-tens-ltminus1000000000
returns-then-tens-ltminus1000000000 c =
    let ds = c.args.digits.now in
    let is = is_tens ds (sym c.are_decimal.ensures ∙ c.if-not-are_decimal.false) in
    let ok = tens_ok (value_from 10 0 (take (length ds - 1) ds)) c.in_ok-tens.field-0 (sym c.in_ok-tens.ensures) in
    let e1 = ok.0 in
    let e2 = is.one in
    elim c.then-tens-ltminus1000000000.branch [
      | then-tens-ltminus1000000000-via-then-tens-ltminus1000000000 w ↦ sym (argument_early c.args.frame ds _ _ is (omega (arith, ints, w.if-tens-ltminus1000000000.true)))
      | then-tens-ltminus1000000000-via-else-tens-ltminus1000000000+then-tens-gt1000000000 w ↦ sym (argument_behind c.args.frame ds _ _ is (omega (arith, ints, w.if-tens-gt1000000000.true)))
    ]

pub overflow_sub-last-2 : goal.overflow_sub-last-2
overflow_sub-last-2 c =
    let is = is_tens c.args.digits.now (sym c.are_decimal.ensures ∙ c.if-not-are_decimal.false) in
    let digit = is.digit in
    omega arith

pub overflow_sub-ones : goal.overflow_sub-ones
overflow_sub-ones c = omega (arith, ints)

pub overflow_add-tens : goal.overflow_add-tens
overflow_add-tens c = omega (arith, ints)

pub overflow_add-tens-2 : goal.overflow_add-tens-2
overflow_add-tens-2 c = omega (arith, ints)

pub returns : goal.returns
returns c =
    let ds = c.args.digits.now in
    let is = is_tens ds (sym c.are_decimal.ensures ∙ c.if-not-are_decimal.false) in
    let ok = tens_ok (value_from 10 0 (take (length ds - 1) ds)) c.in_ok-tens.field-0 (sym c.in_ok-tens.ensures) in
    let e1 = ok.0 in
    let e2 = is.one in
    let e3 = is.digit in
    let f1 = c.from.ensures in
    let f2 = c.from-2.ensures in
    let kept = λ (z : ℤ). to_z w64 (of_z w64 z) in
    let a = c.args.frame.arguments in
    let z = kept (kept (kept (pos 10 *ℤ kept (kept c.in_ok-tens.field-0 -ℤ to_z w64 (a / 10))) +ℤ kept (kept c.from.result -ℤ to_z w64 (a % 10))) +ℤ kept c.from-2.result) in
    let front = value_from 10 0 (take (length ds - 1) ds) in
    let one = slice_index ds (length ds - 1) - 48 in
    let sum : z ≡ pos (front * 10 + one) +ℤ pos c.args.frame.registers -ℤ pos a = omega (arith, ints) in
    c.register_at.ensures ∙ argument_read c.args.frame ds front one is z sum

pub overflow_mul-tens : goal.overflow_mul-tens
overflow_mul-tens c = search rules depth 3
