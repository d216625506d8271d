use Rattle.std.proofs.Common.{◌≡◌, ◌+◌, ◌*◌, arith, get_or}
use Rattle.dv_lex.specs.Literals.{digit_value}
use Rattle.dv_lex.proofs.Spelled.Digits.{next, done, past}
use Rattle.dv_lex.proofs.numbers.magnitude.Goals as goal

pub returns-in_err-checked_mul : goal.returns-in_err-checked_mul
returns-in_err-checked_mul c = rw c.from_residual.ensures (λ small.
    c.in_err-checked_mul.ensures (omega (arith, past c.args.base c.args.digits.now c.loop-digit.digit-index c.loop-digit.value _ c.requires.base c.loop-digit-test.true c.loop-digit.invariant.so_far)))

pub returns-in_err-value : goal.returns-in_err-value
returns-in_err-value c = rw c.from_residual-in_err-value.ensures (λ small.
    c.in_err-value.ensures (omega (arith, c.digit_value.ensures, c.in_ok-checked_mul.ensures, past c.args.base c.args.digits.now c.loop-digit.digit-index c.loop-digit.value _ c.requires.base c.loop-digit-test.true c.loop-digit.invariant.so_far)))

pub loop-digit-preserved : goal.loop-digit-preserved
loop-digit-preserved c =
    let e : c.in_ok-value.value ≡ c.loop-digit.value * c.args.base + digit_value (get_or c.args.digits.now c.loop-digit.digit-index 0) = omega (arith, c.in_ok-value.ensures, c.in_ok-checked_mul.ensures, c.digit_value.ensures) in
    record {
      small = omega (arith, c.in_ok-value.ensures);
      so_far = rw e (next c.args.base c.args.digits.now c.loop-digit.digit-index c.loop-digit.value _ c.loop-digit-test.true c.loop-digit.invariant.so_far);
    }

pub returns : goal.returns
returns c = let e = done c.args.base c.args.digits.now c.loop-digit.digit-index c.loop-digit.value _ c.loop-digit-test.false c.loop-digit.invariant.so_far in (omega (arith, e, c.loop-digit.invariant.small), e)
