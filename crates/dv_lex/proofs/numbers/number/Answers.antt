use Rattle.std.proofs.Common.{◌≡◌, ℕ, Option, Some, None, Result, refl, sym, ap, ◌∙◌, subst}
use Rattle.std.specs.Prelude.{ℤ}
use Rattle.std.specs.Option.{ok_or}
use Rattle.dv_defs.specs.declared.faults.LineKind.TheVariants.{NumberRange}
use Rattle.dv_defs.specs.declared.faults.LineError.{LineError}
use Rattle.dv_defs.specs.declared.faults.LineError.TheVariants.{At}
use Rattle.dv_lex.specs.Numbers.{in_bits, Means}
use Rattle.dv_lex.proofs.Spelled.Texts.{digits_are_hexadecimal, only_parts}
use Rattle.dv_lex.proofs.numbers.number.Goals as goal

-- a value or the refusal
means : (line : ℕ) (found : Option ℤ) (r : Result ℤ LineError) → r ≡ ok_or found (At line NumberRange) → Means line r found
means line (Some v) r e = subst (λ x. Means line x (Some v)) (sym e) refl
means line None r e = subst (λ x. Means line x None) (sym e) (refl, refl)

pub in_bits-requires-clause-digits : goal.in_bits-requires-clause-digits
in_bits-requires-clause-digits c = digits_are_hexadecimal c.cut.result.hexadecimal c.cut.result.digits.now (c.cut.ensures.digits c.requires.spelled).1

pub returns : goal.returns
returns c n s =
    let same = only_parts c.args.token.now c.cut.result c.cut.ensures.whole (c.cut.ensures.digits c.requires.spelled) n s in
    let found = c.in_bits.ensures ∙ sym (ap (in_bits c.args.bits) same) in
    subst (Means c.args.line c.ok_or.result) found (means c.args.line c.in_bits.result c.ok_or.result c.ok_or.ensures.value)
