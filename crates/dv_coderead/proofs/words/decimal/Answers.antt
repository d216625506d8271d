use mir.Val.{SFits}
use Rattle.std.proofs.Common.{Ok, ap, sym, ◌∙◌, rules, w64}
use Rattle.std.proofs.lemmas.Int.{to_z-of_z}
use Rattle.dv_coderead.proofs.Numbers.{decimal_number, decimal_spells, not_read, ranged, short_read}
use Rattle.dv_coderead.proofs.words.decimal.Goals as goal

pub number-requires-clause-spelled : goal.number-requires-clause-spelled
number-requires-clause-spelled c = (decimal_number c.args.digits.now, decimal_spells c.args.digits.now (sym c.are_decimal.ensures ∙ c.if-not-are_decimal.false))

pub returns-then-not-are_decimal : goal.returns-then-not-are_decimal
returns-then-not-are_decimal c = sym (not_read c.args.digits.now (sym c.are_decimal.ensures ∙ c.if-not-are_decimal.true))

pub returns-in-Ok : goal.returns-in-Ok
returns-in-Ok c =
    let digits = c.args.digits.now in
    let are = sym c.are_decimal.ensures ∙ c.if-not-are_decimal.false in
    let fits : SFits w64 c.in-Ok.value = search rules in
    ap Ok (to_z-of_z w64 c.in-Ok.value fits) ∙ sym (short_read digits are ∙ ap ranged (c.in-Ok.ensures (decimal_number digits) (decimal_spells digits are)))

pub returns-in-Err : goal.returns-in-Err
returns-in-Err c =
    let digits = c.args.digits.now in
    let are = sym c.are_decimal.ensures ∙ c.if-not-are_decimal.false in
    sym (short_read digits are ∙ ap ranged (c.in-Err.ensures (decimal_number digits) (decimal_spells digits are)).1)
