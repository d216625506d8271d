use mir.Val.{SFits}
use Rattle.std.proofs.Common.{◌≡◌, true, length, Ok, sym, ap, ◌∙◌, arith, rules, w64}
use Rattle.std.proofs.lemmas.Bool.{and_from, eqb-false, eqb-true, lt-ltb}
use Rattle.std.proofs.lemmas.Int.{to_z-of_z}
use Rattle.dv_coderead.specs.WordParts.{are_decimal}
use Rattle.dv_coderead.proofs.Numbers.{decimal_number, decimal_spells, no_tens, ranged, tens_read}
use Rattle.dv_coderead.proofs.words.tens.Goals as goal

pub returns-then-is_empty : goal.returns-then-is_empty
returns-then-is_empty c = no_tens c.args.digits.now (eqb-true _ _ (sym c.is_empty.ensures ∙ c.if-is_empty.true))

pub number-requires-clause-spelled : goal.number-requires-clause-spelled
number-requires-clause-spelled c = (decimal_number c.args.digits.now, decimal_spells c.args.digits.now (and_from _ _ (lt-ltb 0 _ (let some = eqb-false (length c.args.digits.now) 0 (sym c.is_empty.ensures ∙ c.if-is_empty.false) in omega arith)) c.requires))

pub returns-in-Ok : goal.returns-in-Ok
returns-in-Ok c =
    let digits = c.args.digits.now in
    let are : are_decimal digits ≡ true = and_from _ _ (lt-ltb 0 _ (let some = eqb-false (length c.args.digits.now) 0 (sym c.is_empty.ensures ∙ c.if-is_empty.false) in omega arith)) c.requires in
    let fits : SFits w64 c.in-Ok.value = search rules in
    ap Ok (to_z-of_z w64 c.in-Ok.value fits) ∙ sym (tens_read digits ∙ ap ranged (c.in-Ok.ensures (decimal_number digits) (decimal_spells digits are)))

pub returns-in-Err : goal.returns-in-Err
returns-in-Err c =
    let digits = c.args.digits.now in
    let are : are_decimal digits ≡ true = and_from _ _ (lt-ltb 0 _ (let some = eqb-false (length c.args.digits.now) 0 (sym c.is_empty.ensures ∙ c.if-is_empty.false) in omega arith)) c.requires in
    sym (tens_read digits ∙ ap ranged (c.in-Err.ensures (decimal_number digits) (decimal_spells digits are)).1)
