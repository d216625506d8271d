use mir.Val.{SFits}
use Rattle.std.proofs.Common.{ℤ, pos, negsuc, ◌≡◌, ◌^◌, List, ℕ, Ok, true, sym, rules, w32, w64}
use Rattle.std.proofs.lemmas.Bool.{ltb-true}
use Rattle.std.proofs.lemmas.Int.{to_z-of_z}
use Rattle.std.proofs.lemmas.Result.{IfOk-at_ok, err_from_is_err_and}
use Rattle.dv_defs.specs.Spelling.{fits_signed}
use Rattle.dv_coderead.specs.BodyLines.{key_in}
use Rattle.dv_coderead.specs.Words.{literal_in}
use Rattle.dv_coderead.proofs.FormedParts.{Fits, literal_fits}
use Rattle.dv_coderead.proofs.body_line.key.Goals as goal

-- what 32 bits hold, code holds in 32 bits
fits_by : (z : ℤ) → fits_signed 32 z ≡ true → SFits w32 z
fits_by (pos n) e = record { sfits = ltb-true n (2 ^ 31) e }
fits_by (negsuc n) e = record { sfits = ltb-true n (2 ^ 31) e }

key_fits : (w : List ℕ) (z : ℤ) → literal_in 32 w ≡ Ok z → SFits w32 z
key_fits w z is = fits_by z (IfOk-at_ok (Fits 32) is (literal_fits 32 w))

pub returns-in_err-literal : goal.returns-in_err-literal
unfolding key_in
returns-in_err-literal c =
    let p = err_from_is_err_and c.from_residual.result c.from_residual.ensures.1 in
    rw (p.1, p.2) c.in_err-literal.ensures

pub overflow_cast-result : goal.overflow_cast-result
overflow_cast-result c =
    let z = c.in_ok-literal.field-0 in
    let fits : SFits w64 z = search rules in
    rw (to_z-of_z w64 z fits) (key_fits c.args.word.now z (sym c.in_ok-literal.ensures))

pub returns : goal.returns
unfolding key_in
returns c =
    let z = c.in_ok-literal.field-0 in
    let fits : SFits w64 z = search rules in
    let small = key_fits c.args.word.now z (sym c.in_ok-literal.ensures) in
    rw (to_z-of_z w64 z fits) (rw (to_z-of_z w32 z small) c.in_ok-literal.ensures)
