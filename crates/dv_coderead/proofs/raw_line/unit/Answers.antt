use Rattle.std.proofs.lemmas.Grind.{common_steps}
use Rattle.std.proofs.Common.{◌≡◌, length, arith}
use Rattle.dv_coderead.proofs.RawUnits.{four_digits}
use Rattle.dv_coderead.proofs.raw_line.unit.Goals as goal

pub returns-in-len4 : goal.returns-in-len4
returns-in-len4 c =
    let four : length c.args.word.now ≡ 4 = omega arith in
    let value = four_digits c.args.word.now four in
    omega arith

pub digit-requires : goal.digit-requires
digit-requires c = grind (arith, common_steps)
