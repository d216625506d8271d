use Rattle.dv_coderead.proofs.Spelling.{read, spelled}
use Rattle.dv_coderead.proofs.laws.numbers_are_spelled.Goals as goal

pub returns : goal.returns
returns c = λ text n. (spelled text n, read text n)
