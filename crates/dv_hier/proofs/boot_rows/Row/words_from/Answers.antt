use Rattle.std.proofs.Common.{◌≡◌, min, length}
use Rattle.dv_hier.proofs.Rows.{words_end}
use Rattle.dv_hier.proofs.boot_rows.Row.words_from.Goals as goal

pub returns : goal.returns
returns c =
    let from : c.min.result ≡ min c.args.place (length c.as_slice-words.result.now) = cc in
    words_end c.as_slice-words.result.now c.args.self.now c.args.place c.min.result (cc) from
