use Rattle.std.proofs.Common.{◌≡◌, ℕ, List, Result, Ok, Err, IfOk, sym, ◌∙◌}
use Rattle.std.specs.declared.alloc.AllocError.{AllocError}
use Rattle.dv_coderead.proofs.Strings.{string_written}
use Rattle.dv_coderead.proofs.words.string.Goals as goal

-- units of a literal are those that its text is read as
units_are : (units read : List ℕ) (r : Result (List ℕ) AllocError) → read ≡ units → IfOk r (λ u. u ≡ units) → IfOk r (λ u. u ≡ read)
units_are units read (Ok u) e is = is ∙ sym e
units_are units read (Err e) same is = is

pub returns : goal.returns
returns c =
    let units = c.requires.0 in
    let is = c.requires.1 in
    units_are units _ c.string_units.result (string_written units c.args.word.now is) (c.string_units.ensures units is)
