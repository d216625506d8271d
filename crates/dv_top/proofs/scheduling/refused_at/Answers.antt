use Rattle.std.proofs.Common.{◌≡◌, ◌++◌, List, ℕ, append_assoc, ap, sym, ◌∙◌}
use Rattle.std.specs.Prelude.{string_bytes, decimal, codes}
use Rattle.std.proofs.lemmas.Result.{IfOk-weaker}
use Rattle.dv_machine.specs.Final.{newline}
use Rattle.dv_top.specs.Runs.{schedule_line}
use Rattle.dv_top.proofs.scheduling.refused_at.Goals as goal

-- four pieces one after another
joined : (a b c d : List ℕ) → a ++ (b ++ (c ++ d)) ≡ a ++ b ++ c ++ d
joined a b c d = sym (append_assoc (a ++ b) c d ∙ append_assoc a b (c ++ d))

pub returns : goal.returns
returns c =
    let pieces = ap (λ t. codes "#schedule entry " ++ t) (joined (decimal c.args.entry) (codes ": ") c.args.why.now newline) in
    let line : string_bytes c.in_ok-line.line ≡ schedule_line c.args.entry c.args.why.now = c.in_ok-line.ensures.ok ∙ pieces in
    IfOk-weaker c.fixed.result _ _ (λ reply told. (told.0, told.1 ∙ (c.as_bytes.ensures.value ∙ line))) c.fixed.ensures
