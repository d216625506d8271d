use Rattle.std.proofs.Common.{ap, ◌∙◌}
use Rattle.dv_console.proofs.Prefixes.{front_off, stripped}
use Rattle.dv_console.proofs.keys.text_behind.Goals as goal

pub returns : goal.returns
returns c = stripped c.text.result.now c.args.word.now _ c.strip_prefix.ensures.cases ∙ ap (λ p. front_off p c.args.word.now) c.text.ensures
