use Rattle.std.proofs.Common.{◌∙◌, sym, ap, arith, reverse, length}
use Rattle.std.proofs.lemmas.List.{length-reverse}
use Rattle.dv_words.specs.State.{WordStack}
use Rattle.dv_frames.proofs.Cutting.{length_cut}
use Rattle.dv_frames.proofs.stack.Stack.levels.Goals as goal

pub overflow_cast-result : goal.overflow_cast-result
overflow_cast-result c = omega (arith, c.self.invariant.few_levels, c.self.invariant.counted, c.len.ensures, c.self.inside.levels.ok.0)

pub returns : goal.returns
returns c = c.len.ensures ∙ c.self.inside.levels.ok.0 ∙ sym (length-reverse c.self.inside.levels.items) ∙ sym (length_cut (reverse c.self.inside.levels.items) c.self.inside.words.items) ∙ ap (λ (s : WordStack). length s.levels) c.self.view_is
