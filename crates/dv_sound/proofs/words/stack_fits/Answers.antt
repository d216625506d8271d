use Rattle.std.proofs.Common.{List, All, reverse, subst}
use Rattle.dv_words.specs.Standing.{AllFit}
use Rattle.dv_words.specs.State.{WordStack}
use Rattle.dv_frames.specs.declared.levels.Level.{Level}
use Rattle.dv_sound.specs.Words.{HeadFits, StackFits}
use Rattle.dv_sound.proofs.Erased.{cut_fits, from_behind}
use Rattle.dv_sound.proofs.words.stack_fits.Goals as goal

pub returns : goal.returns
returns c =
    let s = c.stack.inside in
    let words = subst AllFit c.as_slice.ensures.value c.words_fit.ensures in
    let heads = subst (λ (ls : List Level). All HeadFits ls) c.as_slice-2.ensures.value c.levels_fit.ensures in
    subst (λ (w : WordStack). StackFits w) c.stack.view_is (cut_fits (reverse s.levels.items) s.words.items words (from_behind s.levels.items heads))
