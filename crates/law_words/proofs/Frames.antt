-- Frames and levels on words are the erasures of those that they stand for.
use Rattle.std.proofs.Common.{◌≡◌, ℕ, List, [], ◌∷◌, All, Option, refl, sym, ap, subst, ◌∙◌}
use Rattle.std.proofs.lemmas.List.Elements.{All-head, All-tail}
use Rattle.dv_machine.specs.Frame as tagged
use Rattle.dv_machine.specs.Level as tagged_level
use Rattle.dv_machine.specs.Pending.{Pending}
use Rattle.dv_machine.specs.Pending as pending
use Rattle.dv_defs.specs.declared.names.MethodId.{MethodId}
use Rattle.dv_words.specs.declared.state.Frame.{Frame}
use Rattle.dv_words.specs.declared.state.Kept.{Kept}
use Rattle.dv_words.specs.declared.state.Kept.TheVariants as kept
use Rattle.dv_words.specs.declared.state.Level.{Level}
use Rattle.dv_words.specs.declared.state.Level.TheVariants as level
use Rattle.dv_words.specs.Erasure.{erased, erased_frame, erased_level, erased_levels, erased_pending, erased_values}
use Rattle.law_words.specs.ErasureLaws.{FramesAreErased, LevelsAreErased}
use Rattle.dv_words.specs.Standing.{FrameFits, FrameStands, IsResult, IsWholeFrame, IsWholeLevel, IsWholeResult, LevelFits, LevelStands, LevelsStand, ResultFits}
use Rattle.law_words.proofs.Erasing.{of_word, same_words, stand_words, to_word}

same_result : (k : Kept) (p : Pending) → ResultFits k → IsResult k p → k ≡ erased_pending p
same_result kept.None pending.None f is = refl
same_result kept.None (pending.One x) f is = absurd is
same_result kept.None (pending.Two lo hi) f is = absurd is
same_result (kept.One w) pending.None f is = absurd is
same_result (kept.One w) (pending.One x) f is = ap kept.One (of_word w x f is)
same_result (kept.One w) (pending.Two lo hi) f is = absurd is
same_result (kept.Two low high) pending.None f is = absurd is
same_result (kept.Two low high) (pending.One x) f is = absurd is
same_result (kept.Two low high) (pending.Two lo hi) f is = ap (λ l. kept.Two l high) is.0 ∙ ap (kept.Two lo) is.1

result_stands : (p : Pending) → IsWholeResult p → IsResult (erased_pending p) p
result_stands pending.None h = tt
result_stands (pending.One x) h = to_word (erased x) x h refl
result_stands (pending.Two lo hi) h = (refl, refl)

abbrev frame_of : MethodId → ℕ → List ℕ → Kept → Option ℕ → Frame
frame_of m at regs k c = record { method = m; at = at; regs = regs; result = k; caught = c }

pub same_frame : (s : Frame) (f : tagged.Frame) → FrameFits s → FrameStands s f → s ≡ erased_frame f
same_frame s f fits stands =
    ap (λ m. frame_of m s.at s.regs s.result s.caught) stands.method
    ∙ (ap (λ at. frame_of f.method at s.regs s.result s.caught) stands.at
    ∙ (ap (λ regs. frame_of f.method f.at regs s.result s.caught) (same_words s.regs f.regs fits.0 stands.regs)
    ∙ (ap (λ k. frame_of f.method f.at (erased_values f.regs) k s.caught) (same_result s.result f.result fits.1 stands.result)
    ∙ ap (frame_of f.method f.at (erased_values f.regs) (erased_pending f.result)) stands.caught)))

pub frame_stands : (f : tagged.Frame) → IsWholeFrame f → FrameStands (erased_frame f) f
frame_stands f h =
    record { method = refl; at = refl; regs = stand_words f.regs h.0; result = result_stands f.result h.1; caught = refl }

pub frames_are_erased : FramesAreErased
frames_are_erased s f fits h = (same_frame s f fits, λ is. subst (λ t. FrameStands t f) (sym is) (frame_stands f h))

same_level : (s : Level) (l : tagged_level.Level) → LevelFits s → LevelStands s l → s ≡ erased_level l
same_level (level.Code s) (tagged_level.Code f) fits stands = ap level.Code (same_frame s f fits stands)
same_level (level.Code s) (tagged_level.Init c r) fits stands = absurd stands
same_level (level.Init c r) (tagged_level.Code f) fits stands = absurd stands
same_level (level.Init c r) (tagged_level.Init d q) fits stands = ap (λ x. level.Init x r) stands.0 ∙ ap (level.Init d) stands.1

level_stands : (l : tagged_level.Level) → IsWholeLevel l → LevelStands (erased_level l) l
level_stands (tagged_level.Code f) h = frame_stands f h
level_stands (tagged_level.Init c r) h = (refl, refl)

same_levels : (ss : List Level) (ls : List tagged_level.Level) → All LevelFits ss → LevelsStand ss ls → ss ≡ erased_levels ls
same_levels [] [] fits stand = refl
same_levels [] (l ∷ ls) fits stand = absurd stand
same_levels (s ∷ ss) [] fits stand = absurd stand
same_levels (s ∷ ss) (l ∷ ls) fits stand =
    ap (λ t. t ∷ ss) (same_level s l (All-head LevelFits s ss fits) stand.0) ∙ ap (λ ts. erased_level l ∷ ts) (same_levels ss ls (All-tail LevelFits s ss fits) stand.1)

levels_stand : (ls : List tagged_level.Level) → All IsWholeLevel ls → LevelsStand (erased_levels ls) ls
levels_stand [] h = tt
levels_stand (l ∷ ls) h = (level_stands l (All-head IsWholeLevel l ls h), levels_stand ls (All-tail IsWholeLevel l ls h))

pub levels_are_erased : LevelsAreErased
levels_are_erased ss ls fits h = (same_levels ss ls fits, λ is. subst (λ ts. LevelsStand ts ls) (sym is) (levels_stand ls h))
