-- Whose next step is local: another thread's step changes nothing of it, and words tell it.
use Rattle.std.proofs.Common.{◌≡◌, ℕ, List, [], ◌∷◌, Bool, true, Option, Some, None, refl, ap, ◌∙◌}
use Rattle.std.specs.Prelude.{◌&&◌, slice_get}
use Rattle.dv_defs.specs.declared.machine.End.{End}
use Rattle.dv_machine.specs.Frame as tagged
use Rattle.dv_machine.specs.Level as tagged_level
use Rattle.dv_defs.specs.declared.names.MethodId.{MethodId}
use Rattle.dv_defs.specs.Images.{Image}
use Rattle.dv_typing.specs.Statics.{fetch}
use Rattle.dv_machine.specs.Replaying.{is_local_at, is_local_level, is_running, thread_is_local}
use Rattle.dv_machine.specs.State.{Thread}
use Rattle.dv_words.specs.declared.state.Frame.{Frame}
use Rattle.dv_words.specs.declared.state.Level.{Level}
use Rattle.dv_words.specs.declared.state.Level.TheVariants as level
use Rattle.dv_words.specs.Standing.{FrameStands, LevelsStand}
use Rattle.dv_words.specs.State.{WordThread}
use Rattle.dv_words.specs.Step.{step}
use Rattle.law_words.proofs.ThreadSteps.{BothStand, thread_at}
use Rattle.law_engine.specs.KeepLaws.{LocalsStay, NextIsAlike, is_local_level_of, next_is_local_of, thread_is_local_of}
use Rattle.law_engine.proofs.Others.{steps_leave_others}

-- ---- another thread's step

pub locals_stay : LocalsStay
locals_stay image w t u other is = by (slice_get w.threads u) refl is
  where
    by : (x : Option WordThread) → slice_get w.threads u ≡ x → thread_is_local_of image x ≡ true → next_is_local_of image (step image w t) u ≡ true
    by None has is = absurd (cc)
    by (Some th) has is = ap (thread_is_local_of image) ((steps_leave_others image w t).others u th other has) ∙ is

-- ---- words that stand for a state

frame_is : (image : Image) (s : Frame) (f : tagged.Frame) → FrameStands s f → is_local_at (fetch image s.method.0 s.at) ≡ is_local_at (fetch image f.method.0 f.at)
frame_is image s f frame =
    ap (λ (k : MethodId). is_local_at (fetch image k.0 s.at)) frame.method ∙ ap (λ (a : ℕ). is_local_at (fetch image f.method.0 a)) frame.at

levels_is : (image : Image) (ss : List Level) (ls : List tagged_level.Level) → LevelsStand ss ls → is_local_level_of image ss ≡ is_local_level image ls
levels_is image [] [] all = refl
levels_is image [] (l ∷ ls) all = absurd all
levels_is image (s ∷ ss) [] all = absurd all
levels_is image (level.Code s ∷ ss) (tagged_level.Code f ∷ ls) all = frame_is image s f all.0
levels_is image (level.Init c r ∷ ss) (tagged_level.Init d q ∷ ls) all = refl
levels_is image (level.Code s ∷ ss) (tagged_level.Init d q ∷ ls) all = absurd all.0
levels_is image (level.Init c r ∷ ss) (tagged_level.Code f ∷ ls) all = absurd all.0

thread_is : (image : Image) (x : Option WordThread) (y : Option Thread) → BothStand x y → thread_is_local_of image x ≡ thread_is_local image y
thread_is image None None both = refl
thread_is image None (Some y) both = absurd both
thread_is image (Some x) None both = absurd both
thread_is image (Some x) (Some y) both =
    ap (λ (e : End). is_running e && is_local_level_of image x.levels) both.end ∙ ap (λ (b : Bool). is_running y.end && b) (levels_is image x.levels y.levels both.levels)

pub next_is_alike : NextIsAlike
next_is_alike image T w m t simulated = thread_is image (slice_get w.threads t) (slice_get m.threads t) (thread_at w.threads m.threads t simulated.stands.threads)
