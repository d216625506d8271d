-- The tagged thread and frames for which the words of the thread that steps stand.
use Rattle.std.proofs.Common.{◌≡◌, ℕ, zero, suc, List, [], ◌∷◌, Some, refl, subst}
use Rattle.std.specs.List.{AllZip}
use Rattle.std.specs.Prelude.{slice_get}
use Rattle.std.proofs.lemmas.Option.{same_Some}
use Rattle.dv_machine.specs.Frame as tagged
use Rattle.dv_machine.specs.Level as tagged_level
use Rattle.dv_machine.specs.State.{Thread}
use Rattle.dv_words.specs.declared.state.Frame.{Frame}
use Rattle.dv_words.specs.declared.state.Level.{Level}
use Rattle.dv_words.specs.declared.state.Level.TheVariants as level
use Rattle.dv_words.specs.Standing.{FrameStands, LevelsStand, ThreadStands}
use Rattle.dv_words.specs.State.{WordThread}

-- the thread of the same number
pub record IsMatched (threads : List Thread) (t : ℕ) (own : WordThread) : Type 0 where
  pub thread : Thread
  pub there : slice_get threads t ≡ Some thread
  pub stands : ThreadStands own thread

pub matched : (ws : List WordThread) (ts : List Thread) (t : ℕ) (own : WordThread) → AllZip ThreadStands ws ts → slice_get ws t ≡ Some own → IsMatched ts t own
matched [] ts t own all has = absurd (cc)
matched (w ∷ ws) [] t own all has = absurd all
matched (w ∷ ws) (x ∷ ts) zero own all has = let same : w ≡ own = same_Some w own has in record { thread = x; there = refl; stands = subst (λ (y : WordThread). ThreadStands y x) same all.0 }
matched (w ∷ ws) (x ∷ ts) (suc t) own all has = let rest = matched ws ts t own all.1 has in record { thread = rest.thread; there = rest.there; stands = rest.stands }

-- the frame on top
pub record IsTop (f : Frame) (rest : List Level) (ls : List tagged_level.Level) : Type 0 where
  pub frame : tagged.Frame
  pub below : List tagged_level.Level
  pub levels : ls ≡ tagged_level.Code frame ∷ below
  pub stands : FrameStands f frame
  pub rest_stands : LevelsStand rest below

pub top_of : (f : Frame) (rest : List Level) (ls : List tagged_level.Level) → LevelsStand (level.Code f ∷ rest) ls → IsTop f rest ls
top_of f rest [] all = absurd all
top_of f rest (tagged_level.Code g ∷ ls) all = record { frame = g; below = ls; levels = refl; stands = all.0; rest_stands = all.1 }
top_of f rest (tagged_level.Init d q ∷ ls) all = absurd all.0
