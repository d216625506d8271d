-- Registers of words stand for registers of values, before a write and after it.
use Rattle.std.proofs.Common.{ℕ, zero, suc, List, [], ◌∷◌, refl}
use Rattle.std.specs.Prelude.{slice_set}
use Rattle.dv_machine.specs.Value.{Value}
use Rattle.dv_machine.specs.Value as v
use Rattle.dv_machine.specs.Frame as tagged_frame
use Rattle.dv_machine.specs.State as tagged
use Rattle.dv_machine.specs.State.{reg_at}
use Rattle.dv_words.specs.declared.state.Frame.{Frame}
use Rattle.dv_words.specs.Stacks.{gone}
use Rattle.dv_words.specs.Standing.{AreWords, FrameStands, IsWord}
use Rattle.dv_words.specs.Words.{word_at}
use Rattle.dv_words.specs.Local.{put, put_two}

-- past the ends both are what was never written
pub is_word_at : (ws : List ℕ) (xs : List Value) (k : ℕ) → AreWords ws xs → IsWord (word_at ws k) (reg_at xs k)
is_word_at [] [] k are = refl
is_word_at [] (x ∷ xs) k are = absurd are
is_word_at (w ∷ ws) [] k are = absurd are
is_word_at (w ∷ ws) (x ∷ xs) zero are = are.0
is_word_at (w ∷ ws) (x ∷ xs) (suc k) are = is_word_at ws xs k are.1

pub words_set : (ws : List ℕ) (xs : List Value) (a w : ℕ) (x : Value) → AreWords ws xs → IsWord w x → AreWords (slice_set ws a w) (slice_set xs a x)
words_set [] [] a w x are is = tt
words_set [] (y ∷ ys) a w x are is = absurd are
words_set (u ∷ ws) [] a w x are is = absurd are
words_set (u ∷ ws) (y ∷ ys) zero w x are is = (is, are.1)
words_set (u ∷ ws) (y ∷ ys) (suc a) w x are is = (are.0, words_set ws ys a w x are.1 is)

pub stand_gone : (s : Frame) (f : tagged_frame.Frame) (to : ℕ) → FrameStands s f → FrameStands (gone s to) (tagged.gone f to f.regs)
stand_gone s f to h = record { method = h.method; at = refl; regs = h.regs; result = tt; caught = refl }

pub stand_put : (s : Frame) (f : tagged_frame.Frame) (to a w : ℕ) (x : Value) → FrameStands s f → IsWord w x → FrameStands (put s to a w) (tagged.put f to a x)
stand_put s f to a w x h is = record { method = h.method; at = refl; regs = words_set s.regs f.regs a w x h.regs is; result = tt; caught = refl }

pub stand_put_two : (s : Frame) (f : tagged_frame.Frame) (to a low high : ℕ) → FrameStands s f → FrameStands (put_two s to a low high) (tagged.put_two f to a low high)
stand_put_two s f to a low high h =
    let one = words_set s.regs f.regs a low (v.Lo low) h.regs refl in
    record { method = h.method; at = refl; regs = words_set _ _ (suc a) high (v.Hi high) one refl; result = tt; caught = refl }
