-- What is read of a stack is read of the frame on top, and what changes is that frame.
use Rattle.std.proofs.Common.{◌≡◌, List, ◌∷◌, [], refl, ap}
use Rattle.dv_words.specs.declared.state.Frame.{Frame}
use Rattle.dv_words.specs.declared.state.Level.{Level}
use Rattle.dv_words.specs.declared.state.Level.TheVariants as level
use Rattle.dv_words.specs.Stacks.{changed, on_top, top_regs, with_levels}
use Rattle.dv_words.specs.State.{WordStack}
use Rattle.dv_mem.specs.Tops.{frame_in, top_frame}

registers_in : (ls : List Level) → top_regs ls ≡ (frame_in ls).regs
registers_in [] = refl
registers_in (level.Code f ∷ ls) = refl
registers_in (level.Init c r ∷ ls) = refl

pub top_registers : (s : WordStack) → top_regs s.levels ≡ (top_frame s).regs
top_registers s = registers_in s.levels

module _ (g : Frame → Frame) where
  one_in : (ls : List Level) → on_top g ls ≡ on_top (λ f. g (frame_in ls)) ls
  one_in [] = refl
  one_in (level.Code f ∷ ls) = refl
  one_in (level.Init c r ∷ ls) = refl

  -- one change
  pub one_change : (s : WordStack) → changed g s ≡ changed (λ f. g (top_frame s)) s
  one_change s = ap (with_levels s) (one_in s.levels)

  module _ (h : Frame → Frame) where
    two_in : (ls : List Level) → on_top g (on_top h ls) ≡ on_top (λ f. g (h (frame_in ls))) ls
    two_in [] = refl
    two_in (level.Code f ∷ ls) = refl
    two_in (level.Init c r ∷ ls) = refl

    -- one after another
    pub two_changes : (s : WordStack) → changed g (changed h s) ≡ changed (λ f. g (h (top_frame s))) s
    two_changes s = ap (with_levels s) (two_in s.levels)

    module _ (k : Frame → Frame) where
      three_in : (ls : List Level) → on_top g (on_top h (on_top k ls)) ≡ on_top (λ f. g (h (k (frame_in ls)))) ls
      three_in [] = refl
      three_in (level.Code f ∷ ls) = refl
      three_in (level.Init c r ∷ ls) = refl

      pub three_changes : (s : WordStack) → changed g (changed h (changed k s)) ≡ changed (λ f. g (h (k (top_frame s)))) s
      three_changes s = ap (with_levels s) (three_in s.levels)
