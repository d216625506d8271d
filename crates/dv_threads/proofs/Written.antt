-- Writes of one stack among many.
use Rattle.std.proofs.Common.{◌≡◌, ℕ, zero, suc, ◌<◌, ◌≤◌, List, [], ◌∷◌, length, get_or, refl, ap, arith}
use Rattle.std.specs.Prelude.{slice_set}
use Rattle.dv_words.specs.declared.state.Frame.{Frame}
use Rattle.dv_words.specs.declared.state.Level.{Level}
use Rattle.dv_words.specs.declared.state.Level.TheVariants as level
use Rattle.dv_words.specs.Stacks.{changed, on_top, with_levels}
use Rattle.dv_words.specs.State.{WordStack}
use Rattle.dv_threads.specs.Stacks.{changed_at}

pub written : (ss : List WordStack) (t : ℕ) (d r : WordStack) (g : Frame → Frame) → t < length ss → r ≡ changed g (get_or ss t d) → slice_set ss t r ≡ changed_at ss t g
written [] t d r g within w = absurd (omega arith)
written (x ∷ ss) zero d r g within w = ap (λ y. y ∷ ss) w
written (x ∷ ss) (suc t) d r g within w = ap (λ ys. x ∷ ys) (written ss t d r g (omega arith) w)

pub outside : (ss : List WordStack) (t : ℕ) (g : Frame → Frame) → length ss ≤ t → ss ≡ changed_at ss t g
outside [] t g past = refl
outside (x ∷ ss) zero g past = absurd (omega arith)
outside (x ∷ ss) (suc t) g past = ap (λ ys. x ∷ ys) (outside ss t g (omega arith))

two_in : (g k : Frame → Frame) (ls : List Level) → on_top g (on_top k ls) ≡ on_top (λ f. g (k f)) ls
two_in g k [] = refl
two_in g k (level.Code f ∷ ls) = refl
two_in g k (level.Init c r ∷ ls) = refl

-- one change after another
pub two_changes : (g k : Frame → Frame) (s : WordStack) → changed g (changed k s) ≡ changed (λ f. g (k f)) s
two_changes g k s = ap (with_levels s) (two_in g k s.levels)
