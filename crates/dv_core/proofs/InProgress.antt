-- The class of a record on a thread's stack is in progress by that thread.
use Rattle.std.proofs.Common.{◌≡◌, ℕ, ◌+◌, Bool, true, false, List, [], ◌∷◌, Some, refl, sym, ap, ◌∙◌, arith}
use Rattle.std.specs.Prelude.{nat_eq, slice_get, if◌then◌else◌}
use Rattle.std.proofs.lemmas.Bool.{eq-eqb, eqb-true}
use Rattle.dv_machine.specs.Level as tagged_level
use Rattle.dv_defs.specs.declared.names.ClassId.{ClassId}
use Rattle.dv_machine.specs.Classes.{ClassState, InProgress, state_at}
use Rattle.dv_defs.specs.Images.{Image}
use Rattle.dv_machine.specs.State.{Machine, Thread}
use Rattle.dv_machine.specs.WellTyped.{Typings, WellTyped, levels_in, owed, records}
use Rattle.dv_words.specs.declared.state.Level.{Level}
use Rattle.dv_words.specs.declared.state.Level.TheVariants as level
use Rattle.dv_words.specs.Standing.{LevelsStand}

owing : (t : ℕ) (s : ClassState) (k : ℕ) → 1 + k ≡ owed t s → s ≡ InProgress t
owing t (InProgress u) k is = by (nat_eq u t) refl is
  where
    by : (b : Bool) → nat_eq u t ≡ b → 1 + k ≡ (if b then 1 else 0) → InProgress u ≡ InProgress t
    by true same is = ap InProgress (eqb-true u t same)
    by false same is = absurd (omega (arith, is))
owing t s k is = absurd (omega (arith, is))

-- a record of the class on top is counted
counted : (c d : ClassId) (r : Bool) (ls : List tagged_level.Level) → c ≡ d → 1 + records c.0 ls ≡ records c.0 (tagged_level.Init d r ∷ ls)
counted c d r ls same =
    sym (ap (λ (b : Bool). (if b then 1 else 0) + records c.0 ls) (eq-eqb c.0 d.0 (ap (λ (x : ClassId). x.0) same)))

pub in_progress : (image : Image) (T : Typings) (m : Machine) (t : ℕ) (th : Thread) (c : ClassId) (r : Bool) (ss : List Level) → WellTyped image T m → slice_get m.threads t ≡ Some th → LevelsStand (level.Init c r ∷ ss) th.levels → state_at m.shared.classes c.0 ≡ InProgress t
in_progress image T m t th c r ss typed has all = by th.levels refl all
  where
    by : (ls : List tagged_level.Level) → th.levels ≡ ls → LevelsStand (level.Init c r ∷ ss) ls → state_at m.shared.classes c.0 ≡ InProgress t
    by [] is all = absurd all
    by (tagged_level.Code f ∷ ls) is all = absurd all.0
    by (tagged_level.Init d q ∷ ls) is all =
        let same : records c.0 (tagged_level.Init d q ∷ ls) ≡ records c.0 (levels_in (slice_get m.threads t)) = sym (ap (records c.0) (ap levels_in has ∙ is)) in
        owing t (state_at m.shared.classes c.0) (records c.0 ls) (counted c d q ls all.0.0 ∙ same ∙ typed.in_progress t c.0)
