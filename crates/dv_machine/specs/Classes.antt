-- The states of classes as a value, with what each call makes of them (JLS 12.4.2).
use Rattle.std.specs.Prelude.{ℕ, true, false, List, slice_set, slice_index_or, nat_eq}
use Rattle.dv_defs.specs.declared.machine.Ask.{Ask}
use Rattle.dv_defs.specs.declared.machine.Ask.TheVariants as ask

-- not yet initialised, being initialised by a thread, initialised, or erroneous
pub data ClassState : Type 0 where
  Fresh : ClassState
  InProgress : (thread : ℕ) → ClassState
  Ready : ClassState
  Erroneous : ClassState

-- by class
abbrev pub Classes : Type 0
Classes = List ClassState

abbrev pub state_at : Classes → ℕ → ClassState
state_at cs c = slice_index_or cs c Fresh

abbrev pub asked : ℕ → ClassState → Ask
asked t Fresh = ask.Begin
asked t (InProgress u) = elim (nat_eq u t) [ true ↦ ask.Go | false ↦ ask.Wait u ]
asked t Ready = ask.Go
asked t Erroneous = ask.Bad

-- what a thread that needs the class does
abbrev pub ask_of : Classes → ℕ → ℕ → Ask
ask_of cs c t = asked t (state_at cs c)

abbrev pub with_state : Classes → ℕ → ClassState → Classes
with_state cs c s = slice_set cs c s
