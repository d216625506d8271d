-- The classes of the objects that a method's instructions make.
use Rattle.std.specs.Prelude.{◌≡◌, ℕ, List, true, Option, Some, None, IfSome, slice_get, option_map}
use Rattle.dv_defs.specs.Op.{Code}
use Rattle.dv_defs.specs.Pools.{own_type}
use Rattle.dv_defs.specs.Tiling.{begins_insn}
use Rattle.dv_typing.specs.declared.typing.RegType.TheVariants as ty
use Rattle.dv_typing.specs.Statics.{At, fetch}
use Rattle.dv_typing.specs.Demands.{made_at}
use Rattle.dv_bases.specs.Bases.{Names, word_type, IsWord}
use Rattle.dv_bases.specs.declared.states.Words.{Words}
use Rattle.dv_bases.specs.States.{AreWords, state_of}
use Rattle.law_flow.specs.Fitting.{StateFits}
use Rattle.dv_effects.specs.declared.effects.Step.{Step}
use Rattle.dv_effects.specs.Effects.{IsStep, object_type}
use Rattle.dv_effects.specs.Said.{Says}

-- the word of the class that a step makes objects of
abbrev pub makes_in : Option (Option Step) → Option ℕ
makes_in (Some (Some step)) = step.makes
makes_in step = None

-- the same of the step at an address
abbrev pub makes_at : List (Option Step) → ℕ → Option ℕ
makes_at steps a = makes_in (slice_get steps a)

-- a step tells what the instruction at its address makes
pub record IsMade (names : Names) (code : Code) (steps : List (Option Step)) (a : ℕ) : Type 0 where
  pub told : option_map (word_type names) (makes_at steps a) ≡ option_map (object_type names.image) (made_at names.image code.method a)
  pub word : IfSome (makes_at steps a) (IsWord names)

-- the steps tell what each instruction of a method makes
abbrev pub AreMade : Names → Code → List (Option Step) → Type 0
AreMade names code steps = (a : ℕ) → begins_insn code.tiles a ≡ true → IsMade names code steps a

-- a word says the method's own class
abbrev pub IsOwn : Names → Code → ℕ → Type 0
IsOwn names code own = Says names own (ty.Class (own_type names.image code.method))

-- the words of the classes that constructors make objects of: the method's own, and those that its instructions make
pub record HasClasses (names : Names) (code : Code) (own : ℕ) (steps : List (Option Step)) : Type 0 where
  pub own_class : IsOwn names code own
  pub made : AreMade names code steps

-- words of a state that may stand at an instruction
pub record AreFit (names : Names) (code : Code) (words : Words) : Type 0 where
  pub are_words : AreWords names words
  pub fits : StateFits names.image code (state_of names words)

-- an instruction's step stands at its address
pub record HasStep (names : Names) (code : Code) (steps : List (Option Step)) (a : ℕ) : Type 0 where
  pub insn : At
  pub fetched : fetch names.image code.method.id a ≡ Some insn
  pub step : Step
  pub there : slice_get steps a ≡ Some (Some step)
  pub is_step : IsStep names code a insn.op step

-- each instruction of a method has its step
abbrev pub AreSteps : Names → Code → List (Option Step) → Type 0
AreSteps names code steps = (a : ℕ) → begins_insn code.tiles a ≡ true → HasStep names code steps a
