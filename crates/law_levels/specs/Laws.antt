-- The laws of shallow registers, as statements.
use Rattle.std.specs.Prelude.{◌≡◌, ◌+◌, ◌-◌, ℕ, Bool, true, false, Some, filter, nat_lt, slice_get}
use Rattle.dv_defs.specs.Images.{Image}
use Rattle.dv_defs.specs.Op.{Code}
use Rattle.dv_defs.specs.Tiling.{begins_insn}
use Rattle.dv_typing.specs.Statics.{At, fetch}
use Rattle.dv_typing.specs.Flow.{Catcher, targets}
use Rattle.law_gather.specs.Gathered.{addresses, covering_entry, catchers_of}
use Rattle.law_levels.specs.Levels.{IsBounded, HasNoClass, Carries}

-- a register is no deeper than itself
abbrev pub BoundsBegin : Type 0
BoundsBegin = (image : Image) (code : Code) (first register : ℕ) → IsBounded image code first register first register false

-- one that is shallower than itself holds no class
abbrev pub BoundsEnd : Type 0
BoundsEnd = (image : Image) (code : Code) (first register : ℕ) → IsBounded image code first register first register true → HasNoClass image code first register

-- bounds go on from an instruction to where it leads, as it carries them
abbrev pub BoundsGoOn : Type 0
BoundsGoOn =
    (image : Image) (code : Code) (first register at r : ℕ) (fewer : Bool) → IsBounded image code first register at r fewer → nat_lt at (addresses code) ≡ true →
    (x : At) → fetch image code.method.id at ≡ Some x → (o : ℕ) (less : Bool) → Carries image code at x.op r fewer o less →
    (k to : ℕ) → slice_get (filter (begins_insn code.tiles) (targets x)) k ≡ Some to → IsBounded image code first register to o less

-- and as they are to the try entry that covers it
abbrev pub BoundsAreHanded : Type 0
BoundsAreHanded =
    (image : Image) (code : Code) (first register at r : ℕ) (fewer : Bool) → IsBounded image code first register at r fewer → nat_lt at (addresses code) ≡ true →
    (x : At) → fetch image code.method.id at ≡ Some x → (entry : ℕ) → covering_entry code at x ≡ Some entry → IsBounded image code first register (addresses code + entry) r fewer

-- and from there to its handlers
abbrev pub BoundsAreCaught : Type 0
BoundsAreCaught =
    (image : Image) (code : Code) (first register place r : ℕ) (fewer : Bool) → IsBounded image code first register place r fewer → nat_lt place (addresses code) ≡ false →
    (k : ℕ) (h : Catcher) → slice_get (catchers_of code.body (slice_get code.body.tries (place - addresses code))) k ≡ Some h → IsBounded image code first register h.to r fewer
