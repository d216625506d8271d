-- The grammar of types and prototypes, byte by byte, and why a text isn't of it.
use Rattle.std.specs.Prelude.{◌≡◌, ℕ, suc, Bool, true, false, ◌||◌, List, [], ◌∷◌, Option, Some, None, is_some, Result, Ok, Err, nat_lt, ◌==◌, if◌then◌else◌, codes}
use Rattle.std.specs.Option.{option_and_then, option_map_or}
use Rattle.dv_defs.specs.declared.names.Base.{Base}
use Rattle.dv_defs.specs.declared.names.Base.TheVariants as base
use Rattle.dv_names.specs.declared.error.NameError.{NameError}
use Rattle.dv_names.specs.declared.error.NameError.TheVariants as error
use Rattle.dv_names.specs.Descriptors.{is_name_byte}

-- where a type stands
pub data Position : Type 0 where
  Alone : Position
  Parameter : Position
  Returned : Position

-- what has been read of a name of a class's descriptor
pub data Part : Type 0 where
  -- nothing
  Before : Part
  -- bytes of a plain name
  Within : Part
  -- `<`
  Angle : Part
  -- a front of `<init>` or `<clinit>`, of which these bytes are still to come
  Special : List ℕ → Part

-- what has been read, and so what may come
pub data Mode : Type 0 where
  -- nothing of a prototype
  Open : Mode
  -- whole parameters: one more, or their end
  Parameters : Mode
  -- all parameters: a type, or V
  Return : Mode
  -- so many brackets of a type
  Array : Position → ℕ → Mode
  -- a part of a class's descriptor, which ends with this part of a name
  Name : Position → Part → Mode
  -- everything
  Whole : Mode

abbrev pub mode_behind : Position → Mode
mode_behind Alone = Whole
mode_behind Parameter = Parameters
mode_behind Returned = Whole

abbrev pub primitive_of : ℕ → Option Base
primitive_of b =
    if b == 90 then Some base.Z
    else if b == 66 then Some base.B
    else if b == 67 then Some base.C
    else if b == 83 then Some base.S
    else if b == 73 then Some base.I
    else if b == 74 then Some base.J
    else None

-- F or D
abbrev pub is_float_letter : ℕ → Bool
is_float_letter b = (b == 70) || (b == 68)

abbrev pub step_type : Position → ℕ → ℕ → Option Mode
step_type p n b =
    if b == 91 then (if nat_lt n 255 then Some (Array p (suc n)) else None)
    else if is_some (primitive_of b) then Some (mode_behind p)
    else if b == 76 then Some (Name p Before)
    else None

-- behind a whole name
abbrev pub step_behind : Position → ℕ → Option Mode
step_behind p b =
    if b == 47 then Some (Name p Before)
    else if b == 59 then Some (mode_behind p)
    else None

abbrev pub step_name : Position → Part → ℕ → Option Mode
step_name p Before b =
    if is_name_byte b then Some (Name p Within)
    else if b == 60 then Some (Name p Angle)
    else None
step_name p Within b = if is_name_byte b then Some (Name p Within) else step_behind p b
step_name p Angle b =
    if b == 105 then Some (Name p (Special (codes "nit>")))
    else if b == 99 then Some (Name p (Special (codes "linit>")))
    else None
step_name p (Special []) b = step_behind p b
step_name p (Special (c ∷ rest)) b = if b == c then Some (Name p (Special rest)) else None

-- what a byte makes of what has been read, unless nothing goes on so
abbrev pub step : Mode → ℕ → Option Mode
step Open b = if b == 40 then Some Parameters else None
step Parameters b = if b == 41 then Some Return else step_type Parameter 0 b
step Return b = if b == 86 then Some Whole else step_type Returned 0 b
step (Array p n) b = step_type p n b
step (Name p part) b = step_name p part b
step Whole b = None

-- what bytes make of it
abbrev pub after : Mode → List ℕ → Option Mode
after m [] = Some m
after m (b ∷ bs) = option_and_then (λ n. after n bs) (step m b)

-- whether a primitive type could come
abbrev pub takes_type : Mode → Bool
takes_type Open = false
takes_type Parameters = true
takes_type Return = true
takes_type (Array p n) = true
takes_type (Name p part) = false
takes_type Whole = false

-- the text ends at this place
abbrev pub refused_end : Mode → ℕ → Option NameError
refused_end Whole at = None
refused_end m at = Some (error.BadDescriptor at)

-- the byte at this place is no type's, where a primitive type could come
abbrev pub no_type : ℕ → ℕ → NameError
no_type b at = if is_float_letter b then error.FloatType at else error.BadDescriptor at

-- the byte at this place fits nothing
abbrev pub refused_byte : Mode → ℕ → ℕ → NameError
refused_byte m b at = if takes_type m then no_type b at else error.BadDescriptor at

-- the first fault of what comes from this place on, if it has one
unfoldable pub refusal : Mode → ℕ → List ℕ → Option NameError
refusal m at [] = refused_end m at
refusal m at (b ∷ bs) = option_map_or (λ n. refusal n (suc at) bs) (step m b) (Some (refused_byte m b at))

abbrev pub type_refusal : List ℕ → Option NameError
type_refusal text = refusal (Array Alone 0) 0 text

abbrev pub proto_refusal : List ℕ → Option NameError
proto_refusal text = refusal Open 0 text

-- An answer is Ok where nothing is refused, and else that refusal, unless memory ran out.
abbrev pub Refuses : NameError → Option NameError → Type 0
Refuses error.Memory found = Unit {0}
Refuses e found = found ≡ Some e

abbrev pub Judges : {X : Type 0} → Result X NameError → Option NameError → Type 0
Judges (Ok x) found = found ≡ None
Judges (Err e) found = Refuses e found

-- the answer is x, unless memory ran out
abbrev pub Finds : {X : Type 0} → X → Result X NameError → Type 0
Finds x (Ok y) = y ≡ x
Finds x (Err e) = e ≡ error.Memory
