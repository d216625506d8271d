-- Small facts of the definitions, computed.
use Rattle.std.specs.Prelude.{◌≡◌, ℕ, refl, [], ◌∷◌, Option, Some, None, pos, negsuc}
use Rattle.dv_defs.specs.Images.{Image}
use Rattle.dv_defs.specs.declared.machine.Ask.TheVariants as ask
use Rattle.dv_typing.specs.declared.typing.RegType.TheVariants as ty
use Rattle.dv_defs.specs.declared.names.Base.TheVariants as base
use Rattle.dv_defs.specs.Names.{string_name}
use Rattle.dv_defs.specs.Types.{of_class, of_base}
use Rattle.dv_defs.specs.Numbers.{operate32, operate64}
use Rattle.dv_defs.specs.Parts.{Bin}
use Rattle.dv_defs.specs.Op.{Code, code_at}
use Rattle.dv_defs.specs.Common.{array_of}
use Rattle.dv_typing.specs.Joins.{join_type}
use Rattle.dv_typing.specs.Accepting.{Accepts, IsAcceptedMethod}
use Rattle.dv_machine.specs.Heap.{Heap, alloc_array}
use Rattle.dv_machine.specs.Monitors.{Monitors, entered, exited, owner_of}
use Rattle.dv_machine.specs.Classes.{Fresh, InProgress, Ready, Erroneous, ask_of}

accepted_each : (image : Image) (n : ℕ) (code : Code) → Accepts image → code_at image n ≡ Some code → IsAcceptedMethod image code
accepted_each image n code h e = h n code e

-- joins: of Zero and Int, of Zero and a class, of Int and a class
join_of_zero_and_int : (image : Image) → join_type image ty.Zero ty.Int ≡ ty.Int
join_of_zero_and_int image = refl

join_of_zero_and_class : (image : Image) → join_type image ty.Zero (ty.Class (of_class string_name)) ≡ ty.Class (of_class string_name)
join_of_zero_and_class image = refl

join_of_int_and_class : (image : Image) → join_type image ty.Int (ty.Class (of_class string_name)) ≡ ty.Conflict
join_of_int_and_class image = refl

-- 7 / -2, -7 % 2, 1 << 33
divided : operate32 Bin.Div (pos 7) (negsuc 1) ≡ negsuc 2
divided = refl

remaining : operate64 Bin.Rem (negsuc 6) (pos 2) ≡ negsuc 0
remaining = refl

shifted : operate32 Bin.Shl (pos 1) (pos 33) ≡ pos 2
shifted = refl

-- a monitor entered twice and left once is still owned
nobody : Monitors
nobody = record { held = []; waits = [] }

still_owned : owner_of (exited (entered (entered nobody 1 0 1) 1 0 1) 1) 1 ≡ Some 0
unfolding nobody
still_owned = refl

free_again : owner_of (exited (exited (entered (entered nobody 1 0 1) 1 0 1) 1) 1) 1 ≡ None
unfolding nobody
free_again = refl

begins : ask_of (Fresh ∷ InProgress 2 ∷ Ready ∷ Erroneous ∷ []) 0 2 ≡ ask.Begin
begins = refl

goes_on : ask_of (Fresh ∷ InProgress 2 ∷ Ready ∷ Erroneous ∷ []) 1 2 ≡ ask.Go
goes_on = refl

waits : ask_of (Fresh ∷ InProgress 2 ∷ Ready ∷ Erroneous ∷ []) 1 3 ≡ ask.Wait 2
waits = refl

throws : ask_of (Fresh ∷ InProgress 2 ∷ Ready ∷ Erroneous ∷ []) 3 3 ≡ ask.Bad
throws = refl

-- a heap of 64 words: an array of 62 ints, and nothing more
empty_heap : Heap
empty_heap = record { kinds = []; cells = []; statics = []; interned = []; class_objects = []; used = 0; limit = Some 64 }

used_up : Option Heap → Option ℕ
used_up None = None
used_up (Some h) = Some h.used

array_fits : used_up (alloc_array empty_heap (array_of (of_base base.I)) 62) ≡ Some 64
unfolding used_up empty_heap
array_fits = refl

array_does_not : used_up (alloc_array empty_heap (array_of (of_base base.I)) 63) ≡ None
unfolding used_up empty_heap
array_does_not = refl
