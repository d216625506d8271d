-- The object that a constructor call is to initialise.
use Rattle.std.specs.Prelude.{ℕ, true, false, Option, Some, None, option_and_then}
use Rattle.dv_defs.specs.Images.{Image}
use Rattle.dv_typing.specs.declared.typing.RegType.{RegType}
use Rattle.dv_typing.specs.declared.typing.RegType.TheVariants as ty
use Rattle.dv_defs.specs.Pools.{Method, is_constructor}
use Rattle.dv_defs.specs.Op.{Op, Invoke}
use Rattle.dv_typing.specs.RegTypes.{Types, type_at}
use Rattle.dv_typing.specs.Demands.{made_at}
use Rattle.dv_typing.specs.Transfer.{first_of}

abbrev pub place_of : RegType → Option ℕ
place_of (ty.Uninit a) = Some a
place_of t = None

-- where the new-instance stands whose object is the receiver of a constructor call
abbrev pub receiver_place : Op → Types → Option ℕ
receiver_place (Invoke c ks m) ts = elim (is_constructor m) [ true ↦ place_of (type_at ts (first_of ks)) | false ↦ None ]
receiver_place op ts = None

-- the class that it makes
abbrev pub made_for : Image → Method → Op → Types → Option ℕ
made_for image m op ts = option_and_then (made_at image m) (receiver_place op ts)
