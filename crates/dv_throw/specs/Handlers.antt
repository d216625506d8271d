-- The type that a handler catches.
use Rattle.std.specs.Prelude.{ℕ, Option, Some, None, slice_get}
use Rattle.dv_defs.specs.declared.code.Body.{Body}
use Rattle.dv_defs.specs.declared.code.Handler.{Handler}
use Rattle.dv_defs.specs.declared.names.Ty.{Ty}

abbrev pub type_of_kind : Body → Option ℕ → Option Ty
type_of_kind b None = None
type_of_kind b (Some k) = slice_get b.types k

-- none where it catches all
abbrev pub type_caught : Body → Handler → Option Ty
type_caught b h = type_of_kind b h.kind
