-- What a body is seen as, and what each body keeps.
use Rattle.std.specs.Prelude.{ℕ, ◌≤◌, ◌<◌, List, length, All, IfSome, Bool}
use Rattle.dv_defs.specs.declared.code.Try.{Try}
use Rattle.dv_defs.specs.declared.code.Handler.{Handler}
use Rattle.dv_defs.specs.declared.names.Ty.{Ty}
use Rattle.dv_defs.specs.declared.names.FieldRef.{FieldRef}
use Rattle.dv_defs.specs.declared.names.MethodRef.{MethodRef}

pub record BodyValue : Type 0 where
  pub registers : ℕ
  pub units : List ℕ
  pub tries : List Try
  pub strings : List (List ℕ)
  pub types : List Ty
  pub fields : List FieldRef
  pub methods : List MethodRef
  pub raw : Bool

-- a handler's kind, where it has one, is a place in a pool of so many types
abbrev pub KindIn : ℕ → Handler → Type 0
KindIn count h = IfSome h.kind (λ k. k < count)

abbrev pub KindsIn : ℕ → List Try → Type 0
KindsIn count tries = All (λ t. All (KindIn count) t.handlers) tries

-- the most units of a method
abbrev pub most_units : ℕ
most_units = 16384

pub record IsBody (registers : ℕ) (units : List ℕ) (tries : List Try) (types : List Ty) : Type 0 where
  pub few_registers : registers ≤ 256
  pub short : length units ≤ most_units
  pub kinds : KindsIn (length types) tries
