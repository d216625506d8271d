-- What operations change of a state: the types of registers, the pending result and whether `this` is pending.
use Rattle.std.specs.Prelude.{ℕ, Bool, true, false, List, map, Option, Some, None, option_map}
use Rattle.dv_defs.specs.Images.{Image}
use Rattle.dv_defs.specs.declared.names.ClassId.{ClassId}
use Rattle.dv_typing.specs.declared.typing.RegType.{RegType}
use Rattle.dv_typing.specs.declared.typing.RegType.TheVariants as ty
use Rattle.dv_typing.specs.declared.typing.PendingType.{PendingType}
use Rattle.dv_typing.specs.declared.typing.PendingType.TheVariants as pend
use Rattle.dv_typing.specs.declared.typing.RegState.{RegState}
use Rattle.dv_defs.specs.Pools.{Method, class_type, is_constructor}
use Rattle.dv_defs.specs.Op.{Op, Filled, Invoke}
use Rattle.dv_typing.specs.RegTypes.{Types, type_at}
use Rattle.dv_typing.specs.Transfer.{write_type, write_two, replaced, replaced_this, lost, class_or_conflict, pending_of, first_of}
use Rattle.dv_rules.specs.declared.changes.Change.{Change}
use Rattle.dv_rules.specs.declared.changes.Change.TheVariants as change

-- the number of a class, where there is one
abbrev pub number : Option ClassId → Option ℕ
number c = option_map (λ c. c.0) c

-- what becomes of each register's type
abbrev pub renewed : Image → Change → RegType → RegType
renewed image (change.New k at) t = replaced at ty.Conflict t
renewed image (change.Made at c) t = replaced at (class_or_conflict image (number c)) t
renewed image (change.This c) t = replaced_this (ty.Class (class_type image c.0)) t
renewed image change.Lost t = lost t
renewed image c t = t

-- and what is written then
abbrev pub written : Change → Types → Types
written (change.One k t) ts = write_type ts k t
written (change.Two k lo hi) ts = write_two ts k lo hi
written (change.New k at) ts = write_type ts k (ty.Uninit at)
written c ts = ts

-- the registers after a change
abbrev pub changed : Image → Change → Types → Types
changed image (change.One k t) ts = write_type ts k t
changed image (change.Two k lo hi) ts = write_two ts k lo hi
changed image (change.New k at) ts = write_type (map (replaced at ty.Conflict) ts) k (ty.Uninit at)
changed image (change.Made at c) ts = map (replaced at (class_or_conflict image (number c))) ts
changed image (change.This c) ts = map (replaced_this (ty.Class (class_type image c.0))) ts
changed image change.Lost ts = map lost ts
changed image change.Nothing ts = ts

-- the type of the receiver of a constructor call
abbrev pub receiver_in : Types → List ℕ → Method → Option RegType
receiver_in ts ks g = elim (is_constructor g) [ true ↦ Some (type_at ts (first_of ks)) | false ↦ None ]

-- what a call changes
abbrev pub call_change : Method → Option ClassId → Option RegType → Change
call_change m made None = change.Nothing
call_change m made (Some (ty.Uninit at)) = change.Made at made
call_change m made (Some ty.UninitThis) = change.This m.info.class
call_change m made (Some t) = change.Lost

-- the pending result after an operation
abbrev pub pending_after : Op → PendingType
pending_after (Filled rs t) = pend.One (ty.Class t)
pending_after (Invoke c ks g) = pending_of g.def.proto.ret
pending_after op = pend.None

-- `this` is pending until it is the receiver of a constructor call
abbrev pub pending_with : Option RegType → Bool → Bool
pending_with (Some ty.UninitThis) b = false
pending_with r b = b

-- and whether `this` is pending
abbrev pub this_after : Op → RegState → Bool
this_after (Invoke c ks g) s = pending_with (receiver_in s.regs ks g) s.this_pending
this_after op s = s.this_pending
