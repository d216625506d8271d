-- What stays shallow through an effect.
use Rattle.std.proofs.Common.{◌≡◌, ◌≢◌, ◌≤◌, ◌<◌, ◌⊎◌, inl, inr, ℕ, zero, suc, Bool, true, false, ◌&&◌, [], ◌∷◌, length, refl, subst, arith}
use Rattle.std.specs.Prelude.{map, slice_set}
use Rattle.std.proofs.lemmas.Bool.{cases_lt, cases_eq, and_parts, ltb-true}
use Rattle.std.proofs.lemmas.List.{get_or-set_same, get_or-set_other, set_past, get_or_past}
use Rattle.dv_defs.specs.declared.names.Ty.{Ty}
use Rattle.dv_defs.specs.Images.{Image}
use Rattle.dv_defs.specs.Pools.{Method, own_type}
use Rattle.dv_defs.specs.Types.{is_array, is_reference, component}
use Rattle.dv_typing.specs.declared.typing.RegType.{RegType}
use Rattle.dv_typing.specs.declared.typing.RegType.TheVariants as ty
use Rattle.dv_typing.specs.declared.typing.PendingType.{PendingType}
use Rattle.dv_typing.specs.declared.typing.PendingType.TheVariants as pend
use Rattle.dv_typing.specs.declared.typing.RegState.{RegState}
use Rattle.dv_typing.specs.RegTypes.{Types, type_at}
use Rattle.dv_typing.specs.Transfer.{broken_lo, broken_hi, break_before, break_after, write_type, write_two, copied_object, object_element, replaced, replaced_this, lost, after_constructor, after_result_long, class_or_conflict}
use Rattle.dv_typing.specs.Demands.{made_at}
use Rattle.law_levels.specs.Levels.{IsShallower, limit}

-- ---- one register

-- a write to it writes what is shallow
module _ (n : ℕ) where
  abbrev At : Types → ℕ → Type 0
  At ts j = IsShallower n (type_at ts j)

  set_by : (ts : Types) (k j : ℕ) (t : RegType) → (j ≡ k → IsShallower n t) → At ts j → (j ≡ k) ⊎ (j ≢ k) → (k < length ts) ⊎ (length ts ≤ k) → At (slice_set ts k t) j
  set_by ts k j t new h (inr d) l = rw (get_or-set_other ts k j t ty.Conflict d) h
  set_by ts k j t new h (inl e) (inl l) = rw (e, get_or-set_same ts k t ty.Conflict l) (new e)
  set_by ts k j t new h (inl e) (inr g) = rw (set_past ts k t g) h

  set_keeps : (ts : Types) (k j : ℕ) (t : RegType) → (j ≡ k → IsShallower n t) → At ts j → At (slice_set ts k t) j
  set_keeps ts k j t new h = set_by ts k j t new h (cases_eq j k) (cases_lt k (length ts))

  set_takes : (ts : Types) (k : ℕ) (t : RegType) → IsShallower n t → (k < length ts) ⊎ (length ts ≤ k) → At (slice_set ts k t) k
  set_takes ts k t h (inl l) = rw (get_or-set_same ts k t ty.Conflict l) h
  set_takes ts k t h (inr g) = rw (set_past ts k t g, get_or_past ts k ty.Conflict g) tt

  lo_keeps : (t : RegType) → IsShallower n t → IsShallower n (broken_lo t)
  lo_keeps ty.LongLo h = tt
  lo_keeps t h = h

  hi_keeps : (t : RegType) → IsShallower n t → IsShallower n (broken_hi t)
  hi_keeps ty.LongHi h = tt
  hi_keeps t h = h

  before_keeps : (ts : Types) (k j : ℕ) → At ts j → At (break_before ts k) j
  before_keeps ts zero j h = h
  before_keeps ts (suc k) j h = set_keeps ts k j (broken_lo (type_at ts k)) (λ e. lo_keeps (type_at ts k) (subst (At ts) e h)) h

  after_keeps : (ts : Types) (k j : ℕ) → At ts j → At (break_after ts k) j
  after_keeps ts k j h = set_keeps ts (suc k) j (broken_hi (type_at ts (suc k))) (λ e. hi_keeps (type_at ts (suc k)) (subst (At ts) e h)) h

  broken_keeps : (ts : Types) (k l j : ℕ) → At ts j → At (break_after (break_before ts k) l) j
  broken_keeps ts k l j h = after_keeps (break_before ts k) l j (before_keeps ts k j h)

  pub write_keeps : (ts : Types) (k j : ℕ) (t : RegType) → j ≢ k → At ts j → At (write_type ts k t) j
  unfolding write_type
  write_keeps ts k j t d h = set_keeps (break_after (break_before ts k) k) k j t (λ e. absurd (d e)) (broken_keeps ts k k j h)

  pub write_takes : (ts : Types) (k : ℕ) (t : RegType) → IsShallower n t → At (write_type ts k t) k
  unfolding write_type
  write_takes ts k t h =
      let broken : Types = break_after (break_before ts k) k in
      set_takes broken k t h (cases_lt k (length broken))

  pub two_keeps : (ts : Types) (k j : ℕ) (lo hi : RegType) → j ≢ k → j ≢ suc k → At ts j → At (write_two ts k lo hi) j
  unfolding write_two
  two_keeps ts k j lo hi d e h =
      let broken : Types = break_after (break_before ts k) (suc k) in
      set_keeps (slice_set broken k lo) (suc k) j hi (λ q. absurd (e q)) (set_keeps broken k j lo (λ q. absurd (d q)) (broken_keeps ts k (suc k) j h))

  pub result_long_keeps : (ts : Types) (k j : ℕ) (p : PendingType) → j ≢ k → j ≢ suc k → At ts j → At (after_result_long ts k p) j
  result_long_keeps ts k j pend.Long d e h = two_keeps ts k j ty.LongLo ty.LongHi d e h
  result_long_keeps ts k j pend.None d e h = two_keeps ts k j ty.Conflict ty.Conflict d e h
  result_long_keeps ts k j (pend.One t) d e h = two_keeps ts k j ty.Conflict ty.Conflict d e h

  -- ---- all registers

  map_keeps : (f : RegType → RegType) → ((t : RegType) → IsShallower n t → IsShallower n (f t)) → (ts : Types) (j : ℕ) → At ts j → At (map f ts) j
  map_keeps f keeps [] j h = tt
  map_keeps f keeps (t ∷ ts) zero h = keeps t h
  map_keeps f keeps (t ∷ ts) (suc j) h = map_keeps f keeps ts j h

  replaced_keeps : (a : ℕ) (by t : RegType) → IsShallower n t → IsShallower n (replaced a by t)
  replaced_keeps a by (ty.Uninit b) h = absurd h
  replaced_keeps a by t h = h

  this_keeps : (by t : RegType) → IsShallower n t → IsShallower n (replaced_this by t)
  this_keeps by ty.UninitThis h = absurd h
  this_keeps by t h = h

  lost_keeps : (t : RegType) → IsShallower n t → IsShallower n (lost t)
  lost_keeps (ty.Uninit b) h = tt
  lost_keeps ty.UninitThis h = tt
  lost_keeps t h = h

  pub new_keeps : (ts : Types) (k j at : ℕ) → j ≢ k → At ts j → At (write_type (map (replaced at ty.Conflict) ts) k (ty.Uninit at)) j
  new_keeps ts k j at d h = write_keeps (map (replaced at ty.Conflict) ts) k j (ty.Uninit at) d (map_keeps (replaced at ty.Conflict) (replaced_keeps at ty.Conflict) ts j h)

  pub construct_keeps : (image : Image) (m : Method) (s : RegState) (t : RegType) (j : ℕ) → At s.regs j → At (after_constructor image m s t).regs j
  construct_keeps image m s (ty.Uninit a) j h =
      let by : RegType = class_or_conflict image (made_at image m a) in
      map_keeps (replaced a by) (replaced_keeps a by) s.regs j h
  construct_keeps image m s ty.UninitThis j h =
      let by : RegType = ty.Class (own_type image m) in
      map_keeps (replaced_this by) (this_keeps by) s.regs j h
  construct_keeps image m s t j h = map_keeps lost lost_keeps s.regs j h

  -- ---- what is copied

  pub object_keeps : (t : RegType) → IsShallower n t → IsShallower n (copied_object t)
  object_keeps ty.Conflict h = tt
  object_keeps (ty.Class c) h = h
  object_keeps t h = absurd h

  element_by : (c : Ty) (b : Bool) → (is_array c && is_reference (component c)) ≡ b → c.dims < suc n → IsShallower n (elim b [ true ↦ ty.Class (component c) | false ↦ ty.Conflict ])
  element_by c false e l = tt
  element_by c true e l =
      let deep : 0 < c.dims = ltb-true 0 c.dims (and_parts (is_array c) (is_reference (component c)) e).0 in
      omega (arith, deep, l)

  element_takes : (t : RegType) → IsShallower (suc n) t → IsShallower n (object_element t)
  element_takes ty.Conflict h = tt
  element_takes (ty.Class c) h = element_by c (is_array c && is_reference (component c)) refl h
  element_takes t h = absurd h

  no_deeper : (t : RegType) → IsShallower n t → IsShallower (suc n) t
  no_deeper ty.Conflict h = tt
  no_deeper (ty.Class c) h = omega (arith, h)
  no_deeper t h = absurd h

  pub element_keeps : (fewer : Bool) (t : RegType) → IsShallower (limit fewer n) t → IsShallower n (object_element t)
  element_keeps true t h = element_takes t (no_deeper t h)
  element_keeps false t h = element_takes t h
