-- `==` finds two entries equal where the definitions find them the same.
use Rattle.std.proofs.Common.{◌≡◌, Bool, ◌&&◌, List, [], ◌∷◌, Option, Some, None, refl, ap, arith}
use Rattle.std.specs.Prelude.{nat_eq, bytes_eq}
use Rattle.std.specs.List.{position_or_len}
use Rattle.std.specs.Option.{option_eq}
use Rattle.std.specs.Cmp.Lexicographic.{pointwise}
use Rattle.dv_defs.specs.declared.names.Base.{Base}
use Rattle.dv_defs.specs.declared.names.Ty.{Ty}
use Rattle.dv_defs.specs.declared.names.Proto.{Proto}
use Rattle.dv_defs.specs.declared.names.FieldRef.{FieldRef}
use Rattle.dv_defs.specs.declared.names.MethodRef.{MethodRef}
use Rattle.dv_defs.specs.contracts.names.BasePartialEq.TheImpl as of_base
use Rattle.dv_defs.specs.contracts.names.TyPartialEq.TheImpl as of_type
use Rattle.dv_defs.specs.contracts.names.ProtoPartialEq.TheImpl as of_proto
use Rattle.dv_defs.specs.contracts.names.FieldRefPartialEq.TheImpl as of_field
use Rattle.dv_defs.specs.contracts.names.MethodRefPartialEq.TheImpl as of_method
use Rattle.dv_defs.specs.Types.{ty_eq, base_eq, same_types, same_result, same_proto, field_eq, method_eq}

bases : (a b : Base) → (of_base.ghosts).eq a b ≡ base_eq a b
bases a b = grind arith

types : (a b : Ty) → (of_type.ghosts).eq a b ≡ ty_eq a b
types a b = ap (λ (same : Bool). nat_eq a.dims b.dims && same) (bases a.base b.base)

lists : (ts us : List Ty) → pointwise (of_type.ghosts).eq ts us ≡ same_types ts us
lists [] [] = refl
lists [] (u ∷ us) = refl
lists (t ∷ ts) [] = refl
lists (t ∷ ts) (u ∷ us) = λ i. types t u i && lists ts us i

results : (t u : Option Ty) → option_eq (of_type.ghosts).eq t u ≡ same_result t u
results None None = refl
results None (Some u) = refl
results (Some t) None = refl
results (Some t) (Some u) = types t u

pub protos : (p q : Proto) → (of_proto.ghosts).eq p q ≡ same_proto p q
protos p q = λ i. lists p.params q.params i && results p.ret q.ret i

fields : (a b : FieldRef) → (of_field.ghosts).eq a b ≡ field_eq a b
fields a b = λ i. types a.class b.class i && (bytes_eq a.name b.name && types a.ty b.ty i)

methods : (a b : MethodRef) → (of_method.ghosts).eq a b ≡ method_eq a b
methods a b = λ i. types a.class b.class i && (bytes_eq a.name b.name && protos a.proto b.proto i)

-- what `==` tells of two entries; of strings it computes to `bytes_eq`
pub type_keys : (of_type.ghosts).eq ≡ ty_eq
type_keys = λ i a b. types a b i

pub field_keys : (of_field.ghosts).eq ≡ field_eq
field_keys = λ i a b. fields a b i

pub method_keys : (of_method.ghosts).eq ≡ method_eq
method_keys = λ i a b. methods a b i

-- the place of an entry, for `grind`
pub type_place : (t : Ty) (ts : List Ty) → position_or_len ((of_type.ghosts).eq t) ts ≡ position_or_len (ty_eq t) ts
type_place t ts = λ i. position_or_len (type_keys i t) ts

pub field_place : (a : FieldRef) (pool : List FieldRef) → position_or_len ((of_field.ghosts).eq a) pool ≡ position_or_len (field_eq a) pool
field_place a pool = λ i. position_or_len (field_keys i a) pool

pub method_place : (a : MethodRef) (pool : List MethodRef) → position_or_len ((of_method.ghosts).eq a) pool ≡ position_or_len (method_eq a) pool
method_place a pool = λ i. position_or_len (method_keys i a) pool

pub ruleset places = (type_place, field_place, method_place)
