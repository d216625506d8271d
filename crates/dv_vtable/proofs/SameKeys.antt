-- Keys that are alike are equal.
use Rattle.std.proofs.Common.{◌≡◌, Bool, true, false, List, [], ◌∷◌, Option, Some, None, refl, sym, ap, ◌∙◌, ◌&&◌}
use Rattle.std.specs.Prelude.{nat_eq, bytes_eq}
use Rattle.std.specs.Cmp.{IsEquivalence}
use Rattle.std.proofs.lemmas.Bool.{eqb-true, and_parts}
use Rattle.std.proofs.lemmas.Slice.Eq.{bytes_eq-Decides}
use Rattle.dv_defs.specs.declared.names.Base.{Base}
use Rattle.dv_defs.specs.declared.names.Base.TheVariants as base
use Rattle.dv_defs.specs.declared.names.Ty.{Ty}
use Rattle.dv_defs.specs.declared.names.Proto.{Proto}
use Rattle.dv_defs.specs.Types.{base_eq, ty_eq, same_types, same_result, same_proto}
use Rattle.dv_vtable.specs.Chains.{Key, same_key}
use Rattle.dv_vtable.proofs.KeyLemmas.{bytes_same, proto_same}

base_is : (a b : Base) → base_eq a b ≡ true → a ≡ b
base_is base.Z base.Z e = refl
base_is base.B base.B e = refl
base_is base.C base.C e = refl
base_is base.S base.S e = refl
base_is base.I base.I e = refl
base_is base.J base.J e = refl
base_is (base.Class x) (base.Class y) e = ap base.Class ((bytes_eq-Decides x y).0 e)
base_is a b e = absurd (cc)

type_is : (a b : Ty) → ty_eq a b ≡ true → a ≡ b
type_is a b e =
    let parts = and_parts (nat_eq a.dims b.dims) (base_eq a.base b.base) e in
    let dims = eqb-true a.dims b.dims parts.0 in
    let bases = base_is a.base b.base parts.1 in
    λ j. record { dims = dims j; base = bases j }

types_are : (ts us : List Ty) → same_types ts us ≡ true → ts ≡ us
types_are [] [] e = refl
types_are (t ∷ ts) (u ∷ us) e =
    let parts = and_parts (ty_eq t u) (same_types ts us) e in
    λ j. type_is t u parts.0 j ∷ types_are ts us parts.1 j
types_are ts us e = absurd (cc)

result_is : (s t : Option Ty) → same_result s t ≡ true → s ≡ t
result_is None None e = refl
result_is (Some s) (Some t) e = ap Some (type_is s t e)
result_is s t e = absurd (cc)

proto_is : (p q : Proto) → same_proto p q ≡ true → p ≡ q
proto_is p q e =
    let parts = and_parts (same_types p.params q.params) (same_result p.ret q.ret) e in
    let params = types_are p.params q.params parts.0 in
    let ret = result_is p.ret q.ret parts.1 in
    λ j. record { params = params j; ret = ret j }

pub key_is : (k q : Key) → same_key k q ≡ true → k ≡ q
key_is k q e =
    let parts = and_parts (bytes_eq q.name k.name) (same_proto q.proto k.proto) e in
    let name = sym ((bytes_eq-Decides q.name k.name).0 parts.0) in
    let proto = sym (proto_is q.proto k.proto parts.1) in
    λ j. record { name = name j; proto = proto j }

key_same : (k : Key) → same_key k k ≡ true
key_same k = λ j. bytes_same k.name j && proto_same k.proto j

decided : (a b : Bool) → (a ≡ true → b ≡ true) → (b ≡ true → a ≡ true) → a ≡ b
decided true b there back = sym (there refl)
decided false true there back = back refl
decided false false there back = refl

back : (k q : Key) → same_key k q ≡ true → same_key q k ≡ true
back k q e = let is = key_is k q e in (λ j. same_key (sym is j) k) ∙ key_same k

pub key_laws : IsEquivalence same_key
key_laws = record {
  refl = key_same;
  symm = λ k q. decided (same_key k q) (same_key q k) (back k q) (back q k);
  congr = λ k q z e. (let is = key_is k q e in λ j. same_key (is j) z);
}
