-- Keys of methods.
use Rattle.std.proofs.Common.{◌≡◌, ◌+◌, ◌<◌, ℕ, Bool, true, false, cond, ◌&&◌, ◌||◌, bytes_eq, List, [], ◌∷◌, ◌++◌, length, take, get_or, Option, Some, None, refl, sym, ap, ◌∙◌, arith}
use Rattle.std.specs.Prelude.{nat_eq}
use Rattle.std.specs.Ordering.{is_eq}
use Rattle.std.specs.List.{list_any}
use Rattle.std.proofs.lemmas.List.{take_more}
use Rattle.std.proofs.lemmas.List.Folds.{list_any-append}
use Rattle.std.proofs.lemmas.Slice.Eq.{bytes_eq-Decides}
use Rattle.dv_defs.specs.declared.class.MethodDef.{MethodDef}
use Rattle.dv_defs.specs.declared.names.Base.{Base}
use Rattle.dv_defs.specs.declared.names.Base.TheVariants as base
use Rattle.dv_defs.specs.declared.names.Ty.{Ty}
use Rattle.dv_defs.specs.declared.names.Proto.{Proto}
use Rattle.dv_defs.specs.Types.{ty_eq, base_eq, same_types, same_result, same_proto}
use Rattle.dv_defs.specs.LinkFaults.{same_method}
use Rattle.dv_defs.proofs.Keys.{protos}
use Rattle.dv_vtable.specs.declared.keys.MethodKey.{MethodKey}
use Rattle.dv_vtable.specs.contracts.keys.MethodKeyOrd.TheImpl.Laws as of_order
use Rattle.dv_vtable.specs.Keys.{key_eq, key_cmp}

-- keys are equal where neither comes before the other
pub equal_by_order : (k q : MethodKey) → key_eq k q ≡ is_eq (key_cmp k q)
equal_by_order = of_order.matches_eq-law

-- a method has the name and the prototype of a key
abbrev pub is_like : MethodKey → MethodDef → Bool
is_like k m = bytes_eq m.name k.name.now && same_proto m.proto k.proto.now

-- ---- each is like itself

pub bytes_same : (xs : List ℕ) → bytes_eq xs xs ≡ true
bytes_same xs = (bytes_eq-Decides xs xs).1 refl

base_same : (b : Base) → base_eq b b ≡ true
base_same base.Z = refl
base_same base.B = refl
base_same base.C = refl
base_same base.S = refl
base_same base.I = refl
base_same base.J = refl
base_same (base.Class name) = bytes_same name

number_same : (n : ℕ) → nat_eq n n ≡ true
number_same n = grind arith

type_same : (t : Ty) → ty_eq t t ≡ true
type_same t = (λ j. number_same t.dims j && base_same t.base j)

types_same : (ts : List Ty) → same_types ts ts ≡ true
types_same [] = refl
types_same (t ∷ ts) = (λ j. type_same t j && types_same ts j)

result_same : (t : Option Ty) → same_result t t ≡ true
result_same None = refl
result_same (Some t) = type_same t

pub proto_same : (p : Proto) → same_proto p p ≡ true
proto_same p = (λ j. types_same p.params j && result_same p.ret j)

pub method_same : (m : MethodDef) → same_method m m ≡ true
method_same m = (λ j. bytes_same m.name j && proto_same m.proto j)

-- ---- keys of methods

-- what is like the key of a method is like the method
pub like_key : (k : MethodKey) (m : MethodDef) → k.name.now ≡ m.name → k.proto.now ≡ m.proto → is_like k ≡ same_method m
like_key k m name proto = λ j n. bytes_eq n.name (name j) && same_proto n.proto (proto j)

-- the key of a method is that of another just where the method is like it
pub key_like : (k q : MethodKey) (m : MethodDef) → k.name.now ≡ m.name → k.proto.now ≡ m.proto → key_eq k q ≡ is_like q m
key_like k q m name proto =
    (λ j. bytes_eq (name j) q.name.now && protos k.proto.now q.proto.now j) ∙
    (λ j. bytes_eq m.name q.name.now && same_proto (proto j) q.proto.now)

or_last : (a b : Bool) → cond b true a ≡ (a || (b || false))
or_last true true = refl
or_last true false = refl
or_last false true = refl
or_last false false = refl

-- a set of the keys of methods that has one more
pub told_more : (ms : List MethodDef) (i : ℕ) (m : MethodDef) (k q : MethodKey) (before after : Bool) → i < length ms → m ≡ get_or ms i m → k.name.now ≡ m.name → k.proto.now ≡ m.proto → before ≡ list_any (is_like q) (take i ms) → after ≡ cond (is_eq (key_cmp k q)) true before → after ≡ list_any (is_like q) (take (i + 1) ms)
told_more ms i m k q before after within is name proto told added =
    let more : take (i + 1) ms ≡ take i ms ++ m ∷ [] = take_more ms i m within ∙ (λ j. take i ms ++ sym is j ∷ []) in
    added ∙ ((λ j. cond ((sym (equal_by_order k q) ∙ key_like k q m name proto) j) true (told j)) ∙
    (or_last (list_any (is_like q) (take i ms)) (is_like q m) ∙
    (sym (list_any-append (is_like q) (take i ms) (m ∷ [])) ∙ ap (list_any (is_like q)) (sym more))))
