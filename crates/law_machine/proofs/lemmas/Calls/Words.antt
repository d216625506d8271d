-- The words of a call's receiver and arguments, by the method's types.
use Rattle.std.proofs.Common.{◌≡◌, ℕ, zero, suc, ◌++◌, List, [], ◌∷◌, Bool, true, false, refl, ap, ◌∙◌}
use Rattle.std.specs.Prelude.{◌&&◌, not, Ok, Err}
use Rattle.std.proofs.lemmas.List.Elements.{All-cons}
use Rattle.dv_defs.specs.declared.names.Ty.{Ty}
use Rattle.dv_defs.specs.Images.{Image}
use Rattle.dv_machine.specs.Value.{Value}
use Rattle.dv_machine.specs.Value as v
use Rattle.dv_typing.specs.declared.typing.RegType.{RegType}
use Rattle.dv_typing.specs.declared.typing.RegType.TheVariants as ty
use Rattle.dv_defs.specs.Types.{is_long, is_reference}
use Rattle.dv_defs.specs.Pools.{Method, is_static, is_constructor, is_of_object, own_type}
use Rattle.dv_typing.specs.RegTypes.{Types, type_at, single_type, all_types}
use Rattle.dv_typing.specs.Transfer.{arg_types, begins_uninitialised}
use Rattle.dv_machine.specs.Heap.{Heap}
use Rattle.dv_machine.specs.State.{Reads, where_ref, tested, fits_kind, read_ref}
use Rattle.dv_machine.specs.Natives.{object_number}
use Rattle.dv_machine.specs.Conforming.{IsUninit, RefFine}
use Rattle.law_machine.specs.Premises.{HoldsOf}
use Rattle.law_machine.specs.Reading.{AreWords}
use Rattle.law_machine.proofs.lemmas.Readers.Words.{IsWord, cons_good}

-- ---- declared types are of no uninitialised object

single_plain : (t : Ty) → IsUninit (single_type t) → ⊥
single_plain t = by_test (is_reference t)
  where
    by_test : (b : Bool) → IsUninit (elim b as (λ w. RegType) [ true ↦ ty.Class t | false ↦ ty.Int ]) → ⊥
    by_test true u = u
    by_test false u = u

one_plain : (t : Ty) (us : Types) → ((k : ℕ) → IsUninit (type_at us k) → ⊥) → (b : Bool) (k : ℕ) → IsUninit (type_at ((elim b as (λ w. Types) [ true ↦ ty.LongLo ∷ ty.LongHi ∷ [] | false ↦ single_type t ∷ [] ]) ++ us) k) → ⊥
one_plain t us h true zero u = u
one_plain t us h true (suc zero) u = u
one_plain t us h true (suc (suc k)) u = h k u
one_plain t us h false zero u = single_plain t u
one_plain t us h false (suc k) u = h k u

pub all_plain : (ts : List Ty) (k : ℕ) → IsUninit (type_at (all_types ts) k) → ⊥
all_plain [] k u = u
all_plain (t ∷ ts) k u = one_plain t (all_types ts) (all_plain ts) (is_long t) k u

-- ---- the types of a method's words

module _ (image : Image) (m : Method) where
  abbrev of_receiver : Bool → Bool → Types
  of_receiver b d = elim b as (λ w. Types) [ true ↦ [] | false ↦ elim d as (λ w. Types) [ true ↦ ty.UninitThis ∷ [] | false ↦ ty.Class (own_type image m) ∷ [] ] ]

  pub static_types : is_static m ≡ true → arg_types image m ≡ all_types m.def.proto.params
  static_types e = ap (λ b. of_receiver b (begins_uninitialised image m) ++ all_types m.def.proto.params) e

  pub instance_types : is_static m ≡ false → begins_uninitialised image m ≡ false → arg_types image m ≡ ty.Class (own_type image m) ∷ all_types m.def.proto.params
  instance_types e f = ap (λ b. of_receiver b (begins_uninitialised image m) ++ all_types m.def.proto.params) e ∙ ap (λ d. of_receiver false d ++ all_types m.def.proto.params) f

  pub constructor_types : is_static m ≡ false → begins_uninitialised image m ≡ true → arg_types image m ≡ ty.UninitThis ∷ all_types m.def.proto.params
  constructor_types e f = ap (λ b. of_receiver b (begins_uninitialised image m) ++ all_types m.def.proto.params) e ∙ ap (λ d. of_receiver false d ++ all_types m.def.proto.params) f

  pub begins_plain : is_constructor m ≡ false → begins_uninitialised image m ≡ false
  begins_plain e = ap (λ b. b && not (is_of_object image m)) e

  pub begins_by_class : is_constructor m ≡ true → (b : Bool) → is_of_object image m ≡ b → begins_uninitialised image m ≡ not b
  begins_by_class e b f = ap (λ c. c && not (is_of_object image m)) e ∙ ap not f

-- ---- words

pub words_cons : (image : Image) (heap : Heap) (x : Value) (t : RegType) (xs : List Value) (ts : Types) → IsWord image heap x t → AreWords image heap xs ts → AreWords image heap (x ∷ xs) (t ∷ ts)
words_cons image heap x t xs ts w h = record {
  good = λ own. cons_good image heap own x t xs ts w.plain (w.conforms own) (h.good own);
  refs = All-cons (RefFine image heap) x xs w.fine h.refs;
}

-- ---- the number of a reference that was read

pub both_hold : {A : Type 0} (P Q : A → Type 0) (r : Reads A) → HoldsOf P r → HoldsOf Q r → HoldsOf (λ x. P x × Q x) r
both_hold P Q (Ok x) p q = (p, q)
both_hold P Q (Err y) p q = p

read_where : (P Q : ℕ → Type 0) (b : Bool) (o : ℕ) → HoldsOf P (where_ref b o) → Q o → HoldsOf Q (where_ref b o)
read_where P Q true o h q = q
read_where P Q false o h q = absurd h

pub read_number : (image : Image) (heap : Heap) (t : Ty) (P : ℕ → Type 0) (x : Value) → HoldsOf P (read_ref image heap t x) → HoldsOf (λ o. object_number x ≡ o) (read_ref image heap t x)
read_number image heap t P v.Zero h = refl
read_number image heap t P (v.Ref o) h = read_where P (λ p. o ≡ p) (tested (fits_kind image t) heap o) o h refl
read_number image heap t P x h = absurd h

-- a number that isn't 0 is a reference's
pub number_is : (x : Value) (o : ℕ) → object_number x ≡ suc o → x ≡ v.Ref (suc o)
number_is (v.Ref p) o e = ap v.Ref e
number_is x o e = absurd (cc)
