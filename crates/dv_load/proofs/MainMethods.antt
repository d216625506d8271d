-- The main method of a class is one.
use Rattle.std.proofs.Common.{◌≡◌, ℕ, Bool, true, false, ◌&&◌, cond, ◌⊎◌, List, [], ◌∷◌, Option, Some, None, Result, Ok, Err, refl, sym, ap, subst, inl, inr, ◌∙◌}
use Rattle.std.specs.Prelude.{bytes_eq, is_some, nat_eq}
use Rattle.std.specs.List.{All, find}
use Rattle.std.specs.Option.{option_or}
use Rattle.std.proofs.lemmas.Bool.{and_parts}
use Rattle.std.proofs.lemmas.List.Elements.{All-head, All-tail}
use Rattle.dv_defs.specs.declared.code.Body.{Body}
use Rattle.dv_defs.specs.declared.faults.LinkKind.TheVariants as kind
use Rattle.dv_defs.specs.declared.names.MethodId.{MethodId}
use Rattle.dv_defs.specs.declared.names.Proto.{Proto}
use Rattle.dv_defs.specs.declared.names.Ty.{Ty}
use Rattle.dv_defs.specs.Images.{Image}
use Rattle.dv_defs.specs.LinkFaults.{Found, found}
use Rattle.dv_defs.specs.Selecting.{all_methods}
use Rattle.dv_defs.specs.Linked.{is_main_with, main_found, main_of, with_arguments}
use Rattle.dv_defs.specs.Names.{main_name, string_name}
use Rattle.dv_defs.specs.Op.{Code, code_at, code_of, with_body}
use Rattle.dv_defs.specs.Pools.{Method, class_named, declared_by, is_static, method_at, no_arguments}
use Rattle.dv_defs.specs.Tiling.{tiles_in, tiling}
use Rattle.dv_defs.specs.Types.{of_class, same_proto}
use Rattle.law_linking.proofs.Members.{declared_by_is}
use Rattle.law_linking.proofs.TableLaws.{IsOwn, all_own, name_is, proto_is}
use Rattle.dv_machine.specs.Mains.{HasMain, IsMain}
use Rattle.dv_resolve.specs.Answers.{numbered_main}
use Rattle.dv_load.specs.Images.{by_linking, main_in}
use Rattle.dv_load.specs.Laws.{MainsAreMain}

-- ---- what a class declares

-- the image has the method, and the test takes it
record IsTaken (image : Image) (test : Method → Bool) (m : Method) : Type 0 where
  there : IsOwn image m
  taken : test m ≡ true

first_taken : (image : Image) (test : Method → Bool) (ms : List Method) → All (IsOwn image) ms → (m : Method) → find test ms ≡ Some m → IsTaken image test m
first_taken image test [] all m is = absurd (cc)
first_taken image test (n ∷ ms) all m is = here (test n) refl is (first_taken image test ms (All-tail (IsOwn image) n ms all) m)
  where
    here : (b : Bool) → test n ≡ b → cond (test n) (Some n) (find test ms) ≡ Some m → (find test ms ≡ Some m → IsTaken image test m) → IsTaken image test m
    here true e first rest =
        let own : Some n ≡ Some m = rw e at first in
        let same : n ≡ m = cc in
        subst (IsTaken image test) same (record { there = All-head (IsOwn image) n ms all; taken = e })
    here false e first rest = rest (rw e at first)

declared_taken : (image : Image) (c : ℕ) (good : Method → Bool) (m : Method) → declared_by image c good ≡ Some m → IsTaken image good m
declared_taken image c good m is =
    let test : Method → Bool = λ n. nat_eq n.info.class.0 c && good n in
    let first = first_taken image test (all_methods image) (all_own image) m (sym (declared_by_is image c good) ∙ is) in
    record { there = first.there; taken = (and_parts (nat_eq m.info.class.0 c) (good m) first.taken).1 }

-- ---- main methods

has_code : (image : Image) (m : Method) → IsOwn image m → is_some m.def.body ≡ true → (code : Code) × (code_at image m.id ≡ Some code)
unfolding code_at
has_code image m there some = by m.def.body refl some
  where
    by : (o : Option Body) → m.def.body ≡ o → is_some o ≡ true → (code : Code) × (code_of (method_at image m.id) ≡ Some code)
    by None e some = absurd (cc)
    by (Some b) e some = (record { method = m; body = b; tiles = tiles_in (tiling b.units) }, ap code_of there ∙ ap (with_body m) e)

-- it takes nothing, or an array of strings
abbrev HasForm : List Ty → Type 0
HasForm ts = (ts ≡ []) ⊎ (ts ≡ record { dims = 1; base = (of_class string_name).base } ∷ [])

main_with : (image : Image) (p : Proto) (m : Method) → p.ret ≡ None → HasForm p.params → IsTaken image (is_main_with p) m → IsMain image m
main_with image p m void form is =
    let body = and_parts (is_static m && bytes_eq m.def.name main_name && same_proto m.def.proto p) (is_some m.def.body) is.taken in
    let proto = and_parts (is_static m && bytes_eq m.def.name main_name) (same_proto m.def.proto p) body.0 in
    let name = and_parts (is_static m) (bytes_eq m.def.name main_name) proto.0 in
    let same : m.def.proto ≡ p = proto_is m.def.proto p proto.1 in
    let code = has_code image m is.there body.1 in
    record {
      there = is.there;
      named = name_is m.def.name main_name name.1;
      static = name.0;
      code = code.0;
      has_code = code.1;
      void = ap (λ (q : Proto). q.ret) same ∙ void;
      form = subst (λ (q : Proto). HasForm q.params) (sym same) form;
    }

-- what one look-up finds, or else another
one_of : (image : Image) (a b : Option Method) (m : Method) → (a ≡ Some m → IsMain image m) → (b ≡ Some m → IsMain image m) → option_or a b ≡ Some m → IsMain image m
one_of image None b m one other e = other e
one_of image (Some x) b m one other e = one e

class_main : (image : Image) (c : ℕ) (m : Method) → main_of image c ≡ Some m → IsMain image m
class_main image c m =
    one_of image (declared_by image c (is_main_with with_arguments)) (declared_by image c (is_main_with no_arguments)) m
    (λ e. main_with image with_arguments m refl (inr refl) (declared_taken image c (is_main_with with_arguments) m e))
    (λ e. main_with image no_arguments m refl (inl refl) (declared_taken image c (is_main_with no_arguments) m e))

found_main : (image : Image) (name : List ℕ) (m : Method) → main_found image name ≡ Ok m → IsMain image m
unfolding main_found
found_main image name m e = by (class_named image name) e
  where
    of_class : (c : ℕ) (o : Option Method) → main_of image c ≡ o → elim o as (λ _. Result Method Found) [ None ↦ Err (found name kind.NoMain) | Some x ↦ Ok x ] ≡ Ok m → IsMain image m
    of_class c None is e = absurd (cc)
    of_class c (Some x) is e =
        let same : x ≡ m = cc in
        class_main image c m (is ∙ ap Some same)

    by : (o : Option ℕ) → elim o as (λ _. Result Method Found) [ None ↦ Err (found name (kind.NoClass name)) | Some c ↦ elim (main_of image c) [ None ↦ Err (found name kind.NoMain) | Some x ↦ Ok x ] ] ≡ Ok m → IsMain image m
    by None e = absurd (cc)
    by (Some c) e = of_class c (main_of image c) refl e

pub mains_are_main : MainsAreMain
mains_are_main image class id e = by (main_found image class) refl e
  where
    by : (o : Result Method Found) → main_found image class ≡ o → by_linking (numbered_main o) ≡ Ok id → (main : Method) × IsMain image main × (main.id ≡ id.0)
    by (Ok m) is e =
        let same : record { 0 = m.id } ≡ id = cc in
        (m, found_main image class m is, ap (λ (i : MethodId). i.0) same)
    by (Err fault) is e = absurd (cc)

pub has_main : (image : Image) (class : List ℕ) (id : MethodId) → main_in image class ≡ Ok id → HasMain image id.0
has_main image class id e =
    let (main, is, numbered) = mains_are_main image class id e in
    record { method = main; is_main = is; numbered = numbered }
