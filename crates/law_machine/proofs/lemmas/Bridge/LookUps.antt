-- What look-ups find, of any image.
use Rattle.std.proofs.Common.{◌≡◌, ℕ, suc, ◌+◌, List, [], ◌∷◌, Bool, true, false, ◌&&◌, not, Option, Some, None, refl, sym, ap, ◌∙◌, subst, arith}
use Rattle.std.specs.Prelude.{slice_get, nat_eq, bytes_eq, is_some}
use Rattle.std.proofs.lemmas.Bool.{eqb-true, and_parts, not-true}
use Rattle.dv_defs.specs.declared.names.Ty.{Ty}
use Rattle.dv_defs.specs.declared.names.Proto.{Proto}
use Rattle.dv_defs.specs.declared.code.Body.{Body}
use Rattle.dv_defs.specs.declared.class.FieldDef.{FieldDef}
use Rattle.dv_defs.specs.Images.{Image}
use Rattle.dv_defs.specs.declared.image.MethodInfo.{MethodInfo}
use Rattle.dv_defs.specs.declared.image.FieldInfo.{FieldInfo}
use Rattle.dv_defs.specs.Names.{clinit_name}
use Rattle.dv_defs.specs.Types.{ty_eq, same_types, same_result, same_proto}
use Rattle.dv_defs.specs.Pools.{Method, Field, with_info, method_at, with_field, with_field_info, fields_of, field_at, is_static, is_private, pick, declared_by, is_virtual_of, first_of_classes, nearest, no_arguments, is_initialiser, initialiser, supers}
use Rattle.dv_defs.specs.Order.{has_number}
use Rattle.law_types.proofs.Facts.{no, by_second, is_there}
use Rattle.law_types.proofs.Walks.{has_head}
use Rattle.law_types.proofs.Equal.{ty_is, names_are}
use Rattle.law_flow.proofs.MethodCode.{method_id}

-- ---- by number

field_id_from : (id : ℕ) (info : FieldInfo) (o : Option FieldDef) (f : Field) → with_field id info o ≡ Some f → f.id ≡ id
field_id_from id info None f e = absurd (cc)
field_id_from id info (Some d) f e =
    let made : Field = record { id = id; info = info; def = d } in
    let same : made ≡ f = cc in
    sym (ap (λ (x : Field). x.id) same)

field_info_id : (image : Image) (id : ℕ) (o : Option FieldInfo) (f : Field) → with_field_info image id o ≡ Some f → f.id ≡ id
field_info_id image id None f e = absurd (cc)
field_info_id image id (Some info) f e = field_id_from id info (slice_get (fields_of (slice_get image.classes info.class.0)) info.place) f e

pub field_id : (image : Image) (x : ℕ) (f : Field) → field_at image x ≡ Some f → f.id ≡ x
unfolding field_at
field_id image x f e = field_info_id image x (slice_get image.fields x) f e

-- ---- by a test

-- the method is the image's, and the test takes it
pub record IsPicked (image : Image) (good : Method → Bool) (m : Method) : Type 0 where
  pub there : method_at image m.id ≡ Some m
  pub taken : good m ≡ true

chosen : (image : Image) (is : List MethodInfo) (id : ℕ) (good : Method → Bool) (x m : Method) → (pick image is (suc id) good ≡ Some m → IsPicked image good m) → method_at image x.id ≡ Some x → (b : Bool) → good x ≡ b → elim b [ true ↦ Some x | false ↦ pick image is (suc id) good ] ≡ Some m → IsPicked image good m
chosen image is id good x m later there true e u = let q : x ≡ m = cc in record { there = subst (λ (z : Method). method_at image z.id ≡ Some z) q there; taken = subst (λ (z : Method). good z ≡ true) q e }
chosen image is id good x m later there false e u = later u

candidate : (image : Image) (is : List MethodInfo) (id : ℕ) (good : Method → Bool) (m : Method) → (pick image is (suc id) good ≡ Some m → IsPicked image good m) → (o : Option Method) → method_at image id ≡ o → elim o [ None ↦ pick image is (suc id) good | Some x ↦ elim (good x) [ true ↦ Some x | false ↦ pick image is (suc id) good ] ] ≡ Some m → IsPicked image good m
candidate image is id good m later None there u = later u
candidate image is id good m later (Some x) there u =
    let same : x.id ≡ id = method_id image id x there in
    chosen image is id good x m later (subst (λ (z : ℕ). method_at image z ≡ Some x) (sym same) there) (good x) refl u

picked : (image : Image) (is : List MethodInfo) (id : ℕ) (good : Method → Bool) (m : Method) → ((k : ℕ) → slice_get image.methods (id + k) ≡ slice_get is k) → pick image is id good ≡ Some m → IsPicked image good m
unfolding method_at
picked image [] id good m h e = absurd (cc)
picked image (i ∷ is) id good m h e =
    let here : slice_get image.methods id ≡ Some i = (let zero_more : id + 0 ≡ id = omega arith in subst (λ (z : ℕ). slice_get image.methods z ≡ Some i) zero_more (h 0)) in
    let found : method_at image id ≡ with_info image id (Some i) = ap (λ (o : Option MethodInfo). with_info image id o) here in
    let after : (k : ℕ) → slice_get image.methods (suc id + k) ≡ slice_get is k = λ k. (let one_more : id + suc k ≡ suc id + k = omega arith in subst (λ (z : ℕ). slice_get image.methods z ≡ slice_get is k) one_more (h (suc k))) in
    candidate image is id good m (λ u. picked image is (suc id) good m after u) (with_info image id (Some i)) found e

from_none : (xs : List MethodInfo) (k : ℕ) → slice_get xs (0 + k) ≡ slice_get xs k
from_none xs k = (let same : 0 + k ≡ k = omega arith in ap (λ (z : ℕ). slice_get xs z) same)

pub declared : (image : Image) (c : ℕ) (good : Method → Bool) (m : Method) → declared_by image c good ≡ Some m → IsPicked image (λ x. nat_eq x.info.class.0 c && good x) m
declared image c good m e = picked image image.methods 0 (λ x. nat_eq x.info.class.0 c && good x) m (from_none image.methods) e

-- ---- equal prototypes

pub same_list : (ts us : List Ty) → same_types ts us ≡ true → ts ≡ us
same_list [] [] e = refl
same_list (t ∷ ts) (u ∷ us) e =
    let p = and_parts (ty_eq t u) (same_types ts us) e in
    let q : t ≡ u = ty_is t u p.0 in
    let r : ts ≡ us = same_list ts us p.1 in
    cc
same_list ts us e = no e

same_ret : (s t : Option Ty) → same_result s t ≡ true → s ≡ t
same_ret None None e = refl
same_ret (Some s) (Some t) e = ap Some (ty_is s t e)
same_ret s t e = no e

proto_from : (p q : Proto) → p.params ≡ q.params → p.ret ≡ q.ret → p ≡ q
proto_from p q e f =
    let made : List Ty → Option Ty → Proto = λ ts t. record { params = ts; ret = t } in
    ap (λ ts. made ts p.ret) e ∙ ap (made q.params) f

pub proto_is : (p q : Proto) → same_proto p q ≡ true → p ≡ q
proto_is p q e =
    let s = and_parts (same_types p.params q.params) (same_result p.ret q.ret) e in
    proto_from p q (same_list p.params q.params s.0) (same_ret p.ret q.ret s.1)

-- ---- initialisers and the nearest method

pub initialiser_is : (image : Image) (c : ℕ) (m : Method) → initialiser image c ≡ Some m → (method_at image m.id ≡ Some m) × (is_static m ≡ true) × (m.def.proto ≡ no_arguments) × (m.info.class.0 ≡ c) × ((b : Body) × (m.def.body ≡ Some b))
unfolding initialiser
initialiser_is image c m e =
    let p = declared image c is_initialiser m e in
    let own = and_parts (nat_eq m.info.class.0 c) (is_initialiser m) p.taken in
    let body = and_parts (is_static m && bytes_eq m.def.name clinit_name && same_proto m.def.proto no_arguments) (is_some m.def.body) own.1 in
    let proto = and_parts (is_static m && bytes_eq m.def.name clinit_name) (same_proto m.def.proto no_arguments) body.0 in
    let static = and_parts (is_static m) (bytes_eq m.def.name clinit_name) proto.0 in
    (p.there, static.0, proto_is m.def.proto no_arguments proto.1, eqb-true m.info.class.0 c own.0, is_there m.def.body body.1)

-- declared by one of the classes
record IsOfClasses (image : Image) (cs : List ℕ) (good : Method → Bool) (m : Method) : Type 0 where
  there : method_at image m.id ≡ Some m
  taken : good m ≡ true
  among : has_number m.info.class.0 cs ≡ true

of_first : (image : Image) (c : ℕ) (cs : List ℕ) (good : Method → Bool) (m : Method) → (first_of_classes image cs good ≡ Some m → IsOfClasses image cs good m) → (o : Option Method) → declared_by image c good ≡ o → elim o [ Some x ↦ Some x | None ↦ first_of_classes image cs good ] ≡ Some m → IsOfClasses image (c ∷ cs) good m
of_first image c cs good m later (Some x) e u =
    let q : x ≡ m = cc in
    let p = declared image c good m (e ∙ ap Some q) in
    let own = and_parts (nat_eq m.info.class.0 c) (good m) p.taken in
    record { there = p.there; taken = own.1; among = subst (λ (z : ℕ). has_number z (c ∷ cs) ≡ true) (sym (eqb-true m.info.class.0 c own.0)) (has_head c cs) }
of_first image c cs good m later None e u =
    let r = later u in
    record { there = r.there; taken = r.taken; among = by_second (nat_eq c m.info.class.0) (has_number m.info.class.0 cs) r.among }

of_classes : (image : Image) (cs : List ℕ) (good : Method → Bool) (m : Method) → first_of_classes image cs good ≡ Some m → IsOfClasses image cs good m
of_classes image [] good m e = absurd (cc)
of_classes image (c ∷ cs) good m e = of_first image c cs good m (λ u. of_classes image cs good m u) (declared_by image c good) refl e

pub nearest_is : (image : Image) (c : ℕ) (name : List ℕ) (p : Proto) (m : Method) → nearest image c name p ≡ Some m → (method_at image m.id ≡ Some m) × (m.def.name ≡ name) × (m.def.proto ≡ p) × (is_static m ≡ false) × (has_number m.info.class.0 (supers image c) ≡ true)
unfolding nearest
nearest_is image c name p m e =
    let r = of_classes image (supers image c) (is_virtual_of name p) m e in
    let proto = and_parts (not (is_static m) && not (is_private m) && bytes_eq m.def.name name) (same_proto m.def.proto p) r.taken in
    let named = and_parts (not (is_static m) && not (is_private m)) (bytes_eq m.def.name name) proto.0 in
    let static = and_parts (not (is_static m)) (not (is_private m)) named.0 in
    (r.there, names_are m.def.name name named.1, proto_is m.def.proto p proto.1, not-true (is_static m) static.0, r.among)
