-- A type that a method can meet has at most as many dimensions as all of those types together.
use Rattle.std.proofs.Common.{◌≡◌, ◌≤◌, ℕ, zero, suc, ◌+◌, List, [], ◌∷◌, ◌++◌, Option, Some, None, refl, ap, ◌∙◌, subst, arith}
use Rattle.std.specs.Prelude.{map, flat_map, slice_get, option_to_list}
use Rattle.std.proofs.lemmas.Option.{same_Some, slice_get-map}
use Rattle.std.specs.Option.{option_map}
use Rattle.dv_defs.specs.declared.names.Ty.{Ty}
use Rattle.dv_defs.specs.declared.class.FieldDef.{FieldDef}
use Rattle.dv_defs.specs.declared.class.MethodDef.{MethodDef}
use Rattle.dv_defs.specs.declared.image.ClassInfo.{ClassInfo}
use Rattle.dv_defs.specs.declared.image.FieldInfo.{FieldInfo}
use Rattle.dv_defs.specs.declared.image.MethodInfo.{MethodInfo}
use Rattle.dv_defs.specs.Images.{Image}
use Rattle.dv_defs.specs.Pools.{Field, Method, field_at, method_at, with_field, with_field_info, with_def, with_info, fields_of, methods_of}
use Rattle.dv_defs.specs.Op.{Code}
use Rattle.law_flow.specs.Fitting.{dims_of, field_types, result_types, dims_met}
use Rattle.law_types.proofs.Facts.{nothing}

-- ---- lists of types

pub item_below : (ts : List Ty) (k : ℕ) (t : Ty) → slice_get ts k ≡ Some t → t.dims ≤ dims_of ts
item_below [] k t e = nothing (t.dims ≤ 0) t e
item_below (u ∷ ts) zero t e = subst (λ (z : Ty). z.dims ≤ u.dims + dims_of ts) (same_Some u t e) (omega arith)
item_below (u ∷ ts) (suc k) t e = let later : t.dims ≤ dims_of ts = item_below ts k t e in omega arith

sum_of : (ts us : List Ty) → dims_of (ts ++ us) ≡ dims_of ts + dims_of us
sum_of [] us = omega arith
sum_of (t ∷ ts) us = let later : dims_of (ts ++ us) ≡ dims_of ts + dims_of us = sum_of ts us in omega arith

flat_below : {A : Type 0} (f : A → List Ty) (xs : List A) (k : ℕ) (x : A) → slice_get xs k ≡ Some x → dims_of (f x) ≤ dims_of (flat_map f xs)
flat_below f [] k x e = nothing (dims_of (f x) ≤ 0) x e
flat_below f (y ∷ xs) zero x e =
    let both : dims_of (f y ++ flat_map f xs) ≡ dims_of (f y) + dims_of (flat_map f xs) = sum_of (f y) (flat_map f xs) in
    subst (λ z. dims_of (f z) ≤ dims_of (f y ++ flat_map f xs)) (same_Some y x e) (omega arith)
flat_below f (y ∷ xs) (suc k) x e =
    let both : dims_of (f y ++ flat_map f xs) ≡ dims_of (f y) + dims_of (flat_map f xs) = sum_of (f y) (flat_map f xs) in
    let later : dims_of (f x) ≤ dims_of (flat_map f xs) = flat_below f xs k x e in
    omega arith

-- ---- the types of a method

module _ (image : Image) (code : Code) where
  abbrev fields : ℕ
  fields = dims_of (flat_map field_types image.classes)

  abbrev results : ℕ
  results = dims_of (flat_map result_types image.classes)

  dims_are : dims_met image code ≡ dims_of code.method.info.types + dims_of code.body.types + dims_of code.method.def.proto.params + fields + results
  dims_are = simp sum_of

  pub pool_met : (k : ℕ) (t : Ty) → slice_get code.method.info.types k ≡ Some t → t.dims ≤ dims_met image code
  pool_met k t e = let below = item_below code.method.info.types k t e in let all = dims_are in omega arith

  pub body_met : (k : ℕ) (t : Ty) → slice_get code.body.types k ≡ Some t → t.dims ≤ dims_met image code
  body_met k t e = let below = item_below code.body.types k t e in let all = dims_are in omega arith

  pub params_met : dims_of code.method.def.proto.params ≤ dims_met image code
  params_met = let all = dims_are in omega arith

  -- ---- fields

  declared_field : (fs : List FieldDef) (k : ℕ) (id : ℕ) (info : FieldInfo) (x : Field) (o : Option FieldDef) → slice_get fs k ≡ o → with_field id info o ≡ Some x → x.def.ty.dims ≤ dims_of (map (λ (f : FieldDef). f.ty) fs)
  declared_field fs k id info x None q e = nothing (x.def.ty.dims ≤ dims_of (map (λ (f : FieldDef). f.ty) fs)) x e
  declared_field fs k id info x (Some d) q e =
      item_below (map (λ (f : FieldDef). f.ty) fs) k x.def.ty
      (slice_get-map (λ (f : FieldDef). f.ty) fs k ∙ (ap (option_map (λ (f : FieldDef). f.ty)) q ∙ ap (λ (y : Field). Some y.def.ty) (same_Some (record { id = id; info = info; def = d }) x e)))

  field_of_class : (c k : ℕ) (id : ℕ) (info : FieldInfo) (x : Field) (o : Option ClassInfo) → slice_get image.classes c ≡ o → with_field id info (slice_get (fields_of o) k) ≡ Some x → x.def.ty.dims ≤ fields
  field_of_class c k id info x None q e = nothing (x.def.ty.dims ≤ fields) x e
  field_of_class c k id info x (Some cls) q e =
      let below : x.def.ty.dims ≤ dims_of (field_types cls) = declared_field cls.def.fields k id info x (slice_get cls.def.fields k) refl e in
      let flat : dims_of (field_types cls) ≤ fields = flat_below field_types image.classes c cls q in
      omega arith

  field_of_info : (id : ℕ) (x : Field) (o : Option FieldInfo) → with_field_info image id o ≡ Some x → x.def.ty.dims ≤ fields
  field_of_info id x None e = nothing (x.def.ty.dims ≤ fields) x e
  field_of_info id x (Some info) e = field_of_class info.class.0 info.place id info x (slice_get image.classes info.class.0) refl e

  pub field_met : (n : ℕ) (x : Field) → field_at image n ≡ Some x → x.def.ty.dims ≤ dims_met image code
  unfolding field_at
  field_met n x e = let below : x.def.ty.dims ≤ fields = field_of_info n x (slice_get image.fields n) e in let all = dims_are in omega arith

  -- ---- results

  abbrev result_of : MethodDef → List Ty
  result_of d = option_to_list d.proto.ret

  its_result : (o : Option Ty) (t : Ty) → o ≡ Some t → t.dims ≤ dims_of (option_to_list o)
  its_result None t e = nothing (t.dims ≤ 0) t e
  its_result (Some u) t e = subst (λ (z : Ty). z.dims ≤ u.dims + 0) (same_Some u t e) (omega arith)

  declared_result : (ds : List MethodDef) (k : ℕ) (id : ℕ) (info : MethodInfo) (g : Method) (t : Ty) (o : Option MethodDef) → slice_get ds k ≡ o → with_def id info o ≡ Some g → g.def.proto.ret ≡ Some t → t.dims ≤ dims_of (flat_map result_of ds)
  declared_result ds k id info g t None q e r = nothing (t.dims ≤ dims_of (flat_map result_of ds)) g e
  declared_result ds k id info g t (Some d) q e r =
      let same : d ≡ g.def = ap (λ (y : Method). y.def) (same_Some (record { id = id; info = info; def = d }) g e) in
      let below : t.dims ≤ dims_of (result_of g.def) = its_result g.def.proto.ret t r in
      let flat : dims_of (result_of g.def) ≤ dims_of (flat_map result_of ds) = flat_below result_of ds k g.def (q ∙ ap Some same) in
      omega arith

  result_of_class : (c k : ℕ) (id : ℕ) (info : MethodInfo) (g : Method) (t : Ty) (o : Option ClassInfo) → slice_get image.classes c ≡ o → with_def id info (slice_get (methods_of o) k) ≡ Some g → g.def.proto.ret ≡ Some t → t.dims ≤ results
  result_of_class c k id info g t None q e r = nothing (t.dims ≤ results) g e
  result_of_class c k id info g t (Some cls) q e r =
      let below : t.dims ≤ dims_of (result_types cls) = declared_result cls.def.methods k id info g t (slice_get cls.def.methods k) refl e r in
      let flat : dims_of (result_types cls) ≤ results = flat_below result_types image.classes c cls q in
      omega arith

  result_of_info : (id : ℕ) (g : Method) (t : Ty) (o : Option MethodInfo) → with_info image id o ≡ Some g → g.def.proto.ret ≡ Some t → t.dims ≤ results
  result_of_info id g t None e r = nothing (t.dims ≤ results) g e
  result_of_info id g t (Some info) e r = result_of_class info.class.0 info.place id info g t (slice_get image.classes info.class.0) refl e r

  pub result_met : (n : ℕ) (g : Method) (t : Ty) → method_at image n ≡ Some g → g.def.proto.ret ≡ Some t → t.dims ≤ dims_met image code
  unfolding method_at
  result_met n g t e r = let below : t.dims ≤ results = result_of_info n g t (slice_get image.methods n) e r in let all = dims_are in omega arith
