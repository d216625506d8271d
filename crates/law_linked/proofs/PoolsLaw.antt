-- The pools of a linked image are those of its bodies.
use Rattle.std.specs.Prelude.{ℕ, ◌≡◌, List, Option, Some, None, slice_get, option_map}
use Rattle.std.proofs.Common.{refl, sym, ap, subst, ◌∙◌}
use Rattle.std.proofs.lemmas.Option.{slice_get-map}
use Rattle.dv_defs.specs.declared.names.ClassId.{ClassId}
use Rattle.dv_defs.specs.declared.code.Body.{Body}
use Rattle.dv_defs.specs.declared.image.MethodInfo.{MethodInfo}
use Rattle.dv_defs.specs.Images.{Image}
use Rattle.dv_defs.specs.Pools.{Method, method_at, methods_of}
use Rattle.dv_defs.specs.Op.{Code, code_at, code_of, with_body}
use Rattle.dv_defs.specs.Tiling.{tiling, tiles_in}
use Rattle.dv_defs.specs.Numbering.{numbered}
use Rattle.dv_defs.specs.Linked.{IsImage, defs, body_in, body_at, field_ids, method_ids, method_with_pools}
use Rattle.dv_machine.specs.Accepted.{HasPools}
use Rattle.law_machine.proofs.lemmas.Common.Members.{method_there}
use Rattle.law_linking.proofs.OrderedImages.{image_methods_own}

-- ---- the types of pools

abbrev with_pools_of : Image → MethodInfo → Option Body → MethodInfo
with_pools_of image i o =
    elim o [
      | None ↦ i
      | Some b ↦ record { class = i.class; place = i.place; types = b.types; fields = field_ids image b; methods = method_ids image b }
    ]

-- a method with pools has the class and the place that it has without
same_place : (image : Image) (i : MethodInfo) (o : Option Body) → ((with_pools_of image i o).class ≡ i.class) × ((with_pools_of image i o).place ≡ i.place)
same_place image i None = (refl, refl)
same_place image i (Some b) = (refl, refl)

-- and the types of its body
with_pools_types : (image : Image) (i : MethodInfo) (m : Method) (b : Body) → method_with_pools image i ≡ m.info → slice_get (methods_of (slice_get image.classes m.info.class.0)) m.info.place ≡ Some m.def → m.def.body ≡ Some b → m.info.types ≡ b.types
with_pools_types image i m b pooled declared body =
    let kept = same_place image i (body_at image i) in
    let class_same : i.class ≡ m.info.class = sym kept.0 ∙ ap (λ (j : MethodInfo). j.class) pooled in
    let place_same : i.place ≡ m.info.place = sym kept.1 ∙ ap (λ (j : MethodInfo). j.place) pooled in
    let found : body_at image i ≡ Some b =
    ap (λ (c : ClassId). body_in (slice_get (methods_of (slice_get image.classes c.0)) i.place)) class_same ∙
    (ap (λ (k : ℕ). body_in (slice_get (methods_of (slice_get image.classes m.info.class.0)) k)) place_same ∙
    (ap body_in declared ∙ body)) in
    sym (ap (λ (j : MethodInfo). j.types) pooled) ∙ ap (λ (o : Option Body). (with_pools_of image i o).types) found

module _ (image : Image) (is : IsImage image) where
  abbrev own : Image
  own = numbered (defs image.classes) image.boot

  method_types : (n : ℕ) (m : Method) (b : Body) → method_at image n ≡ Some m → m.def.body ≡ Some b → m.info.types ≡ b.types
  method_types n m b at body = by (slice_get own.methods n) refl
    where
      by : (o : Option MethodInfo) → slice_get own.methods n ≡ o → m.info.types ≡ b.types
      by o unpooled = from o (sym told ∙ (method_there image n m at).0)
        where
          told : slice_get image.methods n ≡ option_map (method_with_pools image) o
          told =
              ap (λ (ms : List MethodInfo). slice_get ms n) (image_methods_own image is) ∙
              (slice_get-map (method_with_pools image) own.methods n ∙ ap (option_map (method_with_pools image)) unpooled)

          from : (o : Option MethodInfo) → option_map (method_with_pools image) o ≡ Some m.info → m.info.types ≡ b.types
          from None e = absurd (cc)
          from (Some i) e =
              let pooled : method_with_pools image i ≡ m.info = cc in
              with_pools_types image i m b pooled (method_there image n m at).1 body

  types_of_body : (n : ℕ) (m : Method) → method_at image n ≡ Some m → (o : Option Body) → m.def.body ≡ o → (code : Code) → with_body m o ≡ Some code → code.method.info.types ≡ code.body.types
  types_of_body n m at None body code is_code = absurd (cc)
  types_of_body n m at (Some b) body code is_code =
      let made : Code = record { method = m; body = b; tiles = tiles_in (tiling b.units) } in
      let same : made ≡ code = cc in
      subst (λ (c : Code). c.method.info.types ≡ c.body.types) same (method_types n m b at body)

  types_of_method : (n : ℕ) (o : Option Method) → method_at image n ≡ o → (code : Code) → code_of o ≡ Some code → code.method.info.types ≡ code.body.types
  types_of_method n None at code is_code = absurd (cc)
  types_of_method n (Some m) at code is_code = types_of_body n m at m.def.body refl code is_code

  types_of_code : (n : ℕ) (code : Code) → code_at image n ≡ Some code → code.method.info.types ≡ code.body.types
  unfolding code_at
  types_of_code n code at = types_of_method n (method_at image n) refl code at

pub image_pools : (image : Image) → IsImage image → HasPools image
image_pools image is =
    record { types = types_of_code image is }
