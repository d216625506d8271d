-- The code of a method: whose it is, and that a method with a body has one; and a method's number.
use Rattle.std.specs.Prelude.{slice_get}
use Rattle.std.proofs.Common.{◌≡◌, ℕ, Option, Some, None, refl, sym, ap, ◌∙◌, subst}
use Rattle.dv_defs.specs.declared.code.Body.{Body}
use Rattle.dv_defs.specs.Images.{Image}
use Rattle.dv_defs.specs.declared.class.MethodDef.{MethodDef}
use Rattle.dv_defs.specs.declared.image.MethodInfo.{MethodInfo}
use Rattle.dv_defs.specs.Pools.{Method, with_def, with_info, methods_of, method_at}
use Rattle.dv_defs.specs.Tiling.{tiling, tiles_in}
use Rattle.dv_defs.specs.Op.{Code, with_body, code_of, code_at}

abbrev pub the_code : Method → Body → Code
the_code m b = record { method = m; body = b; tiles = tiles_in (tiling b.units) }

pub code_there : (image : Image) (n : ℕ) (m : Method) (b : Body) → method_at image n ≡ Some m → m.def.body ≡ Some b → code_at image n ≡ Some (the_code m b)
unfolding code_at
code_there image n m b e f = ap code_of e ∙ ap (with_body m) f

-- where a method's body stands
pub record IsCodeOf (image : Image) (n : ℕ) (code : Code) : Type 0 where
  pub method : method_at image n ≡ Some code.method
  pub body : code.method.def.body ≡ Some code.body
  pub tiles : code.tiles ≡ tiles_in (tiling code.body.units)

code_with : (m : Method) (o : Option Body) (code : Code) → m.def.body ≡ o → with_body m o ≡ Some code → (code.method ≡ m) × (code.method.def.body ≡ Some code.body) × (code.tiles ≡ tiles_in (tiling code.body.units))
code_with m None code e h = absurd (cc)
code_with m (Some b) code e h =
    let same : the_code m b ≡ code = cc in
    (sym (ap (λ (x : Code). x.method) same), subst (λ (x : Code). x.method.def.body ≡ Some x.body) same e, subst (λ (x : Code). x.tiles ≡ tiles_in (tiling x.body.units)) same refl)

code_from : (image : Image) (n : ℕ) (o : Option Method) (code : Code) → method_at image n ≡ o → code_of o ≡ Some code → IsCodeOf image n code
code_from image n None code e h = absurd (cc)
code_from image n (Some m) code e h = let (p, body, tiles) = code_with m m.def.body code refl h in record { method = e ∙ ap Some (sym p); body = body; tiles = tiles }

pub code_is : (image : Image) (n : ℕ) (code : Code) → code_at image n ≡ Some code → IsCodeOf image n code
unfolding code_at
code_is image n code h = code_from image n (method_at image n) code refl h

-- a method that is found by a number has it
def_id : (id : ℕ) (info : MethodInfo) (o : Option MethodDef) (m : Method) → with_def id info o ≡ Some m → m.id ≡ id
def_id id info None m e = absurd (cc)
def_id id info (Some d) m e =
    let made : Method = record { id = id; info = info; def = d } in
    let same : made ≡ m = cc in
    sym (ap (λ (x : Method). x.id) same)

info_id : (image : Image) (id : ℕ) (o : Option MethodInfo) (m : Method) → with_info image id o ≡ Some m → m.id ≡ id
info_id image id None m e = absurd (cc)
info_id image id (Some info) m e = def_id id info (slice_get (methods_of (slice_get image.classes info.class.0)) info.place) m e

pub method_id : (image : Image) (n : ℕ) (m : Method) → method_at image n ≡ Some m → m.id ≡ n
unfolding method_at
method_id image n m e = info_id image n (slice_get image.methods n) m e
