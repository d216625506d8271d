-- The numbers of methods: those of a class stand together, after those of the earlier classes.
use Rattle.std.specs.Prelude.{ℕ, zero, suc, ◌≡◌, ◌<◌, ◌≤◌, ◌+◌, List, [], ◌∷◌, ◌++◌, length, map, take, sum_by, Some, slice_get}
use Rattle.std.specs.List.{range_with_len}
use Rattle.std.proofs.Common.{refl, sym, ◌∙◌, arith, get_or, append_assoc}
use Rattle.std.proofs.lemmas.List.Sums.{sum_by-cons, sum_by-take-le}
use Rattle.std.proofs.lemmas.List.FromFn.{get_or-map-range_with_len, length-map-range_with_len, map-range_with_len_more}
use Rattle.dv_defs.specs.declared.names.Ty.{Ty}
use Rattle.dv_defs.specs.declared.names.ClassId.{ClassId}
use Rattle.dv_defs.specs.declared.names.FieldId.{FieldId}
use Rattle.dv_defs.specs.declared.names.MethodId.{MethodId}
use Rattle.dv_defs.specs.declared.image.ClassInfo.{ClassInfo}
use Rattle.dv_defs.specs.declared.image.MethodInfo.{MethodInfo}
use Rattle.law_linking.proofs.Members.{method_info}
use Rattle.dv_vtable.specs.Chains.{first_method}

pub first_more : (cs : List ClassInfo) (i : ℕ) (c : ClassInfo) → slice_get cs i ≡ Some c
    → first_method cs (i + 1) ≡ first_method cs i + length c.def.methods
first_more [] i c there = absurd (cc)
first_more (d ∷ cs) zero c there =
    let same : d ≡ c = cc in rw same (rw (sum_by-cons (λ e. length e.def.methods) c []) (omega arith))
first_more (d ∷ cs) (suc i) c there =
    let e : suc i + 1 ≡ suc (i + 1) = omega arith in
    let h : first_method cs (i + 1) ≡ first_method cs i + length c.def.methods = first_more cs i c there in
    rw (e, sum_by-cons (λ x. length x.def.methods) d (take (i + 1) cs), sum_by-cons (λ x. length x.def.methods) d (take i cs), h) (omega arith)

-- a class's methods are among all of them
pub first_within : (cs : List ClassInfo) (i : ℕ) (c : ClassInfo) → slice_get cs i ≡ Some c
    → first_method cs i + length c.def.methods ≤ sum_by (λ d. length d.def.methods) cs
first_within cs i c there =
    let h : first_method cs (i + 1) ≡ first_method cs i + length c.def.methods = first_more cs i c there in
    let k : first_method cs (i + 1) ≤ sum_by (λ d. length d.def.methods) cs = sum_by-take-le (λ d. length d.def.methods) cs (i + 1) in
    omega arith

-- the turn of a loop over classes
pub firsts_more : (cs : List ClassInfo) (i : ℕ) (c : ClassInfo) (firsts new : List ℕ) (first len : ℕ)
    → slice_get cs i ≡ Some c
    → firsts ≡ map (first_method cs) (range_with_len 0 i) → first ≡ first_method cs i
    → new ≡ firsts ++ first ∷ [] → len ≡ length c.def.methods
    → (new ≡ map (first_method cs) (range_with_len 0 (i + 1))) × (first + len ≡ first_method cs (i + 1))
firsts_more cs i c firsts new first len there are is pushed many =
    (rw (map-range_with_len_more (first_method cs) 0 i i (omega arith), pushed, are, is) refl, rw (is, many) (sym (first_more cs i c there)))

pub first_at : (cs : List ClassInfo) (firsts : List ℕ) (i d : ℕ) → firsts ≡ map (first_method cs) (range_with_len 0 (length cs)) → i < length cs
    → get_or firsts i d ≡ first_method cs i
first_at cs firsts i d are within = rw are (get_or-map-range_with_len (first_method cs) 0 (length cs) i i d within (omega arith))

pub as_many_firsts : (cs : List ClassInfo) (firsts : List ℕ) → firsts ≡ map (first_method cs) (range_with_len 0 (length cs)) → length firsts ≡ length cs
as_many_firsts cs firsts are = rw are (length-map-range_with_len (first_method cs) 0 (length cs))

-- the turn of a loop over a class's methods
pub numbered_more : (id : ClassId) (place : ℕ) (types : List Ty) (fields : List FieldId) (methods : List MethodId) (before now new : List MethodInfo)
    → types ≡ [] → fields ≡ [] → methods ≡ []
    → now ≡ before ++ map (method_info id.0) (range_with_len 0 place)
    → new ≡ now ++ record { class = id; place = place; types = types; fields = fields; methods = methods } ∷ []
    → new ≡ before ++ map (method_info id.0) (range_with_len 0 (place + 1))
numbered_more id place types fields methods before now new no_types no_fields no_methods so_far pushed =
    let made : new ≡ now ++ method_info id.0 place ∷ [] =
    pushed ∙ (λ j. now ++ record { class = id; place = place; types = no_types j; fields = no_fields j; methods = no_methods j } ∷ []) in
    rw (map-range_with_len_more (method_info id.0) 0 place place (omega arith), made, so_far, append_assoc) refl
