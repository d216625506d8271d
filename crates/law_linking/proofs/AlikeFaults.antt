-- What is wrong with methods and with pools, and what pools lead to, is the same of images that are alike.
use Rattle.std.specs.Prelude.{ℕ, ◌≡◌, ◌&&◌, not, List, [], ◌∷◌, length, drop, map, filter_map, Option, Some, None, slice_get, nat_eq, bytes_eq, is_none, option_map, option_and_then}
use Rattle.std.specs.Option.{option_or}
use Rattle.std.specs.List.{list_any, cons_option}
use Rattle.std.proofs.Common.{refl, sym, ap, ◌∙◌}
use Rattle.dv_defs.specs.declared.names.Ty.{Ty}
use Rattle.dv_defs.specs.declared.names.FieldId.{FieldId}
use Rattle.dv_defs.specs.declared.names.MethodId.{MethodId}
use Rattle.dv_defs.specs.declared.names.FieldRef.{FieldRef}
use Rattle.dv_defs.specs.declared.names.MethodRef.{MethodRef}
use Rattle.dv_defs.specs.declared.code.Body.{Body}
use Rattle.dv_defs.specs.declared.class.ClassDef.{ClassDef}
use Rattle.dv_defs.specs.declared.class.MethodDef.{MethodDef}
use Rattle.dv_defs.specs.declared.image.MethodInfo.{MethodInfo}
use Rattle.dv_defs.specs.declared.faults.LinkKind.{LinkKind}
use Rattle.dv_defs.specs.declared.faults.LinkKind.TheVariants as kind
use Rattle.dv_defs.specs.declared.flags.Flag.TheVariants as flag
use Rattle.dv_defs.specs.Images.{Image}
use Rattle.dv_defs.specs.First.{first_below, first_in, when}
use Rattle.dv_defs.specs.Flags.{has_flag}
use Rattle.dv_defs.specs.Names.{init_name}
use Rattle.dv_defs.specs.Types.{class_in}
use Rattle.dv_defs.specs.Written.{field_text, method_text}
use Rattle.dv_defs.specs.Pools.{Method, Field}
use Rattle.dv_defs.specs.LookUp.{field_named, method_named}
use Rattle.dv_defs.specs.LinkFaults.{no_class, no_type, no_class_in_pools, no_field, no_method, private_field, private_method, wrong_pools, bodies, method_twice, is_open, is_final, same_method, forbids, overrides_final, body_wrong, wrong_methods}
use Rattle.dv_defs.specs.Linked.{body_in, body_at, field_ids, method_ids, method_with_pools}
use Rattle.law_linking.specs.Stripped.{field_stripped, method_stripped}
use Rattle.law_linking.proofs.AlikeMembers.{stripped_field_named, stripped_method_named}
use Rattle.law_linking.proofs.AlikeImages.{AreAlike, alike_supers, alike_methods_of, alike_class_named, alike_by_field, alike_by_method}

abbrev by_field : Field → FieldId
by_field f = record { 0 = f.id }

abbrev by_method : Method → MethodId
by_method m = record { 0 = m.id }

-- what is given of what is found is found
pub map_filtered : {X Y Z : Type 0} (g : Y → Z) (f : X → Option Y) (xs : List X) → map g (filter_map f xs) ≡ filter_map (λ x. option_map g (f x)) xs
map_filtered g f [] = refl
map_filtered {X} {Y} {Z} g f (x ∷ xs) = here (f x) (map_filtered g f xs)
  where
    here : (o : Option Y) → map g (filter_map f xs) ≡ filter_map (λ x. option_map g (f x)) xs
        → map g (cons_option o (filter_map f xs)) ≡ cons_option (option_map g o) (filter_map (λ x. option_map g (f x)) xs)
    here None same = same
    here (Some y) same = ap (λ zs. g y ∷ zs) same

module _ (a b : Image) (alike : AreAlike a b) where
  -- ---- methods

  alike_forbids : (m : MethodDef) (d : ℕ) → forbids a m d ≡ forbids b m d
  alike_forbids m d = ap (list_any (λ n. is_final n && same_method m n)) (alike_methods_of a b alike d)

  alike_overrides : (i : ℕ) (m : MethodDef) → overrides_final a i m ≡ overrides_final b i m
  alike_overrides i m =
      λ j. when (is_open m && not (bytes_eq m.name init_name) && list_any (λ d. alike_forbids m d j) (drop 1 (alike_supers a b alike i j))) (kind.FinalOverride m.name)

  pub alike_wrong_methods : (i : ℕ) (c : ClassDef) → wrong_methods a i c ≡ wrong_methods b i c
  alike_wrong_methods i c =
      λ j. option_or (first_below (method_twice c.methods) (length c.methods))
      (option_or (first_in (body_wrong (alike j).boot i c) c.methods) (first_in (λ m. alike_overrides i m j) c.methods))

  -- ---- pools

  alike_no_class : (name : List ℕ) → no_class a name ≡ no_class b name
  alike_no_class name =
      ap (λ (o : Option ℕ). elim o as (λ _. Option LinkKind) [ None ↦ Some (kind.NoClass name) | Some c ↦ None ]) (alike_class_named a b alike name)

  alike_no_type : (t : Ty) → no_type a t ≡ no_type b t
  alike_no_type t = λ j. option_and_then (λ name. alike_no_class name j) (class_in t.base)

  alike_no_class_in_pools : (body : Body) → no_class_in_pools a body ≡ no_class_in_pools b body
  alike_no_class_in_pools body =
      λ j. option_or (first_in (λ t. alike_no_type t j) body.types)
      (option_or (first_in (λ r. option_or (alike_no_type r.class j) (alike_no_type r.ty j)) body.fields)
      (first_in (λ r. option_or (alike_no_type r.class j)
      (option_or (first_in (λ t. alike_no_type t j) r.proto.params) (option_and_then (λ t. alike_no_type t j) r.proto.ret))) body.methods))

  alike_no_field : (r : FieldRef) → no_field a r ≡ no_field b r
  alike_no_field r =
      alike_by_field (λ image. field_named image r) (λ image. stripped_field_named image r)
      (λ o. when (is_none o) (kind.NoField (field_text r))) same a b alike
    where
      same : (o : Option Field) → when (is_none (option_map field_stripped o)) (kind.NoField (field_text r)) ≡ when (is_none o) (kind.NoField (field_text r))
      same None = refl
      same (Some f) = refl

  alike_no_method : (r : MethodRef) → no_method a r ≡ no_method b r
  alike_no_method r =
      alike_by_method (λ image. method_named image r) (λ image. stripped_method_named image r)
      (λ o. when (is_none o) (kind.NoMethod (method_text r))) same a b alike
    where
      same : (o : Option Method) → when (is_none (option_map method_stripped o)) (kind.NoMethod (method_text r)) ≡ when (is_none o) (kind.NoMethod (method_text r))
      same None = refl
      same (Some m) = refl

  alike_private_field : (i : ℕ) (r : FieldRef) → private_field a i r ≡ private_field b i r
  alike_private_field i r =
      alike_by_field (λ image. field_named image r) (λ image. stripped_field_named image r) said same a b alike
    where
      said : Option Field → Option LinkKind
      said o =
          elim o [
            | None ↦ None
            | Some f ↦ when (has_flag f.def.flags flag.Private && not (nat_eq f.info.class.0 i)) (kind.PrivateAccess (field_text r))
          ]

      same : (o : Option Field) → said (option_map field_stripped o) ≡ said o
      same None = refl
      same (Some f) = refl

  alike_private_method : (i : ℕ) (r : MethodRef) → private_method a i r ≡ private_method b i r
  alike_private_method i r =
      alike_by_method (λ image. method_named image r) (λ image. stripped_method_named image r) said same a b alike
    where
      said : Option Method → Option LinkKind
      said o =
          elim o [
            | None ↦ None
            | Some m ↦ when (has_flag m.def.flags flag.Private && not (nat_eq m.info.class.0 i)) (kind.PrivateAccess (method_text r))
          ]

      same : (o : Option Method) → said (option_map method_stripped o) ≡ said o
      same None = refl
      same (Some m) = refl

  pub alike_wrong_pools : (i : ℕ) (c : ClassDef) → wrong_pools a i c ≡ wrong_pools b i c
  alike_wrong_pools i c =
      λ j. option_or (first_in (λ body. alike_no_class_in_pools body j) (bodies c))
      (option_or (first_in (λ body. first_in (λ r. alike_no_field r j) body.fields) (bodies c))
      (option_or (first_in (λ body. first_in (λ r. alike_no_method r j) body.methods) (bodies c))
      (first_in (λ body. option_or (first_in (λ r. alike_private_field i r j) body.fields) (first_in (λ r. alike_private_method i r j) body.methods)) (bodies c))))

  -- ---- what pools lead to

  alike_body_at : (i : MethodInfo) → body_at a i ≡ body_at b i
  alike_body_at i = ap (λ ms. body_in (slice_get ms i.place)) (alike_methods_of a b alike i.class.0)

  alike_field_ids : (body : Body) → field_ids a body ≡ field_ids b body
  alike_field_ids body =
      map_filtered by_field (field_named a) body.fields ∙ ((λ j. filter_map (λ r. same r j) body.fields) ∙ sym (map_filtered by_field (field_named b) body.fields))
    where
      same : (r : FieldRef) → option_map by_field (field_named a r) ≡ option_map by_field (field_named b r)
      same r =
          alike_by_field (λ image. field_named image r) (λ image. stripped_field_named image r)
          (option_map by_field) kept a b alike
        where
          kept : (o : Option Field) → option_map by_field (option_map field_stripped o) ≡ option_map by_field o
          kept None = refl
          kept (Some f) = refl

  alike_method_ids : (body : Body) → method_ids a body ≡ method_ids b body
  alike_method_ids body =
      map_filtered by_method (method_named a) body.methods ∙ ((λ j. filter_map (λ r. same r j) body.methods) ∙ sym (map_filtered by_method (method_named b) body.methods))
    where
      same : (r : MethodRef) → option_map by_method (method_named a r) ≡ option_map by_method (method_named b r)
      same r =
          alike_by_method (λ image. method_named image r) (λ image. stripped_method_named image r)
          (option_map by_method) kept a b alike
        where
          kept : (o : Option Method) → option_map by_method (option_map method_stripped o) ≡ option_map by_method o
          kept None = refl
          kept (Some m) = refl

  pub alike_with_pools : (i : MethodInfo) → method_with_pools a i ≡ method_with_pools b i
  alike_with_pools i =
      λ j. elim (alike_body_at i j) as (λ _. MethodInfo) [
        | None ↦ i
        | Some body ↦ record { class = i.class; place = i.place; types = body.types; fields = alike_field_ids body j; methods = alike_method_ids body j }
      ]
