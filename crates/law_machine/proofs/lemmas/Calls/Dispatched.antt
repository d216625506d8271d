-- The method on which a call lands.
use Rattle.std.proofs.Common.{◌≡◌, ℕ, suc, ◌<◌, List, [], ◌∷◌, length, Bool, true, false, Option, Some, None, refl, sym, ap, ◌∙◌, subst}
use Rattle.std.proofs.lemmas.Bool.{and_parts, and_right}
use Rattle.std.specs.Prelude.{◌&&◌, not, bytes_eq, is_some, nat_eq, if◌then◌else◌}
use Rattle.dv_defs.specs.declared.names.Proto.{Proto}
use Rattle.dv_defs.specs.declared.image.Select.{Select}
use Rattle.dv_defs.specs.declared.image.Select.TheVariants as select
use Rattle.dv_defs.specs.Images.{Image}
use Rattle.dv_defs.specs.declared.run.Named.TheVariants as named
use Rattle.dv_defs.specs.declared.run.Native.{Native}
use Rattle.dv_defs.specs.Parts.{Call}
use Rattle.dv_defs.specs.Names.{init_name, clinit_name}
use Rattle.dv_defs.specs.Types.{same_proto}
use Rattle.dv_defs.specs.Pools.{Method, method_at, is_static, is_native, is_abstract, is_constructor, own_type, class_type, name_at, parent_at, is_initialiser, initialiser, no_arguments}
use Rattle.dv_defs.specs.Order.{has_number}
use Rattle.dv_defs.specs.LookUp.{method_classes}
use Rattle.dv_defs.specs.Selecting.{selected}
use Rattle.dv_machine.specs.Heap.{Heap, kind_of}
use Rattle.dv_machine.specs.Calls.{Lands, Lacks, unless_abstract, on_method, landing, class_of_kind, selected_from, lacks_interface, by_object, dispatch, signature, native_among, all_natives, native_of}
use Rattle.dv_machine.specs.Conforming.{IsOf}
use Rattle.dv_machine.specs.WellTyped.{Typings, IsNoInitialiser}
use Rattle.dv_machine.specs.Accepted.{Accepted, IsSelected}
use Rattle.law_types.proofs.Facts.{no}
use Rattle.law_machine.proofs.lemmas.Calls.Classes.{parent_sub, above_fits, looked_up_fits}
use Rattle.law_types.proofs.Equal.{names_are}
use Rattle.law_machine.proofs.lemmas.Bridge.LookUps.{declared}
use Rattle.law_machine.proofs.lemmas.Common.Members.{class_of_method}

-- ---- initialisers

initialiser_named : (image : Image) (c : ℕ) (m : Method) → initialiser image c ≡ Some m → bytes_eq m.def.name clinit_name ≡ true
unfolding initialiser
initialiser_named image c m e =
    let own = and_parts (nat_eq m.info.class.0 c) (is_initialiser m) (declared image c is_initialiser m e).taken in
    let body = and_parts (is_static m && bytes_eq m.def.name clinit_name && same_proto m.def.proto no_arguments) (is_some m.def.body) own.1 in
    let proto = and_parts (is_static m && bytes_eq m.def.name clinit_name) (same_proto m.def.proto no_arguments) body.0 in
    (and_parts (is_static m) (bytes_eq m.def.name clinit_name) proto.0).1

pub named_otherwise : (image : Image) (m : Method) → bytes_eq m.def.name clinit_name ≡ false → IsNoInitialiser image m
named_otherwise image m e q = no (sym e ∙ initialiser_named image m.info.class.0 m q)

-- ---- a method whose name no native has

abbrev pub NoneNamed : List Native → List ℕ → Type 0
NoneNamed [] name = Unit {0}
NoneNamed (x ∷ xs) name = (bytes_eq (signature x).name name ≡ false) × NoneNamed xs name

among_none : (xs : List Native) (class name : List ℕ) → NoneNamed xs name → native_among xs class name ≡ None
among_none [] class name n = refl
among_none (x ∷ xs) class name n = ap (λ (b : Bool). elim b as (λ y. Option Native) [ true ↦ Some x | false ↦ native_among xs class name ]) (and_right _ _ n.0) ∙ among_none xs class name n.1

pub no_native : (image : Image) (m : Method) (name : List ℕ) → NoneNamed all_natives name → m.def.name ≡ name → native_of image m ≡ None
no_native image m name n e = by_flag (is_native m)
  where
    by_flag : (b : Bool) → (elim b as (λ w. Option Native) [ true ↦ native_among all_natives (name_at image m.info.class.0) m.def.name | false ↦ None ]) ≡ None
    by_flag true = ap (native_among all_natives (name_at image m.info.class.0)) e ∙ among_none all_natives (name_at image m.info.class.0) name n
    by_flag false = refl

init_named : NoneNamed all_natives init_name
init_named = (refl, (refl, (refl, (refl, (refl, (refl, (refl, (refl, (refl, (refl, (refl, (refl, (refl, (refl, tt))))))))))))))

pub constructor_not_native : (image : Image) (g : Method) → is_constructor g ≡ true → native_of image g ≡ None
constructor_not_native image g e = no_native image g init_name init_named (names_are g.def.name init_name (and_parts (not (is_static g)) (bytes_eq g.def.name init_name) e).1)

-- ---- landing

pub same_lands : (x y : Method) → Lands x ≡ Lands y → x ≡ y
same_lands x y e = cc

module _ (image : Image) (T : Typings) (a : Accepted image T) (heap : Heap) where
  pub of_instance : (m : Method) → is_static m ≡ false → IsNoInitialiser image m
  of_instance m e q = no (sym e ∙ (a.finds.initialisers m.info.class.0 m q).1)

  -- the method that an instance call lands on, and that its receiver fits
  pub record IsLanding (g k : Method) (o : ℕ) : Type 0 where
    pub there : method_at image k.id ≡ Some k
    pub same_proto : k.def.proto ≡ g.def.proto
    pub instance : is_static k ≡ false
    pub same_sort : is_constructor k ≡ is_constructor g
    pub concrete : is_abstract k ≡ false
    pub fits : IsOf image heap (suc o) (own_type image k)

  own_number : (n : ℕ) (g : Method) → method_at image n ≡ Some g → method_at image g.id ≡ Some g
  own_number n g e = subst (λ z. method_at image z ≡ Some g) (sym (a.finds.methods n g e)) e

  lands_same : (g k : Method) (b : Bool) → is_abstract g ≡ b → (if b then Lacks named.AbstractMethod else Lands g) ≡ Lands k → (is_abstract g ≡ false) × (g ≡ k)
  lands_same g k true e q = absurd (cc)
  lands_same g k false e q = (e, same_lands g k q)

  -- the method that is selected from a class
  pub selection : (c : ℕ) (name : List ℕ) (p : Proto) (k : Method) → landing image (selected image c name p) ≡ Lands k → (method_at image k.id ≡ Some k) × IsSelected image c name p k
  selection c name p k e = by_select (selected image c name p) refl e
    where
      by_select : (s : Select) → selected image c name p ≡ s → landing image s ≡ Lands k → (method_at image k.id ≡ Some k) × IsSelected image c name p k
      by_select (select.Found id) is q =
          let (m, there, selects) = a.finds.selected_is c name p id is in
          subst (λ z. (method_at image z.id ≡ Some z) × IsSelected image c name p z) (same_lands m k (ap on_method (sym there) ∙ q)) (own_number id.0 m there, selects)
      by_select select.Abstract is q = absurd (cc)
      by_select select.Clash is q = absurd (cc)

  module _ (g : Method) (n : ℕ) (there : method_at image n ≡ Some g) (static : is_static g ≡ false) where
    -- the method itself
    same_landing : (k : Method) (o : ℕ) → IsOf image heap (suc o) (own_type image g) → unless_abstract g ≡ Lands k → IsLanding g k o
    same_landing k o f e =
        let q = lands_same g k (is_abstract g) refl e in
        subst (λ z. IsLanding g z o) q.1 (record { there = own_number n g there; same_proto = refl; instance = static; same_sort = refl; concrete = q.0; fits = f })

    -- one that is selected
    selected_landing : (c : Option ℕ) (k : Method) (o : ℕ) → ((b d : ℕ) → c ≡ Some b → d < length image.classes → has_number d (method_classes image b) ≡ true → IsOf image heap (suc o) (class_type image d)) → selected_from image c g.def.name g.def.proto ≡ Lands k → IsLanding g k o
    selected_landing None k o f e = absurd (cc)
    selected_landing (Some c) k o f e =
        let (own, is) = selection c g.def.name g.def.proto k e in
        record {
          there = own;
          same_proto = is.proto;
          instance = is.instance;
          same_sort = ap (λ b. not b && bytes_eq k.def.name init_name) (is.instance ∙ sym static) ∙ ap (λ b. not (is_static g) && bytes_eq b init_name) is.named;
          concrete = is.concrete;
          fits = f c k.info.class.0 refl (class_of_method image k.id k own) is.among;
        }

    object_landing : (k : Method) (o : ℕ) → IsOf image heap (suc o) (own_type image g) → by_object image heap g (suc o) ≡ Lands k → IsLanding g k o
    object_landing k o f e = by_test (lacks_interface image heap g (suc o)) e
      where
        by_test : (b : Bool) → (if b then Lacks named.ClassChange else selected_from image (class_of_kind image (kind_of heap (suc o))) g.def.name g.def.proto) ≡ Lands k → IsLanding g k o
        by_test true e = absurd (cc)
        by_test false e = selected_landing (class_of_kind image (kind_of heap (suc o))) k o (λ b d q l r. looked_up_fits image T a heap (suc o) (own_type image g) b d refl f q l r) e

    super_landing : (own : Method) (k : Method) (o : ℕ) → own.info.class.0 < length image.classes → IsOf image heap (suc o) (own_type image own) → selected_from image (parent_at image own.info.class.0) g.def.name g.def.proto ≡ Lands k → IsLanding g k o
    super_landing own k o i f e = selected_landing (parent_at image own.info.class.0) k o
        (λ p d q l r. record { object = f.object; fits = above_fits image T a _ p d (a.order.fits_up _ _ _ f.fits (parent_sub image T a own.info.class.0 p i q)) l r }) e

    -- each sort of call on an object
    pub landing_is : (own : Method) (c : Call) (k : Method) (o : ℕ) → own.info.class.0 < length image.classes → IsOf image heap (suc o) (own_type image g) → (c ≡ Call.Super → IsOf image heap (suc o) (own_type image own)) → dispatch image heap own c g (suc o) ≡ Lands k → IsLanding g k o
    unfolding dispatch
    landing_is own Call.Static k o i f u e = same_landing k o f e
    landing_is own Call.Direct k o i f u e = same_landing k o f e
    landing_is own Call.Super k o i f u e = super_landing own k o i (u refl) e
    landing_is own Call.Virtual k o i f u e = object_landing k o f e
    landing_is own Call.Interface k o i f u e = object_landing k o f e
