-- The object on which a constructor was called is of a class that has constructors.
use Rattle.std.proofs.Common.{◌≡◌, ℕ, zero, suc, List, [], ◌∷◌, Bool, true, false, Option, Some, None, refl, sym, ap, ◌∙◌, subst}
use Rattle.std.specs.Prelude.{All, not, if◌then◌else◌}
use Rattle.dv_defs.specs.declared.names.Ty.{Ty}
use Rattle.dv_defs.specs.Images.{Image}
use Rattle.dv_machine.specs.Value.{Value}
use Rattle.dv_machine.specs.Value as v
use Rattle.dv_machine.specs.Frame.{Frame}
use Rattle.dv_machine.specs.Kind.{Kind}
use Rattle.dv_machine.specs.Kind as kind
use Rattle.dv_machine.specs.Level.{Level}
use Rattle.dv_machine.specs.Level as level
use Rattle.dv_typing.specs.declared.typing.RegType.{RegType}
use Rattle.dv_typing.specs.declared.typing.RegType.TheVariants as ty
use Rattle.dv_typing.specs.declared.typing.RegState.{RegState}
use Rattle.dv_defs.specs.Parts.{Call}
use Rattle.dv_defs.specs.Pools.{Method, method_at, is_constructor, own_type, class_type, name_at}
use Rattle.dv_defs.specs.Order.{sub, fits}
use Rattle.dv_defs.specs.Op.{Op, Invoke, Code}
use Rattle.dv_typing.specs.Statics.{At, fetch}
use Rattle.dv_typing.specs.RegTypes.{type_at}
use Rattle.dv_typing.specs.Demands.{demands, receiver_for, is_exactly, made_at}
use Rattle.dv_typing.specs.Transfer.{out}
use Rattle.dv_typing.specs.Flow.{Leads, targets}
use Rattle.dv_machine.specs.Heap.{Heap, kind_of}
use Rattle.dv_machine.specs.State.{reg_at}
use Rattle.dv_machine.specs.Calls.{object_of}
use Rattle.dv_machine.specs.Conforming.{Conforms, IsThere, is_proper, is_string_or_class, Conform}
use Rattle.dv_machine.specs.WellTyped.{Typings, own_of, called_on, this_above, IsPlaced, StackFine}
use Rattle.dv_machine.specs.Accepted.{Accepted}
use Rattle.law_machine.specs.Returning.{IsBuilt}
use Rattle.law_types.proofs.Demanded.{demanded}
use Rattle.law_machine.proofs.lemmas.Calls.Resolved.{IsNamed, is_named}
use Rattle.std.proofs.lemmas.Bool.{eqb-true}
use Rattle.std.proofs.lemmas.Option.{same_Some}
use Rattle.law_types.proofs.Facts.{no}
use Rattle.law_machine.proofs.lemmas.Returns.Constructed.{receiver_demanded}
use Rattle.law_flow.proofs.MethodCode.{code_is}

-- what the verifier found of the instruction of a placed frame
pub record IsVerified (image : Image) (T : Typings) (m : Method) (f : Frame) (x : At) (s : RegState) : Type 0 where
  pub demand : demands image m x.op s ≡ None
  pub flows : All (Leads image (T f.method.0) (out image m f.at x.op s)) (targets x)

pub is_verified : (image : Image) (T : Typings) → Accepted image T → (heap : Heap) (this : Option ℕ) (f : Frame) (p : IsPlaced image T heap this f) (x : At) → fetch image f.method.0 f.at ≡ Some x → IsVerified image T p.method f x p.state
is_verified image T a heap this f p x e =
    let k = a.typed.each f.method.0 f.at p.state p.has_state in
    let code : Code = k.0 in
    let same : code.method ≡ p.method = same_Some _ _ (sym (code_is image f.method.0 code k.2).method ∙ p.has_method) in
    let at : k.1 ≡ x = same_Some _ _ (sym k.3 ∙ e) in
    let here : IsVerified image T code.method f k.1 p.state = record { demand = k.4.ok; flows = k.4.flows } in
    subst (λ y. IsVerified image T p.method f y p.state) at (subst (λ z. IsVerified image T z f k.1 p.state) same here)

-- where there is an object, it isn't a bare one of String or Class
abbrev pub IsProperAt : Image → Heap → ℕ → Type 0
IsProperAt image heap o = (k : Kind) → kind_of heap o ≡ Some k → is_proper image k ≡ true

module _ (image : Image) (T : Typings) (a : Accepted image T) (heap : Heap) where
  proper_class : (n c : ℕ) (g : Method) → method_at image n ≡ Some g → is_constructor g ≡ true → c ≡ g.info.class.0 → is_proper image (kind.Object (record { 0 = c })) ≡ true
  proper_class n c g e k q = ap (λ z. not (is_string_or_class (name_at image z))) q ∙ ap not (a.boot.no_bare n g e k)

  pub exactly_is : (o : Option ℕ) (c d : ℕ) → o ≡ Some c → is_exactly o d ≡ true → c ≡ d
  exactly_is None c d e q = no q
  exactly_is (Some b) c d e q = sym (same_Some b c e) ∙ eqb-true b d q

  -- the receiver of a constructor's call, where the frames below have such too
  pub receiver_proper : (this : Option ℕ) (m : Method) (n : ℕ) (g : Method) → method_at image n ≡ Some g → is_constructor g ≡ true → ((o : ℕ) → this ≡ Some o → IsProperAt image heap o) → (x : Value) (t : RegType) → Conforms image heap (own_of image this m) x t → receiver_for image m g t ≡ None → (o : ℕ) → object_of x ≡ Some o → IsProperAt image heap o
  receiver_proper this m n g e k below (v.Uninit b p) (ty.Uninit d) c q o f = λ j w.
      let site : made_at image m d ≡ Some c.1.class = subst (λ z. made_at image m z ≡ Some c.1.class) c.0 c.1.is_site in
      let class : c.1.class ≡ g.info.class.0 = exactly_is (made_at image m d) c.1.class g.info.class.0 site (demanded _ _ q) in
      let same : j ≡ kind.Object (record { 0 = c.1.class }) = same_Some _ _ (sym w ∙ ap (kind_of heap) (sym (same_Some _ _ f)) ∙ c.1.has_kind) in
      ap (is_proper image) same ∙ proper_class n c.1.class g e k class
  receiver_proper this m n g e k below (v.UninitThis p) ty.UninitThis c q o f = below o (c.is_own ∙ f)
  receiver_proper this m n g e k below x (ty.Uninit d) c q o f = absurd c
  receiver_proper this m n g e k below x ty.UninitThis c q o f = absurd c
  receiver_proper this m n g e k below x t c q o f = absurd (cc)

  receiver_kind : (this : Option ℕ) (m g : Method) (x : Value) (t : RegType) → Conforms image heap (own_of image this m) x t → receiver_for image m g t ≡ None → (o : ℕ) → object_of x ≡ Some o → (k : Kind) × (kind_of heap o ≡ Some k)
  receiver_kind this m g (v.Uninit b p) (ty.Uninit d) c q o f = (_, ap (kind_of heap) (sym (same_Some _ _ f)) ∙ c.1.has_kind)
  receiver_kind this m g (v.UninitThis p) ty.UninitThis c q o f = (_, ap (kind_of heap) (sym (same_Some _ _ f)) ∙ c.has_kind)
  receiver_kind this m g x (ty.Uninit d) c q o f = absurd c
  receiver_kind this m g x ty.UninitThis c q o f = absurd c
  receiver_kind this m g x t c q o f = absurd (cc)

  pub proper_there : (o : ℕ) (k : Kind) → kind_of heap o ≡ Some k → IsProperAt image heap o → IsThere image heap o
  proper_there zero k e p = tt
  proper_there (suc o) k e p = record { kind = k; has_kind = e; proper = p k e }

  -- the receiver's object is there
  pub receiver_there : (this : Option ℕ) (m : Method) (n : ℕ) (g : Method) → method_at image n ≡ Some g → is_constructor g ≡ true → ((o : ℕ) → this ≡ Some o → IsProperAt image heap o) → (x : Value) (t : RegType) → Conforms image heap (own_of image this m) x t → receiver_for image m g t ≡ None → (o : ℕ) → object_of x ≡ Some o → IsThere image heap o
  receiver_there this m n g e k below x t c q o f = let w = receiver_kind this m g x t c q o f in proper_there o w.0 w.1 (receiver_proper this m n g e k below x t c q o f)

  -- a frame at an invoke, by its operation
  called_proper : (this : Option ℕ) (m : Method) (f : Frame) (s : RegState) → Conform image heap (own_of image this m) f s → ((o : ℕ) → this ≡ Some o → IsProperAt image heap o) → (op : Op) (next : ℕ) → demands image m op s ≡ None → ((c : Call) (ks : List ℕ) (g : Method) → op ≡ Invoke c ks g → (n : ℕ) × (method_at image n ≡ Some g)) → (o : ℕ) → called_on f (Some (record { op = op; next = next })) ≡ Some o → IsProperAt image heap o
  called_proper this m f s h below (Invoke c (k ∷ ks) g) next d named o = by_test (is_constructor g) refl
    where
      by_test : (b : Bool) → is_constructor g ≡ b → (if b then object_of (reg_at f.regs k) else None) ≡ Some o → IsProperAt image heap o
      by_test true e q =
          let there = named c (k ∷ ks) g refl in
          receiver_proper this m there.0 g there.1 e below (reg_at f.regs k) (type_at s.regs k) (h.good.regs k) (receiver_demanded image m s c k ks g e d) o q
      by_test false e q = absurd (cc)
  called_proper this m f s h below op next d named o = λ q. absurd (cc)

  pub invoke_named : (op : Op) (c : Call) (ks : List ℕ) (g : Method) → IsNamed image op → op ≡ Invoke c ks g → (n : ℕ) × (method_at image n ≡ Some g)
  invoke_named op c ks g h e = subst (IsNamed image) e h

  -- the `this` of the frame above a stack in order
  pub this_proper : (t : ℕ) (ls : List Level) → StackFine image T heap t None ls → (o : ℕ) → this_above image ls ≡ Some o → IsProperAt image heap o
  this_proper t [] h o e = absurd (cc)
  this_proper t (level.Init c r ∷ ls) h o e = absurd (cc)
  this_proper t (level.Code f ∷ ls) h o e = at_place (fetch image f.method.0 f.at) refl e (this_proper t ls h.3)
    where
      at_place : (x : Option At) → fetch image f.method.0 f.at ≡ x → called_on f x ≡ Some o → ((p : ℕ) → this_above image ls ≡ Some p → IsProperAt image heap p) → IsProperAt image heap o
      at_place None q c below = absurd (cc)
      at_place (Some x) q c below =
          let p = h.1 in
          called_proper (this_above image ls) p.method f p.state p.conform below x.op x.next (is_verified image T a heap (this_above image ls) f p x q).demand
          (λ c ks g e. invoke_named x.op c ks g (is_named image f.method.0 f.at x q) e) o c

  -- what the type of its class takes
  exact_fits : (c : ℕ) → fits image (class_type image c) (class_type image c) ≡ true
  exact_fits c = a.order.instance_fits _ _ refl (a.order.sub_instance _ _ (a.order.same (class_type image c)))

  sub_fits : (c : ℕ) (t : Ty) → sub image (class_type image c) t ≡ true → fits image (class_type image c) t ≡ true
  sub_fits c t e = a.order.instance_fits _ _ refl (a.order.sub_instance _ _ e)

  -- the receiver's object is initialised once its constructor returned
  pub built : (this : Option ℕ) (m : Method) (n : ℕ) (g : Method) → method_at image n ≡ Some g → is_constructor g ≡ true → ((o : ℕ) → this ≡ Some o → IsProperAt image heap o) → (x : Value) (t : RegType) → Conforms image heap (own_of image this m) x t → receiver_for image m g t ≡ None → IsBuilt image heap m x
  built this m n g e k below (v.Uninit b p) (ty.Uninit d) c q = λ class site.
      let same : c.1.class ≡ class = same_Some _ _ (sym c.1.is_site ∙ site) in
      let fine = receiver_proper this m n g e k below (v.Uninit b p) (ty.Uninit d) c q p refl in
      record {
        object = record { kind = kind.Object (record { 0 = c.1.class }); has_kind = c.1.has_kind; proper = fine _ c.1.has_kind };
        fits = subst (λ z. fits image (class_type image c.1.class) (class_type image z) ≡ true) same (exact_fits c.1.class);
      }
  built this m n g e k below (v.UninitThis p) ty.UninitThis c q =
      let fine = receiver_proper this m n g e k below (v.UninitThis p) ty.UninitThis c q p refl in
      record {
        object = record { kind = kind.Object (record { 0 = c.class }); has_kind = c.has_kind; proper = fine _ c.has_kind };
        fits = sub_fits c.class (own_type image m) c.under;
      }
  built this m n g e k below x (ty.Uninit d) c q = absurd c
  built this m n g e k below x ty.UninitThis c q = absurd c
  built this m n g e k below x t c q = absurd (cc)
