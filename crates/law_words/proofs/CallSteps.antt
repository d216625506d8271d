-- Invokes and returns on words go where the tagged machine's go.
use Rattle.std.proofs.Common.{◌≡◌, ℕ, suc, ◌+◌, Bool, true, false, not, ◌&&◌, Option, Some, None, Ok, Err, List, [], ◌∷◌, length, map, refl, sym, ap, ◌∙◌, subst, arith}
use Rattle.std.specs.Prelude.{if◌then◌else◌, nat_eq}
use Rattle.std.proofs.lemmas.List.Elements.{All-cons, All-nil}
use Rattle.dv_machine.specs.Frame as tagged_frame
use Rattle.dv_machine.specs.Level as tagged_level
use Rattle.dv_machine.specs.Pending.{Pending}
use Rattle.dv_machine.specs.Pending as pending
use Rattle.dv_defs.specs.declared.names.MethodId.{MethodId}
use Rattle.dv_defs.specs.declared.image.Select.{Select}
use Rattle.dv_defs.specs.declared.image.Select.TheVariants as select
use Rattle.dv_defs.specs.declared.names.Ty.{Ty}
use Rattle.dv_defs.specs.declared.run.Named.TheVariants as named
use Rattle.dv_defs.specs.declared.run.Native.{Native}
use Rattle.dv_defs.specs.declared.run.Native.TheVariants as native
use Rattle.dv_machine.specs.Value.{Value}
use Rattle.dv_machine.specs.Value as v
use Rattle.dv_machine.specs.Why as why
use Rattle.dv_typing.specs.Demands.{is_own_or_super, is_void, result_width, same_width}
use Rattle.dv_machine.specs.Heap as tagged
use Rattle.dv_machine.specs.Heap.{Heap}
use Rattle.dv_defs.specs.Images.{Image}
use Rattle.dv_defs.specs.Order.{instance}
use Rattle.dv_defs.specs.Selecting.{selected}
use Rattle.dv_defs.specs.Parts.{Call, Width}
use Rattle.dv_defs.specs.Pools.{Method, is_abstract, is_constructor, is_interface, is_of_object, is_static, method_at, own_type, parent_at}
use Rattle.dv_typing.specs.Statics as statics
use Rattle.dv_typing.specs.Statics.{arg_words, fetch}
use Rattle.dv_defs.specs.Types.{is_long, words_of_all}
use Rattle.dv_machine.specs.Accepted.{FindsRightly}
use Rattle.dv_machine.specs.Calls as machine
use Rattle.dv_machine.specs.Calls.{Landing, Lacks, Lands, native_of, selected_from, signature, unless_abstract}
use Rattle.dv_machine.specs.Natives as natives
use Rattle.dv_machine.specs.Natives.{object_number}
use Rattle.dv_machine.specs.State.{Did, Here, Left, Throws, reading, reg_at}
use Rattle.dv_machine.specs.State as tagged_state
use Rattle.dv_words.specs.declared.state.Frame.{Frame}
use Rattle.dv_words.specs.declared.state.Kept.{Kept}
use Rattle.dv_words.specs.declared.state.Kept.TheVariants as kept
use Rattle.dv_words.specs.declared.state.Level.{Level}
use Rattle.dv_words.specs.declared.state.Level.TheVariants as level
use Rattle.dv_words.specs.Heaps as words
use Rattle.dv_words.specs.Stacks as stacks
use Rattle.dv_words.specs.Standing.{AllFit, AreWords, Fits, FrameStands, IsResult, IsWord, LevelsStand}
use Rattle.dv_words.specs.Calls as over
use Rattle.dv_words.specs.Local.{reg_word}
use Rattle.dv_words.specs.Mem.{type_of}
use Rattle.law_words.specs.StepLaws.{AtStands, ImageFits, OutcomeStands}
use Rattle.dv_words.specs.Steps as steps
use Rattle.dv_words.specs.Threads.{class_of_kind}
use Rattle.law_words.proofs.Arguments.{AreOf, Arguments, RefFits, WhereRead, args_read, ref_read, result_stands, then_stands, value_read}
use Rattle.law_words.proofs.LocalSteps.{word_fits}
use Rattle.law_words.proofs.NativeSteps.{ArgumentsAre, IsReference, native_stands, object_is as object_word}
use Rattle.law_words.proofs.Objects.{type_is}
use Rattle.law_words.proofs.Outcomes.{left_stands, on_object_alike, pushed_stands}
use Rattle.law_words.proofs.Registers.{is_word_at}
use Rattle.law_words.proofs.ThreadSteps.{class_is, entered_stands}

-- ---- the methods that calls land on

-- it is a method of the image, with this prototype, static or not
pub record Landed (image : Image) (g m : Method) (static : Bool) : Type 0 where
  pub there : method_at image m.id ≡ Some m
  pub proto : m.def.proto ≡ g.def.proto
  pub same_static : is_static m ≡ static

abbrev LandsOn : Image → Method → Bool → Landing → Type 0
LandsOn image g static (Lands m) = Landed image g m static
LandsOn image g static (Lacks n) = Unit {0}

lands_itself : (image : Image) (g : Method) (b : Bool) → method_at image g.id ≡ Some g → is_static g ≡ b → LandsOn image g b (unless_abstract g)
lands_itself image g b there is = by (is_abstract g)
  where
    by : (a : Bool) → LandsOn image g b (if a then Lacks named.AbstractMethod else Lands g)
    by true = tt
    by false = record { there = there; proto = refl; same_static = is }

lands_selected : (image : Image) (g : Method) (c : Option ℕ) → FindsRightly image → LandsOn image g false (selected_from image c g.def.name g.def.proto)
lands_selected image g None finds = tt
lands_selected image g (Some c) finds = by (selected image c g.def.name g.def.proto) refl
  where
    by : (s : Select) → selected image c g.def.name g.def.proto ≡ s → LandsOn image g false (machine.landing image s)
    by (select.Found id) is =
        let (m, there, good) = finds.selected_is c g.def.name g.def.proto id is in
        let own : method_at image m.id ≡ Some m = ap (method_at image) (finds.methods id.0 m there) ∙ there in
        let landed : Landed image g m false = record { there = own; proto = good.proto; same_static = good.instance } in
        subst (λ (o : Option Method). LandsOn image g false (machine.on_method o)) (sym there) landed
    by select.Abstract is = tt
    by select.Clash is = tt

-- ---- natives

-- the arguments of a native by its declared parameters; the receiver of one that isn't static goes before them
module _ (w : steps.At) (h : Here) (stands : AtStands w h) where
  instance_arguments : (k : Native) (x : Value) (xs : List Value) → (signature k).is_static ≡ false → IsReference x → AreOf h.image h.shared.heap (signature k).proto.params xs → ArgumentsAre w h stands k (x ∷ xs)
  instance_arguments native.Wait x xs s ref are = ref
  instance_arguments native.Notify x xs s ref are = ref
  instance_arguments native.NotifyAll x xs s ref are = ref
  instance_arguments native.Start x xs s ref are = ref
  instance_arguments native.Join x xs s ref are = ref
  instance_arguments native.CurrentThread x xs s ref are = tt
  instance_arguments native.Length x xs s ref are = ref
  instance_arguments native.CharAt x (y ∷ ys) s ref are = (ref, are.0)
  instance_arguments native.CharAt x [] s ref are = absurd are
  instance_arguments native.Equals x (y ∷ ys) s ref are = (ref, are.0.reference)
  instance_arguments native.Equals x [] s ref are = absurd are
  instance_arguments native.Concat x (y ∷ ys) s ref are = (ref, are.0.reference)
  instance_arguments native.Concat x [] s ref are = absurd are
  instance_arguments native.OfLong x xs s ref are = absurd (cc)
  instance_arguments native.OfChars x xs s ref are = absurd (cc)
  instance_arguments native.Print x xs s ref are = absurd (cc)
  instance_arguments native.Println x xs s ref are = absurd (cc)

  static_arguments : (k : Native) (xs : List Value) → (signature k).is_static ≡ true → AreOf h.image h.shared.heap (signature k).proto.params xs → ArgumentsAre w h stands k xs
  static_arguments native.CurrentThread xs s are = tt
  static_arguments native.OfLong (x ∷ y ∷ xs) s are = (are.0, are.1)
  static_arguments native.OfLong (x ∷ []) s are = absurd are
  static_arguments native.OfLong [] s are = absurd are
  static_arguments native.OfChars (x ∷ y ∷ z ∷ xs) s are = (are.0.reference, are.1.0, are.1.1.0, are.0.fitting)
  static_arguments native.OfChars (x ∷ y ∷ []) s are = absurd are.1.1
  static_arguments native.OfChars (x ∷ []) s are = absurd are.1
  static_arguments native.OfChars [] s are = absurd are
  static_arguments native.Print (x ∷ xs) s are = are.0.reference
  static_arguments native.Print [] s are = absurd are
  static_arguments native.Println (x ∷ xs) s are = are.0
  static_arguments native.Println [] s are = absurd are
  static_arguments native.Wait xs s are = absurd (cc)
  static_arguments native.Notify xs s are = absurd (cc)
  static_arguments native.NotifyAll xs s are = absurd (cc)
  static_arguments native.Start xs s are = absurd (cc)
  static_arguments native.Join xs s are = absurd (cc)
  static_arguments native.Length xs s are = absurd (cc)
  static_arguments native.CharAt xs s are = absurd (cc)
  static_arguments native.Equals xs s are = absurd (cc)
  static_arguments native.Concat xs s are = absurd (cc)

  -- ---- landing

  -- a call's frame, as it is entered
  enters : (m : Method) (ws : List ℕ) (xs : List Value) (p : Bool) → AreWords ws xs → OutcomeStands (over.enter w m ws) (machine.enter h m xs p)
  enters m ws xs p are =
      pushed_stands w h stands w.shared h.shared (level.Code (over.entered_frame m ws)) (tagged_level.Code (machine.entered_frame m xs p)) (level.Code w.frame ∷ w.rest) (tagged_level.Code h.frame ∷ h.rest)
      stands.shared (entered_stands m ws xs p are) (stands.frame, stands.rest) stands.bounded

  lands_by : (m : Method) (ws : List ℕ) (xs : List Value) (o : Option Native) → AllFit ws → AreWords ws xs → ((k : Native) → o ≡ Some k → ArgumentsAre w h stands k xs) → OutcomeStands (over.landed_on w m ws o) (machine.landed_on h (natives.native_step h) m xs o)
  lands_by m ws xs None fits are arguments = enters m ws xs false are
  lands_by m ws xs (Some k) fits are arguments = native_stands w h stands k ws xs fits are (arguments k refl)

  landed_stands : (l : Landing) (ws : List ℕ) (xs : List Value) → AllFit ws → AreWords ws xs → ((m : Method) (k : Native) → l ≡ Lands m → native_of h.image m ≡ Some k → ArgumentsAre w h stands k xs) → OutcomeStands (over.landed w l ws) (machine.landed h (natives.native_step h) l xs)
  landed_stands (Lacks n) ws xs fits are arguments = refl
  landed_stands (Lands m) ws xs fits are arguments =
      subst (λ i. OutcomeStands (over.landed_on w m ws (native_of i m)) (machine.landed_on h (natives.native_step h) m xs (native_of h.image m))) (sym stands.image)
      (lands_by m ws xs (native_of h.image m) fits are (λ k is. arguments m k refl is))

  words_fit : (ks : List ℕ) → AllFit (map (reg_word w.frame) ks)
  words_fit [] = All-nil Fits
  words_fit (k ∷ ks) = All-cons Fits _ _ (word_fits w.frame.regs k stands.frame_fits.0) (words_fit ks)

  is_at : (k : ℕ) → IsWord (reg_word w.frame k) (reg_at h.frame.regs k)
  is_at k = is_word_at w.frame.regs h.frame.regs k stands.frame.regs

  -- a landed native has the prototype by which the arguments were read
  native_static : (g m : Method) (k : Native) (xs : List Value) → ImageFits h.image → Landed h.image g m true → native_of h.image m ≡ Some k → AreOf h.image h.shared.heap g.def.proto.params xs → ArgumentsAre w h stands k xs
  native_static g m k xs fits landed is are =
      let declared = fits.bodies.native m.id m k landed.there is in
      let same = sym landed.proto ∙ declared.0 in
      static_arguments k xs (sym declared.1 ∙ landed.same_static) (subst (λ p. AreOf h.image h.shared.heap p.params xs) same are)

  native_instance : (g m : Method) (k : Native) (x : Value) (xs : List Value) → ImageFits h.image → Landed h.image g m false → native_of h.image m ≡ Some k → IsReference x → AreOf h.image h.shared.heap g.def.proto.params xs → ArgumentsAre w h stands k (x ∷ xs)
  native_instance g m k x xs fits landed is ref are =
      let declared = fits.bodies.native m.id m k landed.there is in
      let same = sym landed.proto ∙ declared.0 in
      instance_arguments k x xs (sym declared.1 ∙ landed.same_static) ref (subst (λ p. AreOf h.image h.shared.heap p.params xs) same are)

  lands_on : (g : Method) (b : Bool) (l : Landing) (m : Method) → LandsOn h.image g b l → l ≡ Lands m → Landed h.image g m b
  lands_on g b (Lands n) m on is = let e : n ≡ m = cc in subst (λ o. Landed h.image g o b) e on
  lands_on g b (Lacks n) m on is = absurd (cc)

  -- ---- static methods

  count_static : (g : Method) (ks : List ℕ) → is_static g ≡ true → length ks ≡ arg_words g → length ks ≡ words_of_all g.def.proto.params
  count_static g ks is count =
      let none : statics.receiver_words g ≡ 0 = ap (λ (b : Bool). elim b [ true ↦ 0 | false ↦ 1 ]) is in
      let all : arg_words g ≡ statics.receiver_words g + words_of_all g.def.proto.params = refl in
      omega (arith, count, none, all)

  static_call : (g : Method) (ks : List ℕ) → ImageFits h.image → length ks ≡ arg_words g → method_at h.image g.id ≡ Some g → is_static g ≡ true →
      OutcomeStands (over.landed w (unless_abstract g) (map (reg_word w.frame) ks)) (reading (tagged_state.read_args h.image h.shared.heap h.frame.regs g.def.proto.params ks) (machine.landed h (natives.native_step h) (unless_abstract g)))
  static_call g ks fits count there is =
      let ws = map (reg_word w.frame) ks in
      then_stands _ (over.landed w (unless_abstract g) ws) _ (machine.landed h (natives.native_step h) (unless_abstract g)) (args_read w.frame h.frame.regs is_at h.image h.shared.heap g.def.proto.params ks (count_static g ks is count))
      (λ xs read. landed_stands (unless_abstract g) ws xs (words_fit ks) read.0
      (λ m k lands native. native_static g m k xs fits (lands_on g true (unless_abstract g) m (lands_itself h.image g true there is) lands) native read.1))

  -- ---- calls on objects

  implements_is : (g : Method) (o : ℕ) → over.implements_it w.image w.shared.heap g o ≡ machine.implements_it h.image h.shared.heap g o
  implements_is g o = ap (λ i. instance i (type_of i w.shared.heap o) (own_type i g)) stands.image ∙ ap (λ t. instance h.image t (own_type h.image g)) (type_is h.image w.shared.heap h.shared.heap o stands.shared.heap)

  lacks_is : (g : Method) (o : ℕ) → over.lacks_interface w.image w.shared.heap g o ≡ machine.lacks_interface h.image h.shared.heap g o
  lacks_is g o =
      ap (λ i. is_interface i g.info.class.0 && not (over.implements_it w.image w.shared.heap g o)) stands.image ∙
      ap (λ b. is_interface h.image g.info.class.0 && not b) (implements_is g o)

  selected_alike : (g : Method) (o : ℕ) → selected_from w.image (class_of_kind w.image (words.kind_of w.shared.heap o)) g.def.name g.def.proto ≡ selected_from h.image (machine.class_of_kind h.image (tagged.kind_of h.shared.heap o)) g.def.name g.def.proto
  selected_alike g o =
      ap (λ i. selected_from i (class_of_kind w.image (words.kind_of w.shared.heap o)) g.def.name g.def.proto) stands.image ∙
      ap (λ c. selected_from h.image c g.def.name g.def.proto) (class_is w h stands o)

  object_alike : (g : Method) (o : ℕ) → over.by_object w.image w.shared.heap g o ≡ machine.by_object h.image h.shared.heap g o
  object_alike g o =
      ap (λ b. if b then Lacks named.ClassChange else selected_from w.image (class_of_kind w.image (words.kind_of w.shared.heap o)) g.def.name g.def.proto) (lacks_is g o) ∙
      ap (λ l. if machine.lacks_interface h.image h.shared.heap g o then Lacks named.ClassChange else l) (selected_alike g o)

  dispatch_is : (c : Call) (g : Method) (o : ℕ) → over.dispatch w.image w.shared.heap w.own c g o ≡ machine.dispatch h.image h.shared.heap h.own c g o
  unfolding machine.dispatch
  dispatch_is Call.Static g o = refl
  dispatch_is Call.Direct g o = refl
  dispatch_is Call.Super g o =
      ap (λ i. selected_from i (parent_at i w.own.info.class.0) g.def.name g.def.proto) stands.image ∙
      ap (λ (m : Method). selected_from h.image (parent_at h.image m.info.class.0) g.def.name g.def.proto) stands.own
  dispatch_is Call.Virtual g o = object_alike g o
  dispatch_is Call.Interface g o = object_alike g o

  lands_by_object : (g : Method) (o : ℕ) → FindsRightly h.image → LandsOn h.image g false (machine.by_object h.image h.shared.heap g o)
  lands_by_object g o finds = by (machine.lacks_interface h.image h.shared.heap g o)
    where
      by : (b : Bool) → LandsOn h.image g false (if b then Lacks named.ClassChange else selected_from h.image (machine.class_of_kind h.image (tagged.kind_of h.shared.heap o)) g.def.name g.def.proto)
      by true = tt
      by false = lands_selected h.image g (machine.class_of_kind h.image (tagged.kind_of h.shared.heap o)) finds

  lands_dispatched : (c : Call) (g : Method) (o : ℕ) → FindsRightly h.image → method_at h.image g.id ≡ Some g → is_static g ≡ false → LandsOn h.image g false (machine.dispatch h.image h.shared.heap h.own c g o)
  unfolding machine.dispatch
  lands_dispatched Call.Static g o finds there is = lands_itself h.image g false there is
  lands_dispatched Call.Direct g o finds there is = lands_itself h.image g false there is
  lands_dispatched Call.Super g o finds there is = lands_selected h.image g (parent_at h.image h.own.info.class.0) finds
  lands_dispatched Call.Virtual g o finds there is = lands_by_object g o finds
  lands_dispatched Call.Interface g o finds there is = lands_by_object g o finds

  count_instance : (g : Method) (k : ℕ) (ks : List ℕ) → is_static g ≡ false → length (k ∷ ks) ≡ arg_words g → length ks ≡ words_of_all g.def.proto.params
  count_instance g k ks is count =
      let one : statics.receiver_words g ≡ 1 = ap (λ (b : Bool). elim b [ true ↦ 0 | false ↦ 1 ]) is in
      let all : arg_words g ≡ statics.receiver_words g + words_of_all g.def.proto.params = refl in
      omega (arith, count, one, all)

  object_call : (c : Call) (g : Method) (k : ℕ) (ks : List ℕ) → ImageFits h.image → length (k ∷ ks) ≡ arg_words g → method_at h.image g.id ≡ Some g → is_static g ≡ false →
      OutcomeStands (over.call_instance w c g (map (reg_word w.frame) (k ∷ ks)) (reg_word w.frame k)) (machine.call_instance h (natives.native_step h) c g (reg_at h.frame.regs k) ks)
  object_call c g k ks fits count there is =
      let x = reg_at h.frame.regs k in
      let ws = map (reg_word w.frame) (k ∷ ks) in
      let d = over.call_instance w c g ws (reg_word w.frame k) in
      then_stands (λ o. (o ≡ object_number x) × RefFits h.image h.shared.heap (own_type h.image g) x) d (tagged_state.read_ref h.image h.shared.heap (own_type h.image g) x) _ (ref_read h.image h.shared.heap (own_type h.image g) x)
      (λ o ref. then_stands (λ p. Unit {0}) d (machine.read_super h c x) _ (whatever (machine.read_super h c x))
      (λ p t. then_stands (Arguments w.frame h.frame.regs is_at h.image h.shared.heap g.def.proto.params ks) d (tagged_state.read_args h.image h.shared.heap h.frame.regs g.def.proto.params ks) _ (args_read w.frame h.frame.regs is_at h.image h.shared.heap g.def.proto.params ks (count_instance g k ks is count))
      (λ xs read.
      let word : reg_word w.frame k ≡ o = object_word (reg_word w.frame k) x ref.1.reference (is_at k) ∙ sym ref.0 in
      on_object_alike (reg_word w.frame k) o (λ q. over.landed w (over.dispatch w.image w.shared.heap w.own c g q) ws) (machine.call_object h (natives.native_step h) c g x xs) word
      (λ q e. subst (λ l. OutcomeStands (over.landed w l ws) (machine.call_object h (natives.native_step h) c g x xs (suc q))) (sym (dispatch_is c g (suc q)))
      (landed_stands (machine.dispatch h.image h.shared.heap h.own c g (suc q)) ws (x ∷ xs) (words_fit (k ∷ ks)) (is_at k, read.0)
      (λ m n lands native. native_instance g m n x xs fits (lands_on g false (machine.dispatch h.image h.shared.heap h.own c g (suc q)) m (lands_dispatched c g (suc q) fits.finds there is) lands) native ref.1.reference read.1))))))
    where
      whatever : {A : Type 0} (r : tagged_state.Reads A) → WhereRead r (λ p. Unit {0})
      whatever (Ok p) = tt
      whatever (Err y) = tt

  -- ---- constructors

  fresh_read : (b : Bool) (o : ℕ) → WhereRead (machine.where_fresh b o) (λ p. p ≡ o)
  fresh_read true o = refl
  fresh_read false o = tt

  new_read : (g : Method) (x : Value) (u : ℕ) → IsWord u x → WhereRead (machine.read_new h.image h.shared.heap h.own g x) (λ o. u ≡ o)
  new_read g (v.Uninit a o) u is = next (machine.is_made_of (tagged.kind_of h.shared.heap o) g.info.class.0)
    where
      next : (b : Bool) → WhereRead (machine.where_fresh b o) (λ p. u ≡ p)
      next true = is
      next false = tt
  new_read g (v.UninitThis o) u is = next (is_own_or_super h.image h.own g.info.class.0)
    where
      next : (b : Bool) → WhereRead (machine.where_fresh b o) (λ p. u ≡ p)
      next true = is
      next false = tt
  new_read g x u is = tt

  constructs : (g : Method) (u o : ℕ) (ws : List ℕ) (xs : List Value) → u ≡ o → AreWords ws xs → OutcomeStands (over.construct w g (u ∷ ws)) (machine.construct h g o xs)
  constructs g u o ws xs same are = by (is_abstract g) (is_of_object h.image g)
    where
      by : (a b : Bool) → OutcomeStands (if a then Throws named.AbstractMethod else over.enter w g (u ∷ ws)) (if a then Throws named.AbstractMethod else (if b then machine.enter h g (v.Ref o ∷ xs) false else machine.enter h g (v.UninitThis o ∷ xs) true))
      by true b = refl
      by false true = enters g (u ∷ ws) (v.Ref o ∷ xs) false (same, are)
      by false false = enters g (u ∷ ws) (v.UninitThis o ∷ xs) true (same, are)

  constructor_call : (g : Method) (k : ℕ) (ks : List ℕ) → length (k ∷ ks) ≡ arg_words g → is_static g ≡ false →
      OutcomeStands (over.construct w g (map (reg_word w.frame) (k ∷ ks))) (machine.call_constructor h g (reg_at h.frame.regs k) ks)
  constructor_call g k ks count is =
      let ws = map (reg_word w.frame) ks in
      let d = over.construct w g (reg_word w.frame k ∷ ws) in
      then_stands _ d _ _ (new_read g (reg_at h.frame.regs k) (reg_word w.frame k) (is_at k))
      (λ o same. then_stands (Arguments w.frame h.frame.regs is_at h.image h.shared.heap g.def.proto.params ks) d (tagged_state.read_args h.image h.shared.heap h.frame.regs g.def.proto.params ks) (machine.construct h g o) (args_read w.frame h.frame.regs is_at h.image h.shared.heap g.def.proto.params ks (count_instance g k ks is count))
      (λ xs read. constructs g (reg_word w.frame k) o ws xs same read.0))

  -- ---- invokes

  receiver_by : (b : Bool) (c : Call) (g : Method) (k : ℕ) (ks : List ℕ) → ImageFits h.image → length (k ∷ ks) ≡ arg_words g → method_at h.image g.id ≡ Some g → is_static g ≡ false →
      OutcomeStands (if b then over.construct w g (map (reg_word w.frame) (k ∷ ks)) else over.call_instance w c g (map (reg_word w.frame) (k ∷ ks)) (reg_word w.frame k))
      (elim b [ true ↦ machine.call_constructor h g (reg_at h.frame.regs k) ks | false ↦ machine.call_instance h (natives.native_step h) c g (reg_at h.frame.regs k) ks ])
  receiver_by true c g k ks fits count there is = constructor_call g k ks count is
  receiver_by false c g k ks fits count there is = object_call c g k ks fits count there is

  with_receiver_stands : (c : Call) (g : Method) (ks : List ℕ) → ImageFits h.image → length ks ≡ arg_words g → method_at h.image g.id ≡ Some g → is_static g ≡ false →
      OutcomeStands (over.with_receiver w c g (map (reg_word w.frame) ks)) (machine.with_receiver h (natives.native_step h) c g ks)
  with_receiver_stands c g [] fits count there is = tt
  with_receiver_stands c g (k ∷ ks) fits count there is = receiver_by (is_constructor g) c g k ks fits count there is

  invoke_by : (b : Bool) (c : Call) (ks : List ℕ) (g : Method) → is_static g ≡ b → ImageFits h.image → length ks ≡ arg_words g → method_at h.image g.id ≡ Some g →
      OutcomeStands (if b then over.landed w (unless_abstract g) (map (reg_word w.frame) ks) else over.with_receiver w c g (map (reg_word w.frame) ks))
      (elim b [ true ↦ reading (tagged_state.read_args h.image h.shared.heap h.frame.regs g.def.proto.params ks) (machine.landed h (natives.native_step h) (unless_abstract g)) | false ↦ machine.with_receiver h (natives.native_step h) c g ks ])
  invoke_by true c ks g is fits count there = static_call g ks fits count there is
  invoke_by false c ks g is fits count there = with_receiver_stands c g ks fits count there is

  pub invoke_stands : (c : Call) (ks : List ℕ) (g : Method) → ImageFits h.image → length ks ≡ arg_words g → method_at h.image g.id ≡ Some g → OutcomeStands (over.invoke w c ks g) (machine.invoke h (natives.native_step h) c ks g)
  invoke_stands c ks g fits count there = invoke_by (is_static g) c ks g refl fits count there

  -- ---- returns

  initialised_word : (o u : ℕ) (x : Value) → IsWord u x → IsWord u (machine.initialised o x)
  initialised_word o u (v.Uninit a p) is = by (nat_eq o p)
    where
      by : (b : Bool) → IsWord u (if b then v.Ref p else v.Uninit a p)
      by true = is
      by false = is
  initialised_word o u (v.UninitThis p) is = by (nat_eq o p)
    where
      by : (b : Bool) → IsWord u (if b then v.Ref p else v.UninitThis p)
      by true = is
      by false = is
  initialised_word o u x is = is

  initialised_words : (o : ℕ) (ws : List ℕ) (xs : List Value) → AreWords ws xs → AreWords ws (map (machine.initialised o) xs)
  initialised_words o [] [] are = tt
  initialised_words o [] (x ∷ xs) are = absurd are
  initialised_words o (u ∷ ws) [] are = absurd are
  initialised_words o (u ∷ ws) (x ∷ xs) are = (initialised_word o u x are.0, initialised_words o ws xs are.1)

  initialised_by : (x : Value) (o : Option ℕ) (ws : List ℕ) (xs : List Value) → AreWords ws xs → AreWords ws (machine.initialised_in x o xs)
  initialised_by x None ws xs are = are
  initialised_by x (Some o) ws xs are = initialised_words o ws xs are

  constructed_by : (s : Frame) (g : tagged_frame.Frame) (k : Kept) (p : Pending) (next : ℕ) (r : Option ℕ) → FrameStands s g → IsResult k p → FrameStands (stacks.given (stacks.gone s next) k) (machine.constructed_at g next p r)
  constructed_by s g k p next None frame is = record { method = frame.method; at = refl; regs = frame.regs; result = is; caught = refl }
  constructed_by s g k p next (Some r) frame is = record { method = frame.method; at = refl; regs = initialised_by (reg_at g.regs r) (machine.object_of (reg_at g.regs r)) s.regs g.regs frame.regs; result = is; caught = refl }

  returned_by : (b : Bool) (s : Frame) (g : tagged_frame.Frame) (k : Kept) (p : Pending) (x : statics.At) → FrameStands s g → IsResult k p → FrameStands (stacks.given (stacks.gone s x.next) k) (machine.returned b g x p)
  returned_by true s g k p x frame is = constructed_by s g k p x.next (machine.receiver_of x.op) frame is
  returned_by false s g k p x frame is = record { method = frame.method; at = refl; regs = frame.regs; result = is; caught = refl }

  back_to_stands : (s : Frame) (g : tagged_frame.Frame) (k : Kept) (p : Pending) (ss : List Level) (ls : List tagged_level.Level) (x : Option statics.At) → FrameStands s g → LevelsStand ss ls → IsResult k p → OutcomeStands (over.back_to w k s ss x) (machine.back_to h p g ls x)
  back_to_stands s g k p ss ls None frame rest is = tt
  back_to_stands s g k p ss ls (Some x) frame rest is = left_stands w.shared h.shared (level.Code (stacks.given (stacks.gone s x.next) k) ∷ ss) (tagged_level.Code (machine.returned (is_constructor h.own) g x p) ∷ ls) stands.shared (returned_by (is_constructor h.own) s g k p x frame is, rest) stands.bounded

  back_on_stands : (k : Kept) (p : Pending) (ss : List Level) (ls : List tagged_level.Level) → LevelsStand ss ls → IsResult k p → OutcomeStands (over.back_on w k ss) (machine.back_on h p ls)
  back_on_stands k p [] [] all is = left_stands w.shared h.shared [] [] stands.shared tt stands.bounded
  back_on_stands k p [] (l ∷ ls) all is = absurd all
  back_on_stands k p (s ∷ ss) [] all is = absurd all
  back_on_stands k p (level.Init c r ∷ ss) (tagged_level.Init d q ∷ ls) all is = left_stands w.shared h.shared (level.Init c r ∷ ss) (tagged_level.Init d q ∷ ls) stands.shared all stands.bounded
  back_on_stands k p (level.Init c r ∷ ss) (tagged_level.Code g ∷ ls) all is = absurd all.0
  back_on_stands k p (level.Code s ∷ ss) (tagged_level.Init d q ∷ ls) all is = absurd all.0
  back_on_stands k p (level.Code s ∷ ss) (tagged_level.Code g ∷ ls) all is =
      let frame : FrameStands s g = all.0 in
      let same : fetch w.image s.method.0 s.at ≡ fetch h.image g.method.0 g.at =
      ap (λ i. fetch i s.method.0 s.at) stands.image ∙ ap (λ (m : MethodId). fetch h.image m.0 s.at) frame.method ∙ ap (fetch h.image g.method.0) frame.at in
      subst (λ x. OutcomeStands (over.back_to w k s ss x) (machine.back_to h p g ls (fetch h.image g.method.0 g.at))) (sym same)
      (back_to_stands s g k p ss ls (fetch h.image g.method.0 g.at) frame all.1 is)

  back_stands : (k : Kept) (p : Pending) → IsResult k p → OutcomeStands (over.back w k) (machine.back h p)
  back_stands k p is = back_on_stands k p w.rest h.rest stands.rest is

  unless_alike : (d : Did steps.Left) (e : Did Left) → OutcomeStands d e → OutcomeStands d (machine.unless_pending h e)
  unless_alike d e s = by (is_constructor h.own && h.frame.this_pending)
    where
      by : (b : Bool) → OutcomeStands d (if b then tagged_state.IsStuck why.Uninitialised else e)
      by true = tt
      by false = s

  pub return_void_stands : OutcomeStands (over.return_void w) (machine.return_void h)
  return_void_stands = by (is_void h.own.def.proto.ret)
    where
      by : (b : Bool) → OutcomeStands (over.return_void w) (if b then machine.unless_pending h (machine.back h pending.None) else tagged_state.IsStuck why.Result)
      by true = unless_alike (over.return_void w) (machine.back h pending.None) (back_stands kept.None pending.None tt)
      by false = tt

  value_returned : (a : ℕ) (r : Option Ty) → OutcomeStands (over.back w (over.kept_at w.frame a (over.is_wide r))) (machine.return_value h a r)
  value_returned a None = tt
  value_returned a (Some t) =
      then_stands _ (over.back w (over.kept_at w.frame a (is_long t))) _ _ (value_read w.frame h.frame.regs is_at h.image h.shared.heap t a)
      (λ xs read. back_stands (over.kept_at w.frame a (is_long t)) (machine.pending_words xs) (result_stands w.frame h.frame.regs is_at h.image h.shared.heap t a (is_long t) xs read.0 read.1))

  pub return_form_stands : (x : Width) (a : ℕ) → OutcomeStands (over.return_form w a) (machine.return_form h x a)
  return_form_stands x a =
      subst (λ (m : Method). OutcomeStands (over.back w (over.kept_at w.frame a (over.is_wide m.def.proto.ret))) (machine.return_form h x a)) (sym stands.own)
      (by (not (is_void h.own.def.proto.ret) && same_width x (result_width h.own.def.proto.ret)))
    where
      by : (b : Bool) → OutcomeStands (over.back w (over.kept_at w.frame a (over.is_wide h.own.def.proto.ret))) (if b then machine.unless_pending h (machine.return_value h a h.own.def.proto.ret) else tagged_state.IsStuck why.Result)
      by true = unless_alike (over.back w (over.kept_at w.frame a (over.is_wide h.own.def.proto.ret))) (machine.return_value h a h.own.def.proto.ret) (value_returned a h.own.def.proto.ret)
      by false = tt
