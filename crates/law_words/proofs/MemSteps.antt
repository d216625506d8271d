-- Instructions on objects, divisions and casts on words go where the tagged ones go.
use Rattle.std.proofs.Common.{◌≡◌, ◌⊎◌, inl, inr, ℕ, zero, suc, ◌+◌, ◌*◌, ◌<◌, ◌^◌, ◌++◌, Bool, true, false, ◌||◌, not, Option, Some, None, Ok, Err, List, [], ◌∷◌, ℤ, pos, negsuc, All, length, map, replicate, refl, sym, ap, ◌∙◌, subst, arith}
use Rattle.std.specs.Prelude.{if◌then◌else◌, nat_eq, nat_le, nat_lt, slice_get, slice_set}
use Rattle.std.proofs.lemmas.List.Elements.{All-head, All-tail}
use Rattle.std.proofs.lemmas.Int.{to_z_pos}
use Rattle.std.specs.Int.{w32}
use Rattle.dv_machine.specs.Frame as tagged_frame
use Rattle.dv_machine.specs.Kind.{Kind}
use Rattle.dv_machine.specs.Kind as kind_of_tagged
use Rattle.dv_defs.specs.declared.names.ClassId.{ClassId}
use Rattle.dv_defs.specs.declared.names.Ty.{Ty}
use Rattle.dv_machine.specs.Pending as pending
use Rattle.dv_defs.specs.declared.run.Named.{Named}
use Rattle.dv_defs.specs.declared.run.Named.TheVariants as named
use Rattle.dv_machine.specs.Value.{Value}
use Rattle.dv_machine.specs.Value as v
use Rattle.dv_typing.specs.Demands.{any_type, is_fill_type, is_own_field}
use Rattle.dv_machine.specs.Why as why
use Rattle.dv_machine.specs.Heap as tagged
use Rattle.dv_machine.specs.Heap.{Heap}
use Rattle.dv_defs.specs.Numbers.{hi_of, lo_of, operate32, operate64}
use Rattle.dv_defs.specs.Names.{string_name, throwable_name}
use Rattle.dv_defs.specs.Op.{Op, IntDivide, LongDivide, ConstString, ConstClass, Cast, InstanceOf, ArrayLength, New, NewArray, Filled, Fill, Throw, ArrayGet, ArrayPut, FieldGet, FieldPut, StaticGet, StaticPut, Arg, Reg, Lit}
use Rattle.dv_defs.specs.Order.{fits, instance}
use Rattle.dv_defs.specs.Parts.{Bin, Suffix}
use Rattle.dv_defs.specs.Pools.{Field, class_type}
use Rattle.dv_typing.specs.Statics.{is_of_suffix}
use Rattle.dv_defs.specs.Types.{component, is_long, is_reference, of_class, words_of}
use Rattle.dv_machine.specs.Mem as machine
use Rattle.dv_machine.specs.Mem.{is_zero_number, mem}
use Rattle.dv_machine.specs.State as steps
use Rattle.dv_machine.specs.State.{Did, Go, Here, IsStuck, Left, NoWords, Throws, ThrowsRef, any_kind, fits_kind, is_array_kind, on_next, passes, reading, reg_at, tested, truth, where_true, with_heap}
use Rattle.dv_words.specs.declared.state.Frame.{Frame}
use Rattle.dv_words.specs.declared.state.Kept.TheVariants as kept
use Rattle.dv_words.specs.declared.state.Kind.TheVariants as kind
use Rattle.dv_words.specs.Heaps as words
use Rattle.dv_words.specs.Stacks as stack
use Rattle.dv_words.specs.Standing.{AreWords, Fits, FitsInt, FrameFits, FrameStands, HeapStands, IsWord}
use Rattle.dv_words.specs.State.{WordHeap}
use Rattle.dv_words.specs.Words.{int_of, word_of}
use Rattle.law_words.specs.Laws.{ArgFits, IsBounded, DidStands, HereStands, PointsToObject, IsNoString, IsPlain, MemStepsFollow, OperandsFit, PutsInMade}
use Rattle.dv_words.specs.Local.{arg_at, int_at, long_at, put, put_two, reg_word}
use Rattle.dv_words.specs.Mem as over
use Rattle.dv_words.specs.Mem.{WordHere, WordLeft, onward, word_mem}
use Rattle.law_words.proofs.Added.{GotOneStands, GotStands, OptionStands, array_added, elements_stand, class_object_stands, grown_stands, intern_stands, newest_is, object_added, room_is}
use Rattle.law_words.proofs.LocalSteps.{word_fits}
use Rattle.law_words.proofs.MemReading.{IsArray, Taken, array_there, passed, reads_arg, reads_int, reads_long, reads_tested, reads_whatever, takes_int, takes_long}
use Rattle.law_words.proofs.Narrowing.{number_narrowed, reference_narrowed, zero_narrowed}
use Rattle.law_words.proofs.Numbers.{again, bits_small, int_fits, operate_again}
use Rattle.law_words.proofs.Objects.{is_static_word, is_word_in, length_is, type_is, words_stored, statics_stored}
use Rattle.law_words.proofs.Short.{IsBoundedGot, IsBoundedOption, array_length, array_bounded, class_object_bounded, intern_bounded, new_array_bounded, object_bounded, static_bounded, stored_bounded}
use Rattle.law_words.proofs.Registers.{is_word_at, stand_gone, stand_put, words_set}

module _ (w : WordHere) (h : Here) (frame_fits : FrameFits w.frame) (stands : HereStands w h) where
  abbrev is_at : (k : ℕ) → IsWord (reg_word w.frame k) (reg_at h.frame.regs k)
  is_at k = is_word_at w.frame.regs h.frame.regs k stands.frame.regs

  reg_fits : (k : ℕ) → Fits (reg_word w.frame k)
  reg_fits k = word_fits w.frame.regs k frame_fits.0

  -- ---- what is left

  left_stands : (s : Frame) (f : tagged_frame.Frame) (x : WordHeap) (y : Heap) → FrameStands s f → HeapStands x y → IsBounded y → DidStands h (onward x s) (steps.onward h (with_heap h.shared y) f)
  left_stands s f x y a b c = record { frame = f; levels = refl; shared = refl; started = refl; frame_stands = a; heap_stands = b; bounded = c }

  -- the heap is as it was
  same_heap : (s : Frame) (f : tagged_frame.Frame) → FrameStands s f → DidStands h (onward w.heap s) (steps.onward h h.shared f)
  same_heap s f a = record { frame = f; levels = refl; shared = refl; started = refl; frame_stands = a; heap_stands = stands.heap; bounded = stands.bounded }

  -- ---- tests

  where_alike : (a b : Bool) (n : Named) (d : Did WordLeft) (e : Did Left) → a ≡ b → DidStands h d e → DidStands h (where_true a n d) (where_true b n e)
  where_alike true true n d e same s = s
  where_alike false false n d e same s = refl
  where_alike true false n d e same s = absurd (cc)
  where_alike false true n d e same s = absurd (cc)

  on_object_stands : (o : ℕ) (d : ℕ → Did WordLeft) (e : ℕ → Did Left) → ((p : ℕ) → o ≡ suc p → DidStands h (d (suc p)) (e (suc p))) → DidStands h (machine.on_object d o) (machine.on_object e o)
  on_object_stands zero d e s = refl
  on_object_stands (suc o) d e s = s o refl

  -- ---- what registers take

  put_stands : (a u : ℕ) (x : Value) → IsWord u x → FrameStands (put w.frame w.next a u) (steps.put h.frame h.next a x)
  put_stands a u x is = subst (λ (n : ℕ). FrameStands (put w.frame n a u) (steps.put h.frame h.next a x)) (sym stands.next) (stand_put w.frame h.frame h.next a u x stands.frame is)

  gone_stands : FrameStands (stack.gone w.frame w.next) (steps.gone h.frame h.next h.frame.regs)
  gone_stands = subst (λ (n : ℕ). FrameStands (stack.gone w.frame n) (steps.gone h.frame h.next h.frame.regs)) (sym stands.next) (stand_gone w.frame h.frame h.next stands.frame)

  put_two_stands : (a u t : ℕ) (x y : Value) → IsWord u x → IsWord t y → FrameStands (put_two w.frame w.next a u t) (steps.gone h.frame h.next (slice_set (slice_set h.frame.regs a x) (suc a) y))
  put_two_stands a u t x y is js = record { method = stands.frame.method; at = stands.next; regs = words_set _ _ (suc a) t y (words_set w.frame.regs h.frame.regs a u x stands.frame.regs is) js; result = tt; caught = refl }

  put_words_stand : (a : ℕ) (ws : List ℕ) (xs : List Value) → AreWords ws xs → FrameStands (over.put_words w.frame w.next a ws) (steps.put_words h.frame h.next a xs)
  put_words_stand a [] [] are = gone_stands
  put_words_stand a [] (x ∷ xs) are = absurd are
  put_words_stand a (u ∷ ws) [] are = absurd are
  put_words_stand a (u ∷ []) (x ∷ []) are = put_stands a u x are.0
  put_words_stand a (u ∷ []) (x ∷ y ∷ ys) are = absurd are.1
  put_words_stand a (u ∷ t ∷ us) (x ∷ []) are = absurd are.1
  put_words_stand a (u ∷ t ∷ us) (x ∷ y ∷ ys) are = put_two_stands a u t x y are.0 are.1.0

  -- ---- what objects are

  component_is : (o : ℕ) → over.component_of w o ≡ machine.component_of h o
  component_is o = ap (λ i. component (over.type_of i w.heap o)) stands.image ∙ ap component (type_is h.image w.heap h.shared.heap o stands.heap)

  instance_is : (t : Ty) (o : ℕ) → over.is_instance w t o ≡ machine.is_instance h t o
  instance_is t zero = refl
  instance_is t (suc o) = ap (λ i. instance i (over.type_of i w.heap (suc o)) t) stands.image ∙ ap (λ u. instance h.image u t) (type_is h.image w.heap h.shared.heap (suc o) stands.heap)

  index_by : (a b : Bool) (i j : ℕ) (d : ℕ → Did WordLeft) (e : ℕ → Did Left) → a ≡ b → i ≡ j → ((k : ℕ) → DidStands h (d k) (e k)) → DidStands h (if a then d i else Throws named.ArrayIndex) (if b then e j else Throws named.ArrayIndex)
  index_by true true i j d e same at s = subst (λ (k : ℕ). DidStands h (d i) (e k)) at (s i)
  index_by false false i j d e same at s = refl
  index_by true false i j d e same at s = absurd (cc)
  index_by false true i j d e same at s = absurd (cc)

  on_index_stands : (o : ℕ) (n : ℤ) (d : ℕ → Did WordLeft) (e : ℕ → Did Left) → ((k : ℕ) → DidStands h (d k) (e k)) → DidStands h (over.on_index w (suc o) n d) (machine.on_index h (suc o) n e)
  on_index_stands o (negsuc n) d e s = refl
  on_index_stands o (pos k) d e s = index_by _ _ _ _ d e (ap (nat_lt k) (length_is w.heap h.shared.heap o stands.heap)) (ap (λ t. k * words_of t) (component_is (suc o))) s

  words_by : (b : Bool) (o k : ℕ) → IsPlain (tagged.kind_of h.shared.heap (suc o)) → AreWords (if b then words.word_in w.heap (suc o) k ∷ words.word_in w.heap (suc o) (suc k) ∷ [] else words.word_in w.heap (suc o) k ∷ []) (if b then tagged.cell_at h.shared.heap (suc o) k ∷ tagged.cell_at h.shared.heap (suc o) (suc k) ∷ [] else tagged.cell_at h.shared.heap (suc o) k ∷ [])
  words_by true o k plain = (is_word_in w.heap h.shared.heap o k stands.heap plain, (is_word_in w.heap h.shared.heap o (suc k) stands.heap plain, tt))
  words_by false o k plain = (is_word_in w.heap h.shared.heap o k stands.heap plain, tt)

  words_at_stand : (o k : ℕ) (t : Ty) → IsPlain (tagged.kind_of h.shared.heap (suc o)) → AreWords (over.words_at w.heap (suc o) k t) (machine.words_at h.shared.heap (suc o) k t)
  words_at_stand o k t plain = words_by (is_long t) o k plain

  static_by : (b : Bool) (f : ℕ) → AreWords (if b then words.static_in w.heap f 0 ∷ words.static_in w.heap f 1 ∷ [] else words.static_in w.heap f 0 ∷ []) (if b then tagged.static_at h.shared.heap f 0 ∷ tagged.static_at h.shared.heap f 1 ∷ [] else tagged.static_at h.shared.heap f 0 ∷ [])
  static_by true f = (is_static_word w.heap h.shared.heap f 0 stands.heap, (is_static_word w.heap h.shared.heap f 1 stands.heap, tt))
  static_by false f = (is_static_word w.heap h.shared.heap f 0 stands.heap, tt)

  array_plain : (k : Option Kind) (t : Ty) → k ≡ Some (kind_of_tagged.Array t) → IsPlain k
  array_plain None t is = tt
  array_plain (Some (kind_of_tagged.Array u)) t is = tt
  array_plain (Some (kind_of_tagged.Object c)) t is = tt
  array_plain (Some (kind_of_tagged.ClassOf u)) t is = tt
  array_plain (Some (kind_of_tagged.Str u)) t is = absurd (cc)

  fits_plain : (o : ℕ) (t : Ty) → fits h.image (of_class string_name) t ≡ false → tested (fits_kind h.image t) h.shared.heap (suc o) ≡ true → IsPlain (tagged.kind_of h.shared.heap (suc o))
  fits_plain o t never is = by (tagged.kind_of h.shared.heap (suc o)) (passed (fits_kind h.image t) h.shared.heap o is)
    where
      by : (k : Option Kind) → passes (fits_kind h.image t) k ≡ true → IsPlain k
      by None e = tt
      by (Some (kind_of_tagged.Array u)) e = tt
      by (Some (kind_of_tagged.Object c)) e = tt
      by (Some (kind_of_tagged.ClassOf u)) e = tt
      by (Some (kind_of_tagged.Str u)) e = absurd (cc)

  -- ---- divisions and casts

  arg_fits : (c : Arg) → ArgFits c → FitsInt (arg_at w.frame c)
  arg_fits (Reg r) l = int_fits (reg_word w.frame r) (reg_fits r)
  arg_fits (Lit n) l = l

  divided : (o : Bin) (a b : ℕ) (c : Arg) → ArgFits c → DidStands h (word_mem w (IntDivide o a b c)) (mem h (IntDivide o a b c))
  divided o a b c l =
      let d = word_mem w (IntDivide o a b c) in
      let y = arg_at w.frame c in
      let n = operate32 o (int_at w.frame b) y in
      let s = put w.frame w.next a (word_of n) in
      let f = steps.put h.frame h.next a (v.Num n) in
      let done : DidStands h d (where_true (not (is_zero_number y)) named.Arithmetic (steps.onward h h.shared f)) =
      where_alike (not (is_zero_number y)) (not (is_zero_number y)) named.Arithmetic (onward w.heap s) (steps.onward h h.shared f) refl
      (same_heap s f (put_stands a (word_of n) (v.Num n) (operate_again o (int_at w.frame b) y (int_fits (reg_word w.frame b) (reg_fits b)) (arg_fits c l)))) in
      reads_int h d (reg_at h.frame.regs b) (reg_word w.frame b) _ (is_at b) (reads_arg h d h.frame.regs w.frame c _ is_at done)

  divided_long : (o : Bin) (a b c : ℕ) → DidStands h (word_mem w (LongDivide o a b c)) (mem h (LongDivide o a b c))
  divided_long o a b c =
      let d = word_mem w (LongDivide o a b c) in
      let y = long_at w.frame c in
      let n = operate64 o (long_at w.frame b) y in
      let s = put_two w.frame w.next a (lo_of n) (hi_of n) in
      let f = steps.put_long h.frame h.next a n in
      let done : DidStands h d (where_true (not (is_zero_number y)) named.Arithmetic (steps.onward h h.shared f)) =
      where_alike (not (is_zero_number y)) (not (is_zero_number y)) named.Arithmetic (onward w.heap s) (steps.onward h h.shared f) refl
      (same_heap s f (put_two_stands a (lo_of n) (hi_of n) (v.Lo (lo_of n)) (v.Hi (hi_of n)) refl refl)) in
      reads_long h d (reg_at h.frame.regs b) (reg_at h.frame.regs (suc b)) (reg_word w.frame b) (reg_word w.frame (suc b)) _ (is_at b) (is_at (suc b))
      (reads_long h d (reg_at h.frame.regs c) (reg_at h.frame.regs (suc c)) (reg_word w.frame c) (reg_word w.frame (suc c)) _ (is_at c) (is_at (suc c)) done)

  cast : (a : ℕ) (t : Ty) → DidStands h (word_mem w (Cast a t)) (mem h (Cast a t))
  cast a t =
      let o = reg_word w.frame a in
      reads_tested h (word_mem w (Cast a t)) any_kind h.shared.heap (reg_at h.frame.regs a) o _ (is_at a)
      (λ p. where_alike (nat_eq o 0 || over.is_instance w t o) (nat_eq o 0 || machine.is_instance h t o) named.ClassCast (onward w.heap (stack.gone w.frame w.next)) (steps.onward h h.shared (steps.gone h.frame h.next h.frame.regs)) (ap (λ (b : Bool). nat_eq o 0 || b) (instance_is t o)) (same_heap _ _ gone_stands))

  truth_stands : (a b : Bool) → a ≡ b → IsWord (over.truth_word a) (truth b)
  truth_stands true true e = refl
  truth_stands false false e = refl
  truth_stands true false e = absurd (cc)
  truth_stands false true e = absurd (cc)

  asked : (a b : ℕ) (t : Ty) → DidStands h (word_mem w (InstanceOf a b t)) (mem h (InstanceOf a b t))
  asked a b t =
      let o = reg_word w.frame b in
      let word = over.truth_word (over.is_instance w t o) in
      let value = truth (machine.is_instance h t o) in
      reads_tested h (word_mem w (InstanceOf a b t)) any_kind h.shared.heap (reg_at h.frame.regs b) o _ (is_at b)
      (λ p. same_heap (put w.frame w.next a word) (steps.put h.frame h.next a value) (put_stands a word value (truth_stands (over.is_instance w t o) (machine.is_instance h t o) (instance_is t o))))

  -- ---- objects that are made

  got_stands : (a : ℕ) (tag : ℕ → Value) (g : words.Got) (x : tagged.Got) → ((u o : ℕ) → u ≡ o → IsWord u (tag o)) → GotOneStands g x → IsBounded x.heap → DidStands h (over.put_object w a g) (machine.put_object h a tag x)
  got_stands a tag g x is s short = left_stands (put w.frame w.next a g.object) (steps.put h.frame h.next a (tag x.object)) g.heap x.heap (put_stands a g.object (tag x.object) (is g.object x.object s.object)) s.heap short

  room_got : (a : ℕ) (g : Option words.Got) (x : Option tagged.Got) → GotStands g x → IsBoundedGot x → DidStands h (steps.where_room g (over.put_object w a)) (steps.where_room x (machine.put_object h a v.Ref))
  room_got a None None s short = tt
  room_got a None (Some x) s short = absurd s
  room_got a (Some g) None s short = absurd s
  room_got a (Some g) (Some x) s short = got_stands a v.Ref g x (λ u o e. e) s short

  room_made : (a : ℕ) (tag : ℕ → Value) (g : Option WordHeap) (x : Option Heap) → ((u o : ℕ) → u ≡ o → IsWord u (tag o)) → OptionStands g x → IsBoundedOption x → DidStands h (steps.where_room g (λ heap. over.put_object w a (over.got heap))) (steps.where_room x (λ heap. machine.put_object h a tag (machine.got heap)))
  room_made a tag None None is s short = tt
  room_made a tag None (Some x) is s short = absurd s
  room_made a tag (Some g) None is s short = absurd s
  room_made a tag (Some g) (Some x) is s short = got_stands a tag (over.got g) (machine.got x) is (record { object = newest_is g x s; heap = s }) short

  new_array_stands : (a : ℕ) (t : Ty) (n : ℤ) → DidStands h (over.new_array w a t n) (machine.new_array h a t n)
  new_array_stands a t (negsuc n) = refl
  new_array_stands a t (pos n) = room_made a v.Ref _ _ (λ u o e. e) (array_added w.heap h.shared.heap t n stands.heap) (array_bounded h.shared.heap t n stands.bounded)

  new_object : (a c : ℕ) → DidStands h (word_mem w (New a c)) (mem h (New a c))
  new_object a c =
      let same : words.alloc_object w.image w.heap c ≡ words.alloc_object h.image w.heap c = ap (λ i. words.alloc_object i w.heap c) stands.image in
      subst (λ (o : Option WordHeap). DidStands h (steps.where_room o (λ heap. over.put_object w a (over.got heap))) (mem h (New a c))) (sym same)
      (room_made a (v.Uninit h.frame.at) _ _ (λ u o e. e) (object_added h.image w.heap h.shared.heap c stands.heap) (object_bounded h.image h.shared.heap c stands.bounded))

  made_array : (a b : ℕ) (t : Ty) → DidStands h (word_mem w (NewArray a b t)) (mem h (NewArray a b t))
  made_array a b t =
      reads_int h (word_mem w (NewArray a b t)) (reg_at h.frame.regs b) (reg_word w.frame b) (machine.new_array h a t) (is_at b)
      (new_array_stands a t (int_at w.frame b))

  -- ---- arrays

  array_at : (good : Ty → Bool) (n p : ℕ) → n ≡ suc p → tested (is_array_kind good) h.shared.heap n ≡ true → IsArray good h.shared.heap (suc p)
  array_at good n p e t = array_there good h.shared.heap p (subst (λ (m : ℕ). tested (is_array_kind good) h.shared.heap m ≡ true) e t)

  plain_array : (good : Ty → Bool) (p : ℕ) → IsArray good h.shared.heap (suc p) → IsPlain (tagged.kind_of h.shared.heap (suc p))
  plain_array good p array = array_plain (tagged.kind_of h.shared.heap (suc p)) array.ty array.kind

  counted : (a p : ℕ) → IsArray any_type h.shared.heap (suc p) → DidStands h (onward w.heap (put w.frame w.next a (words.length_of w.heap (suc p)))) (steps.onward h h.shared (steps.put h.frame h.next a (v.Num (pos (tagged.length_of h.shared.heap (suc p))))))
  counted a p array =
      let n = words.length_of w.heap (suc p) in
      let m = tagged.length_of h.shared.heap (suc p) in
      let same : n ≡ m = length_is w.heap h.shared.heap p stands.heap in
      let few : m < 2 ^ 31 = array_length h.shared.heap p array.ty stands.bounded array.kind in
      same_heap (put w.frame w.next a n) (steps.put h.frame h.next a (v.Num (pos m))) (put_stands a n (v.Num (pos m)) (ap int_of same ∙ to_z_pos w32 m few))

  length_got : (a b : ℕ) → DidStands h (word_mem w (ArrayLength a b)) (mem h (ArrayLength a b))
  length_got a b =
      reads_tested h (word_mem w (ArrayLength a b)) (is_array_kind any_type) h.shared.heap (reg_at h.frame.regs b) (reg_word w.frame b) _ (is_at b)
      (λ t. on_object_stands (reg_word w.frame b) (λ o. onward w.heap (put w.frame w.next a (words.length_of w.heap o))) (λ o. steps.onward h h.shared (steps.put h.frame h.next a (v.Num (pos (tagged.length_of h.shared.heap o)))))
      (λ p e. counted a p (array_at any_type (reg_word w.frame b) p e t)))

  element_got : (a p k : ℕ) → IsPlain (tagged.kind_of h.shared.heap (suc p)) → DidStands h (over.get_element w a (suc p) k) (machine.get_element h a (suc p) k)
  element_got a p k plain =
      let t = machine.component_of h (suc p) in
      let ws = over.words_at w.heap (suc p) k t in
      let xs = machine.words_at h.shared.heap (suc p) k t in
      subst (λ (u : Ty). DidStands h (onward w.heap (over.put_words w.frame w.next a (over.words_at w.heap (suc p) k u))) (machine.get_element h a (suc p) k)) (sym (component_is (suc p)))
      (same_heap (over.put_words w.frame w.next a ws) (steps.put_words h.frame h.next a xs) (put_words_stand a ws xs (words_at_stand p k t plain)))

  array_got : (s : Suffix) (a b c : ℕ) → DidStands h (word_mem w (ArrayGet s a b c)) (mem h (ArrayGet s a b c))
  array_got s a b c =
      let d = word_mem w (ArrayGet s a b c) in
      let n = int_at w.frame c in
      reads_tested h d (is_array_kind (is_of_suffix s)) h.shared.heap (reg_at h.frame.regs b) (reg_word w.frame b) _ (is_at b)
      (λ t. reads_int h d (reg_at h.frame.regs c) (reg_word w.frame c) _ (is_at c)
      (on_object_stands (reg_word w.frame b) (λ o. over.on_index w o n (over.get_element w a o)) (λ o. machine.on_index h o n (machine.get_element h a o))
      (λ p e. on_index_stands p n (over.get_element w a (suc p)) (machine.get_element h a (suc p))
      (λ k. element_got a p k (plain_array (is_of_suffix s) p (array_at (is_of_suffix s) (reg_word w.frame b) p e t))))))

  -- ---- stores to arrays

  -- what a store takes, and whether it may be stored
  record Puts (s : Suffix) (a : ℕ) (t : Ty) (xs : List Value) : Type 0 where
    pub taken : Taken t (over.words_in w.frame a (over.is_wide s)) xs
    pub storable : (o : ℕ) → over.is_storable w o s (reg_word w.frame a) ≡ machine.is_storable h o s xs

  abbrev IsPut : Suffix → ℕ → Ty → (List Value → Did Left) → Did WordLeft → Type 0
  IsPut s a t go d = (xs : List Value) → Puts s a t xs → DidStands h d (go xs)

  null_storable : (u : ℕ) → IsWord u v.Zero → (o : ℕ) → over.is_storable w o Suffix.Object u ≡ true
  null_storable u is o = ap (over.is_storable w o Suffix.Object) is

  object_storable : (u p : ℕ) → IsWord u (v.Ref p) → (o : ℕ) → over.is_storable w o Suffix.Object u ≡ machine.is_storable h o Suffix.Object (v.Ref p ∷ [])
  object_storable u zero is o = ap (over.is_storable w o Suffix.Object) is
  object_storable u (suc p) is o =
      ap (over.is_storable w o Suffix.Object) is ∙ instance_is (over.component_of w o) (suc p) ∙ ap (λ t. machine.is_instance h t (suc p)) (component_is o)

  object_put : (a : ℕ) (t : Ty) (go : List Value → Did Left) (d : Did WordLeft) (x : Value) → is_reference t ≡ true → IsWord (reg_word w.frame a) x → IsPut Suffix.Object a t go d → DidStands h d (reading (on_next (steps.read_any h.shared.heap x) (λ o. Ok (x ∷ []))) go)
  object_put a t go d v.Zero ref is put = put (v.Zero ∷ []) (record { taken = record { words = (is, tt); kept = (zero_narrowed t (reg_word w.frame a) is, tt) }; storable = null_storable (reg_word w.frame a) is })
  object_put a t go d (v.Ref p) ref is put = by (tested any_kind h.shared.heap p)
    where
      by : (b : Bool) → DidStands h d (reading (on_next (steps.where_ref b p) (λ o. Ok (v.Ref p ∷ []))) go)
      by true = put (v.Ref p ∷ []) (record { taken = record { words = (is, tt); kept = (reference_narrowed t (reg_word w.frame a) ref (reg_fits a) ∙ is, tt) }; storable = object_storable (reg_word w.frame a) p is })
      by false = tt
  object_put a t go d x ref is put = tt

  put_taken : (s : Suffix) (a : ℕ) (t : Ty) (go : List Value → Did Left) (d : Did WordLeft) → is_of_suffix s t ≡ true → IsPut s a t go d → DidStands h d (reading (machine.read_put h a s) go)
  put_taken Suffix.Long a t go d is put = takes_long h d t (reg_at h.frame.regs a) (reg_at h.frame.regs (suc a)) (reg_word w.frame a) (reg_word w.frame (suc a)) go is (reg_fits a) (reg_fits (suc a)) (is_at a) (is_at (suc a)) (λ xs taken. put xs (record { taken = taken; storable = λ o. refl }))
  put_taken Suffix.Object a t go d is put = object_put a t go d (reg_at h.frame.regs a) is (is_at a) put
  put_taken Suffix.Int a t go d is put = takes_int h d t (reg_at h.frame.regs a) (reg_word w.frame a) go (reg_fits a) (is_at a) (λ xs taken. put xs (record { taken = taken; storable = λ o. refl }))
  put_taken Suffix.Boolean a t go d is put = takes_int h d t (reg_at h.frame.regs a) (reg_word w.frame a) go (reg_fits a) (is_at a) (λ xs taken. put xs (record { taken = taken; storable = λ o. refl }))
  put_taken Suffix.Byte a t go d is put = takes_int h d t (reg_at h.frame.regs a) (reg_word w.frame a) go (reg_fits a) (is_at a) (λ xs taken. put xs (record { taken = taken; storable = λ o. refl }))
  put_taken Suffix.Char a t go d is put = takes_int h d t (reg_at h.frame.regs a) (reg_word w.frame a) go (reg_fits a) (is_at a) (λ xs taken. put xs (record { taken = taken; storable = λ o. refl }))
  put_taken Suffix.Short a t go d is put = takes_int h d t (reg_at h.frame.regs a) (reg_word w.frame a) go (reg_fits a) (is_at a) (λ xs taken. put xs (record { taken = taken; storable = λ o. refl }))

  -- words are stored in an object, and the frame goes on
  stored_stands : (p k : ℕ) (ws : List ℕ) (xs : List Value) → IsPlain (tagged.kind_of h.shared.heap (suc p)) → AreWords ws xs → DidStands h (onward (over.stored w.heap (suc p) k ws) (stack.gone w.frame w.next)) (steps.onward h (with_heap h.shared (machine.stored h.shared.heap (suc p) k xs)) (steps.gone h.frame h.next h.frame.regs))
  stored_stands p k ws xs plain are =
      left_stands (stack.gone w.frame w.next) (steps.gone h.frame h.next h.frame.regs) (over.stored w.heap (suc p) k ws) (machine.stored h.shared.heap (suc p) k xs) gone_stands
      (words_stored w.heap h.shared.heap p k ws xs plain stands.heap are) (stored_bounded h.shared.heap (suc p) k xs stands.bounded)

  element_put : (s : Suffix) (a p k : ℕ) (xs : List Value) → IsPlain (tagged.kind_of h.shared.heap (suc p)) → Puts s a (machine.component_of h (suc p)) xs → DidStands h (over.array_put w (suc p) s a k) (machine.array_put h (suc p) s xs k)
  element_put s a p k xs plain puts =
      let t = machine.component_of h (suc p) in
      let ws = over.words_in w.frame a (over.is_wide s) in
      let e = steps.onward h (with_heap h.shared (machine.stored h.shared.heap (suc p) k (machine.narrowed_all t xs))) (steps.gone h.frame h.next h.frame.regs) in
      where_alike (over.is_storable w (suc p) s (reg_word w.frame a)) (machine.is_storable h (suc p) s xs) named.ArrayStore
      (onward (over.stored w.heap (suc p) k (over.narrowed_all (over.component_of w (suc p)) ws)) (stack.gone w.frame w.next)) e (puts.storable (suc p))
      (subst (λ (u : Ty). DidStands h (onward (over.stored w.heap (suc p) k (over.narrowed_all u ws)) (stack.gone w.frame w.next)) e) (sym (component_is (suc p)))
      (stored_stands p k (over.narrowed_all t ws) (machine.narrowed_all t xs) plain puts.taken.kept))

  array_type : (good : Ty → Bool) (p : ℕ) → (a : IsArray good h.shared.heap (suc p)) → good (machine.component_of h (suc p)) ≡ true
  array_type good p array = ap (λ k. good (component (steps.type_of_kind h.image k))) array.kind ∙ array.passes

  -- null throws whatever is read; of an array the elements' type is known
  array_put_by : (s : Suffix) (a b c o : ℕ) (d : Did WordLeft) → reg_word w.frame b ≡ o → tested (is_array_kind (is_of_suffix s)) h.shared.heap o ≡ true → d ≡ machine.on_object (λ q. over.on_index w q (int_at w.frame c) (over.array_put w q s a)) o → DidStands h d (reading (machine.read_put h a s) (λ xs. machine.on_object (λ q. machine.on_index h q (int_at w.frame c) (machine.array_put h q s xs)) o))
  array_put_by s a b c zero d at t is =
      subst (λ (x : Did WordLeft). DidStands h x (reading (machine.read_put h a s) (λ xs. Throws named.NullPointer))) (sym is)
      (reads_whatever h (Throws named.NullPointer) (machine.read_put h a s) (λ xs. Throws named.NullPointer) (λ xs. refl))
  array_put_by s a b c (suc p) d at t is =
      let n = int_at w.frame c in
      let array = array_there (is_of_suffix s) h.shared.heap p t in
      let go : List Value → Did Left = λ xs. machine.on_index h (suc p) n (machine.array_put h (suc p) s xs) in
      let e = over.on_index w (suc p) n (over.array_put w (suc p) s a) in
      subst (λ (x : Did WordLeft). DidStands h x (reading (machine.read_put h a s) go)) (sym is)
      (put_taken s a (machine.component_of h (suc p)) go e (array_type (is_of_suffix s) p array)
      (λ xs puts. on_index_stands p n (over.array_put w (suc p) s a) (machine.array_put h (suc p) s xs) (λ k. element_put s a p k xs (plain_array (is_of_suffix s) p array) puts)))

  array_put : (s : Suffix) (a b c : ℕ) → DidStands h (word_mem w (ArrayPut s a b c)) (mem h (ArrayPut s a b c))
  array_put s a b c =
      let d = word_mem w (ArrayPut s a b c) in
      reads_tested h d (is_array_kind (is_of_suffix s)) h.shared.heap (reg_at h.frame.regs b) (reg_word w.frame b) _ (is_at b)
      (λ t. reads_int h d (reg_at h.frame.regs c) (reg_word w.frame c) _ (is_at c) (array_put_by s a b c (reg_word w.frame b) d refl t refl))

  -- ---- fields

  single_put : (a : ℕ) (t : Ty) (go : List Value → Did Left) (d : Did WordLeft) (b : Bool) (x : Value) → is_reference t ≡ b → IsWord (reg_word w.frame a) x → ((xs : List Value) → Taken t (reg_word w.frame a ∷ []) xs → DidStands h d (go xs)) → DidStands h d (reading (on_next (if b then on_next (steps.read_ref h.image h.shared.heap t x) (λ o. Ok x) else steps.kept_int x) (λ y. Ok (y ∷ []))) go)
  single_put a t go d true v.Zero ref is take = take (v.Zero ∷ []) (record { words = (is, tt); kept = (zero_narrowed t (reg_word w.frame a) is, tt) })
  single_put a t go d true (v.Ref p) ref is take = by (tested (fits_kind h.image t) h.shared.heap p)
    where
      by : (b : Bool) → DidStands h d (reading (on_next (on_next (steps.where_ref b p) (λ o. Ok (v.Ref p))) (λ y. Ok (y ∷ []))) go)
      by true = take (v.Ref p ∷ []) (record { words = (is, tt); kept = (reference_narrowed t (reg_word w.frame a) ref (reg_fits a) ∙ is, tt) })
      by false = tt
  single_put a t go d true x ref is take = tt
  single_put a t go d false v.Zero ref is take = take (v.Zero ∷ []) (record { words = (is, tt); kept = (zero_narrowed t (reg_word w.frame a) is, tt) })
  single_put a t go d false (v.Num n) ref is take = take (v.Num n ∷ []) (record { words = (is, tt); kept = (number_narrowed t (reg_word w.frame a) n (reg_fits a) is, tt) })
  single_put a t go d false x ref is take = tt

  value_by : (b : Bool) (a : ℕ) (t : Ty) (go : List Value → Did Left) (d : Did WordLeft) → is_long t ≡ b → ((xs : List Value) → Taken t (over.words_in w.frame a b) xs → DidStands h d (go xs)) → DidStands h d (reading (if b then on_next (steps.read_two h.frame.regs a) (λ p. Ok (v.Lo p.lo ∷ v.Hi p.hi ∷ [])) else on_next (steps.read_single h.image h.shared.heap t (reg_at h.frame.regs a)) (λ x. Ok (x ∷ []))) go)
  value_by true a t go d is take = takes_long h d t (reg_at h.frame.regs a) (reg_at h.frame.regs (suc a)) (reg_word w.frame a) (reg_word w.frame (suc a)) go is (reg_fits a) (reg_fits (suc a)) (is_at a) (is_at (suc a)) take
  value_by false a t go d is take = single_put a t go d (is_reference t) (reg_at h.frame.regs a) refl (is_at a) take

  value_taken : (a : ℕ) (t : Ty) (go : List Value → Did Left) (d : Did WordLeft) → ((xs : List Value) → Taken t (over.words_in w.frame a (is_long t)) xs → DidStands h d (go xs)) → DidStands h d (reading (steps.read_value h.image h.shared.heap h.frame.regs a t) go)
  value_taken a t go d take = value_by (is_long t) a t go d refl take

  field_got : (s : Suffix) (a b : ℕ) (x : Field) → IsNoString h.image x → DidStands h (word_mem w (FieldGet s a b x)) (mem h (FieldGet s a b x))
  field_got s a b x never =
      let t = class_type h.image x.info.class.0 in
      reads_tested h (word_mem w (FieldGet s a b x)) (fits_kind h.image t) h.shared.heap (reg_at h.frame.regs b) (reg_word w.frame b) _ (is_at b)
      (λ passes. on_object_stands (reg_word w.frame b) (over.get_field w a x) (machine.get_field h a x)
      (λ p e. got p (fits_plain p t never (subst (λ (n : ℕ). tested (fits_kind h.image t) h.shared.heap n ≡ true) e passes))))
    where
      got : (p : ℕ) → IsPlain (tagged.kind_of h.shared.heap (suc p)) → DidStands h (over.get_field w a x (suc p)) (machine.get_field h a x (suc p))
      got p plain =
          let ws = over.words_at w.heap (suc p) x.info.slot x.def.ty in
          let xs = machine.words_at h.shared.heap (suc p) x.info.slot x.def.ty in
          same_heap (over.put_words w.frame w.next a ws) (steps.put_words h.frame h.next a xs) (put_words_stand a ws xs (words_at_stand p x.info.slot x.def.ty plain))

  -- an object whose field may be put is no string
  abbrev IsReceiver : ℕ → Type 0
  IsReceiver o = (p : ℕ) → o ≡ suc p → IsPlain (tagged.kind_of h.shared.heap (suc p))

  object_plain : (k : Option Kind) (c : ClassId) → k ≡ Some (kind_of_tagged.Object c) → IsPlain k
  object_plain None c is = tt
  object_plain (Some (kind_of_tagged.Array u)) c is = tt
  object_plain (Some (kind_of_tagged.Object d)) c is = tt
  object_plain (Some (kind_of_tagged.ClassOf u)) c is = tt
  object_plain (Some (kind_of_tagged.Str u)) c is = absurd (cc)

  receives_any : (x : Field) (y : Value) (u : ℕ) (go : ℕ → Did Left) (d : Did WordLeft) → IsNoString h.image x → IsWord u y → (IsReceiver u → DidStands h d (go u)) → DidStands h d (reading (steps.read_ref h.image h.shared.heap (class_type h.image x.info.class.0) y) go)
  receives_any x y u go d never is s =
      let t = class_type h.image x.info.class.0 in
      reads_tested h d (fits_kind h.image t) h.shared.heap y u go is
      (λ passes. s (λ p e. fits_plain p t never (subst (λ (n : ℕ). tested (fits_kind h.image t) h.shared.heap n ≡ true) e passes)))

  receives : (x : Field) (y : Value) (u : ℕ) (go : ℕ → Did Left) (d : Did WordLeft) → IsNoString h.image x → PointsToObject h.shared.heap y → IsWord u y → (IsReceiver u → DidStands h d (go u)) → DidStands h d (reading (machine.read_put_receiver h x y) go)
  receives x (v.UninitThis o) u go d never made is s = own (is_own_field h.own x) o made is
    where
      plain : (o : ℕ) → PointsToObject h.shared.heap (v.UninitThis o) → u ≡ o → IsReceiver u
      plain zero made is p e = absurd (let no_null : zero ≡ suc p = sym is ∙ e in omega (arith, no_null))
      plain (suc o) made is p e = let same : o ≡ p = omega (arith, is, e) in subst (λ (q : ℕ). IsPlain (tagged.kind_of h.shared.heap (suc q))) same (object_plain (tagged.kind_of h.shared.heap (suc o)) made.0 made.1)

      own : (b : Bool) (o : ℕ) → PointsToObject h.shared.heap (v.UninitThis o) → u ≡ o → DidStands h d (reading (if b then Ok o else Err why.Uninitialised) go)
      own true o made is = subst (λ (n : ℕ). DidStands h d (go n)) is (s (plain o made is))
      own false o made is = tt
  receives x v.Undef u go d never made is s = receives_any x v.Undef u go d never is s
  receives x v.Zero u go d never made is s = receives_any x v.Zero u go d never is s
  receives x (v.Num n) u go d never made is s = receives_any x (v.Num n) u go d never is s
  receives x (v.Lo n) u go d never made is s = receives_any x (v.Lo n) u go d never is s
  receives x (v.Hi n) u go d never made is s = receives_any x (v.Hi n) u go d never is s
  receives x (v.Ref o) u go d never made is s = receives_any x (v.Ref o) u go d never is s
  receives x (v.Uninit c o) u go d never made is s = receives_any x (v.Uninit c o) u go d never is s

  field_put : (s : Suffix) (a b : ℕ) (x : Field) → IsNoString h.image x → PointsToObject h.shared.heap (reg_at h.frame.regs b) → DidStands h (word_mem w (FieldPut s a b x)) (mem h (FieldPut s a b x))
  field_put s a b x never made =
      let d = word_mem w (FieldPut s a b x) in
      let o = reg_word w.frame b in
      let ws = over.words_in w.frame a (is_long x.def.ty) in
      receives x (reg_at h.frame.regs b) o _ d never made (is_at b)
      (λ plain. value_taken a x.def.ty (λ ys. machine.on_object (machine.put_field h x ys) o) d
      (λ xs taken. on_object_stands o (over.put_field w a x) (machine.put_field h x xs)
      (λ p e. stored_stands p x.info.slot (over.narrowed_all x.def.ty ws) (machine.narrowed_all x.def.ty xs) (plain p e) taken.kept)))

  static_got : (s : Suffix) (a : ℕ) (x : Field) → DidStands h (word_mem w (StaticGet s a x)) (mem h (StaticGet s a x))
  static_got s a x =
      let ws = over.static_words w.heap x.id x.def.ty in
      let xs = machine.static_words h.shared.heap x.id x.def.ty in
      same_heap (over.put_words w.frame w.next a ws) (steps.put_words h.frame h.next a xs) (put_words_stand a ws xs (static_by (is_long x.def.ty) x.id))

  static_put : (s : Suffix) (a : ℕ) (x : Field) → DidStands h (word_mem w (StaticPut s a x)) (mem h (StaticPut s a x))
  static_put s a x =
      let ws = over.narrowed_all x.def.ty (over.words_in w.frame a (is_long x.def.ty)) in
      value_taken a x.def.ty _ (word_mem w (StaticPut s a x))
      (λ xs taken. left_stands (stack.gone w.frame w.next) (steps.gone h.frame h.next h.frame.regs) (over.static_stored w.heap x.id 0 ws) (machine.static_stored h.shared.heap x.id 0 (machine.narrowed_all x.def.ty xs)) gone_stands
      (statics_stored w.heap h.shared.heap x.id 0 ws (machine.narrowed_all x.def.ty xs) stands.heap taken.kept)
      (static_bounded h.shared.heap x.id 0 (machine.narrowed_all x.def.ty xs) stands.bounded))

  -- ---- arrays that are filled

  append_words : (ws us : List ℕ) (xs ys : List Value) → AreWords ws xs → AreWords us ys → AreWords (ws ++ us) (xs ++ ys)
  append_words [] us [] ys are more = more
  append_words [] us (x ∷ xs) ys are more = absurd are
  append_words (u ∷ ws) us [] ys are more = absurd are
  append_words (u ∷ ws) us (x ∷ xs) ys are more = (are.0, append_words ws us xs ys are.1 more)

  element_by : (b : Bool) (t : Ty) (n : ℤ) → ((b ≡ true) ⊎ FitsInt n) → AreWords (if b then lo_of n ∷ hi_of n ∷ [] else over.narrowed t (word_of n) ∷ []) (if b then v.Lo (lo_of n) ∷ v.Hi (hi_of n) ∷ [] else machine.narrowed t (v.Num n) ∷ [])
  element_by true t n l = (refl, (refl, tt))
  element_by false t n (inl is) = absurd (cc)
  element_by false t n (inr l) = (number_narrowed t (word_of n) n (bits_small n l) (again n l), tt)

  filled_long : (t : Ty) (ns : List ℤ) → is_long t ≡ true → AreWords (over.filled t ns) (machine.filled t ns)
  filled_long t [] is = tt
  filled_long t (n ∷ ns) is = append_words _ _ _ _ (element_by (is_long t) t n (inl is)) (filled_long t ns is)

  filled_ints : (t : Ty) (ns : List ℤ) → All FitsInt ns → AreWords (over.filled t ns) (machine.filled t ns)
  filled_ints t [] all = tt
  filled_ints t (n ∷ ns) all = append_words _ _ _ _ (element_by (is_long t) t n (inr (All-head FitsInt n ns all))) (filled_ints t ns (All-tail FitsInt n ns all))

  filled_stand : (width : ℕ) (t : Ty) (ns : List ℤ) → (width ≡ 8) ⊎ All FitsInt ns → is_fill_type width t ≡ true → AreWords (over.filled t ns) (machine.filled t ns)
  filled_stand width t ns (inl eight) is = filled_long t ns (subst (λ (n : ℕ). is_fill_type n t ≡ true) eight is)
  filled_stand width t ns (inr all) is = filled_ints t ns all

  filling : (width : ℕ) (ns : List ℤ) (p : ℕ) → (width ≡ 8) ⊎ All FitsInt ns → IsArray (is_fill_type width) h.shared.heap (suc p) → DidStands h (over.fill w ns (suc p)) (machine.fill h ns (suc p))
  filling width ns p l array =
      let t = machine.component_of h (suc p) in
      let e = steps.onward h (with_heap h.shared (machine.stored h.shared.heap (suc p) 0 (machine.filled t ns))) (steps.gone h.frame h.next h.frame.regs) in
      where_alike (nat_le (length ns) (words.length_of w.heap (suc p))) (nat_le (length ns) (tagged.length_of h.shared.heap (suc p))) named.ArrayIndex
      (onward (over.stored w.heap (suc p) 0 (over.filled (over.component_of w (suc p)) ns)) (stack.gone w.frame w.next)) e
      (ap (nat_le (length ns)) (length_is w.heap h.shared.heap p stands.heap))
      (subst (λ (u : Ty). DidStands h (onward (over.stored w.heap (suc p) 0 (over.filled u ns)) (stack.gone w.frame w.next)) e) (sym (component_is (suc p)))
      (stored_stands p 0 (over.filled t ns) (machine.filled t ns) (plain_array (is_fill_type width) p array) (filled_stand width t ns l (array_type (is_fill_type width) p array))))

  filled_in : (a width : ℕ) (ns : List ℤ) → (width ≡ 8) ⊎ All FitsInt ns → DidStands h (word_mem w (Fill a width ns)) (mem h (Fill a width ns))
  filled_in a width ns l =
      reads_tested h (word_mem w (Fill a width ns)) (is_array_kind (is_fill_type width)) h.shared.heap (reg_at h.frame.regs a) (reg_word w.frame a) _ (is_at a)
      (λ t. on_object_stands (reg_word w.frame a) (over.fill w ns) (machine.fill h ns) (λ p e. filling width ns p l (array_at (is_fill_type width) (reg_word w.frame a) p e t)))

  thrown : (a : ℕ) → DidStands h (word_mem w (Throw a)) (mem h (Throw a))
  thrown a =
      reads_tested h (word_mem w (Throw a)) (fits_kind h.image (of_class throwable_name)) h.shared.heap (reg_at h.frame.regs a) (reg_word w.frame a) _ (is_at a)
      (λ t. on_object_stands (reg_word w.frame a) ThrowsRef ThrowsRef (λ p e. refl))

  -- ---- filled-new-array

  abbrev IsSame : steps.Reads Value → Value → Type 0
  IsSame (Ok y) x = y ≡ x
  IsSame (Err e) x = Unit {0}

  single_same : (b : Bool) (t : Ty) (x : Value) → IsSame (if b then on_next (steps.read_ref h.image h.shared.heap t x) (λ o. Ok x) else steps.kept_int x) x
  single_same true t v.Zero = refl
  single_same true t (v.Ref o) = by (tested (fits_kind h.image t) h.shared.heap o)
    where
      by : (b : Bool) → IsSame (on_next (steps.where_ref b o) (λ p. Ok (v.Ref o))) (v.Ref o)
      by true = refl
      by false = tt
  single_same true t x = tt
  single_same false t v.Zero = refl
  single_same false t (v.Num n) = refl
  single_same false t x = tt

  abbrev Each : List ℕ → (List Value → Did Left) → Did WordLeft → Type 0
  Each rs go d = (xs : List Value) → AreWords (map (reg_word w.frame) rs) xs → DidStands h d (go xs)

  inner : (x : Value) (read : steps.Reads (List Value)) (go : List Value → Did Left) (d : Did WordLeft) → DidStands h d (reading read (λ xs. go (x ∷ xs))) → DidStands h d (reading (on_next read (λ xs. Ok (x ∷ xs))) go)
  inner x (Ok xs) go d s = s
  inner x (Err e) go d s = tt

  one_each : (k : ℕ) (rest : steps.Reads (List Value)) (go : List Value → Did Left) (d : Did WordLeft) (read : steps.Reads Value) → IsSame read (reg_at h.frame.regs k) → DidStands h d (reading rest (λ xs. go (reg_at h.frame.regs k ∷ xs))) → DidStands h d (reading (on_next read (λ x. on_next rest (λ xs. Ok (x ∷ xs)))) go)
  one_each k rest go d (Err e) same s = tt
  one_each k rest go d (Ok y) same s = inner y rest go d (subst (λ x. DidStands h d (reading rest (λ xs. go (x ∷ xs)))) (sym same) s)

  each : (t : Ty) (rs : List ℕ) (go : List Value → Did Left) (d : Did WordLeft) → Each rs go d → DidStands h d (reading (machine.read_each h t rs) go)
  each t [] go d take = take [] tt
  each t (k ∷ ks) go d take =
      one_each k (machine.read_each h t ks) go d (steps.read_single h.image h.shared.heap t (reg_at h.frame.regs k)) (single_same (is_reference t) t (reg_at h.frame.regs k))
      (each t ks (λ xs. go (reg_at h.frame.regs k ∷ xs)) d (λ xs are. take (reg_at h.frame.regs k ∷ xs) (is_at k, are)))

  count_pushed : (ks : List Kind) (k : Kind) → length (ks ++ k ∷ []) ≡ suc (length ks)
  count_pushed [] k = refl
  count_pushed (q ∷ ks) k = ap suc (count_pushed ks k)

  last_pushed : (ks : List Kind) (k : Kind) → slice_get (ks ++ k ∷ []) (length ks) ≡ Some k
  last_pushed [] k = refl
  last_pushed (q ∷ ks) k = last_pushed ks k

  filled_array_stands : (x : WordHeap) (y : Heap) (n : ℕ) (ws : List ℕ) (xs : List Value) → HeapStands x y → IsBounded y → tagged.newest y ≡ suc n → IsPlain (tagged.kind_of y (suc n)) → AreWords ws xs → DidStands h (over.filled_array w ws x) (machine.filled_array h xs y)
  filled_array_stands x y n ws xs s short new plain are =
      let same : words.newest x ≡ tagged.newest y = newest_is x y s in
      let heaps : HeapStands (over.stored x (suc n) 0 ws) (machine.stored y (suc n) 0 xs) = words_stored x y n 0 ws xs plain s are in
      let one = subst (λ (m : ℕ). HeapStands (over.stored x m 0 ws) (machine.stored y (suc n) 0 xs)) (sym (same ∙ new)) heaps in
      let both = subst (λ (m : ℕ). HeapStands (over.stored x (words.newest x) 0 ws) (machine.stored y m 0 xs)) (sym new) one in
      let frame : FrameStands (stack.given (stack.gone w.frame w.next) (kept.One (words.newest x))) (steps.with_result h.frame h.next (pending.One (v.Ref (tagged.newest y)))) =
      record { method = stands.frame.method; at = stands.next; regs = stands.frame.regs; result = same; caught = refl } in
      left_stands (stack.given (stack.gone w.frame w.next) (kept.One (words.newest x))) (steps.with_result h.frame h.next (pending.One (v.Ref (tagged.newest y)))) (over.stored x (words.newest x) 0 ws) (machine.stored y (tagged.newest y) 0 xs) frame both
      (stored_bounded y (tagged.newest y) 0 xs short)

  room_by : (a b : Bool) (x : WordHeap) (y : Heap) (d : WordHeap → Did WordLeft) (e : Heap → Did Left) → a ≡ b → (b ≡ true → DidStands h (d x) (e y)) → DidStands h (steps.where_room (elim a [ true ↦ Some x | false ↦ None ]) d) (steps.where_room (elim b [ true ↦ Some y | false ↦ None ]) e)
  room_by true true x y d e same s = s refl
  room_by false false x y d e same s = tt
  room_by true false x y d e same s = absurd (cc)
  room_by false true x y d e same s = absurd (cc)

  new_filled : (rs : List ℕ) (t : Ty) → DidStands h (word_mem w (Filled rs t)) (mem h (Filled rs t))
  new_filled rs t =
      let n = length rs in
      let ws = map (reg_word w.frame) rs in
      let cost = 2 + n * words_of (component t) in
      let x = words.grown w.heap (kind.Array t) (replicate (n * words_of (component t)) 0) cost in
      let y = tagged.grown h.shared.heap (kind_of_tagged.Array t) (tagged.fresh_elements t n) cost in
      let stand : HeapStands x y = grown_stands w.heap h.shared.heap (kind_of_tagged.Array t) (replicate (n * words_of (component t)) 0) (tagged.fresh_elements t n) cost stands.heap (elements_stand n t) in
      let new = count_pushed h.shared.heap.kinds (kind_of_tagged.Array t) in
      let plain = array_plain (tagged.kind_of y (suc (length h.shared.heap.kinds))) t (last_pushed h.shared.heap.kinds (kind_of_tagged.Array t)) in
      each (component t) rs _ (word_mem w (Filled rs t))
      (λ xs are. room_by (words.has_room w.heap cost) (tagged.has_room h.shared.heap cost) x y (over.filled_array w ws) (machine.filled_array h xs) (room_is w.heap h.shared.heap cost stands.heap)
      (λ room. filled_array_stands x y (length h.shared.heap.kinds) ws xs stand (new_array_bounded h.shared.heap t n stands.bounded room) new plain are))

  -- ---- each of them

  pub mem_stands : (op : Op) → OperandsFit h.image op → PutsInMade h.shared.heap h.frame.regs op → DidStands h (word_mem w op) (mem h op)
  mem_stands (IntDivide o a b c) l made = divided o a b c l
  mem_stands (LongDivide o a b c) l made = divided_long o a b c
  mem_stands (ConstString a u) l made = room_got a _ _ (intern_stands w.heap h.shared.heap u stands.heap) (intern_bounded h.shared.heap u l stands.bounded)
  mem_stands (ConstClass a t) l made = room_got a _ _ (class_object_stands w.heap h.shared.heap t stands.heap) (class_object_bounded h.shared.heap t stands.bounded)
  mem_stands (Cast a t) l made = cast a t
  mem_stands (InstanceOf a b t) l made = asked a b t
  mem_stands (ArrayLength a b) l made = length_got a b
  mem_stands (New a c) l made = new_object a c
  mem_stands (NewArray a b t) l made = made_array a b t
  mem_stands (Filled rs t) l made = new_filled rs t
  mem_stands (Fill a width ns) l made = filled_in a width ns l
  mem_stands (Throw a) l made = thrown a
  mem_stands (ArrayGet s a b c) l made = array_got s a b c
  mem_stands (ArrayPut s a b c) l made = array_put s a b c
  mem_stands (FieldGet s a b x) l made = field_got s a b x l
  mem_stands (FieldPut s a b x) l made = field_put s a b x l made
  mem_stands (StaticGet s a x) l made = static_got s a x
  mem_stands (StaticPut s a x) l made = static_put s a x
  mem_stands op l made = tt

pub mem_steps_follow : MemStepsFollow
mem_steps_follow op w h l made fits stands = mem_stands w h fits stands op l made
