-- The native methods on words go where the tagged machine's go, of arguments that were read.
use Rattle.std.proofs.Common.{◌≡◌, ◌⊎◌, inl, inr, ℕ, zero, suc, ◌+◌, ◌-◌, ◌*◌, ◌≤◌, ◌%◌, ◌^◌, ◌<◌, ◌++◌, Bool, true, false, Option, Some, None, List, [], ◌∷◌, ℤ, pos, negsuc, All, length, take, drop, mod-lt, lit<, refl, sym, ap, ◌∙◌, subst, arith}
use Rattle.std.specs.Prelude.{bytes_eq, if◌then◌else◌, nat_le, slice_get, slice_index_or}
use Rattle.std.specs.Fmt.{decimal, signed_decimal}
use Rattle.std.specs.Int.Signed.{mag}
use Rattle.std.specs.Str.{IsAscii}
use Rattle.std.proofs.lemmas.Bool.{cases_lt}
use Rattle.std.proofs.lemmas.Fmt.{IsAscii-decimal}
use Rattle.std.proofs.lemmas.Str.Ascii.{All-from_ascii}
use Rattle.std.proofs.Math.Facts.{to_z-neg}
use Rattle.std.specs.Int.{w32, w64, cast_signed}
use Rattle.std.specs.Option.{option_map}
use Rattle.std.proofs.lemmas.Int.{of_z-to_z, to_z_pos}
use Rattle.std.proofs.lemmas.List.Elements.{All-append, All-cons, All-drop, All-head, All-nil, All-tail, All-take}
use Rattle.dv_machine.specs.Kind as tagged_kind
use Rattle.dv_machine.specs.Pending as pending
use Rattle.dv_defs.specs.declared.run.Limits.{Limits}
use Rattle.dv_defs.specs.declared.run.Named.TheVariants as named
use Rattle.dv_defs.specs.declared.run.Native.{Native}
use Rattle.dv_defs.specs.declared.run.Native.TheVariants as native
use Rattle.dv_machine.specs.Value.{Value}
use Rattle.dv_machine.specs.Value as v
use Rattle.dv_machine.specs.Heap as tagged
use Rattle.dv_machine.specs.Heap.{Heap}
use Rattle.dv_defs.specs.Numbers.{bits32, long_of}
use Rattle.dv_defs.specs.Texts.{utf8}
use Rattle.dv_machine.specs.Mem.{on_object}
use Rattle.dv_machine.specs.Natives as machine
use Rattle.dv_machine.specs.Calls.{chars_type}
use Rattle.dv_machine.specs.State.{fits_kind, passes}
use Rattle.dv_machine.specs.State.{Did, Here, Left, NoOutput, truth, where_room, with_heap, with_output, with_result}
use Rattle.dv_machine.specs.Texts as texts
use Rattle.dv_machine.specs.Threads.{goes as machine_goes, own_object}
use Rattle.dv_words.specs.declared.state.Kept.TheVariants as kept
use Rattle.dv_words.specs.Erasure.{erased_kind}
use Rattle.dv_words.specs.Heaps as words
use Rattle.dv_words.specs.Stacks as stacks
use Rattle.dv_words.specs.Standing.{AllFit, AreWords, Fits, FrameStands, HeapStands, IsWord}
use Rattle.dv_words.specs.State.{WordHeap}
use Rattle.dv_words.specs.Words.{int_of, word_of}
use Rattle.law_words.specs.Laws.{IsBounded, IsPlain, IsUnit}
use Rattle.dv_words.specs.Mem.{truth_word}
use Rattle.dv_words.specs.Natives as over
use Rattle.law_words.specs.StepLaws.{AtStands, IsNumber, OutcomeStands}
use Rattle.dv_words.specs.Steps as steps
use Rattle.dv_words.specs.Threads as threads
use Rattle.law_words.proofs.Added.{OptionStands, newest_is, string_added}
use Rattle.law_words.proofs.LocalSteps.{word_fits}
use Rattle.law_words.proofs.Objects.{StandAt, are_words, kind_is, length_is, stands_at}
use Rattle.law_words.proofs.Outcomes.{goes_on, if_alike, on_object_alike, onward_stands, where_alike, with_heaps, with_same_output}
use Rattle.law_words.proofs.Registers.{is_word_at}
use Rattle.law_words.proofs.Short.{IsBoundedOption, string_bounded, string_length}
use Rattle.law_words.proofs.ThreadSteps.{join_stands, notify_all_stands, notify_stands, own_object_is, start_stands, wait_stands}

-- ---- arguments by their types

abbrev pub IsReference : Value → Type 0
IsReference v.Zero = Unit {0}
IsReference (v.Ref o) = Unit {0}
IsReference x = ⊥

abbrev pub IsHalf : Value → Type 0
IsHalf (v.Lo n) = Unit {0}
IsHalf (v.Hi n) = Unit {0}
IsHalf x = ⊥

pub number_is : (w : ℕ) (x : Value) → IsNumber x → IsWord w x → int_of w ≡ machine.number_of x
number_is w v.Zero number is = ap int_of is
number_is w (v.Num n) number is = is
number_is w x number is = absurd number

pub object_is : (w : ℕ) (x : Value) → IsReference x → IsWord w x → w ≡ machine.object_number x
object_is w v.Zero ref is = is
object_is w (v.Ref o) ref is = is
object_is w x ref is = absurd ref

pub half_is : (w : ℕ) (x : Value) → IsHalf x → IsWord w x → w ≡ machine.half_of x
half_is w (v.Lo n) half is = is
half_is w (v.Hi n) half is = is
half_is w x half is = absurd half

-- ---- strings

kind_by : (k : Option tagged_kind.Kind) (ws : List ℕ) (xs : List Value) → StandAt k ws xs → (if over.is_string (option_map erased_kind k) then ws else []) ≡ texts.text_in k
kind_by None ws xs at = refl
kind_by (Some (tagged_kind.Object c)) ws xs at = refl
kind_by (Some (tagged_kind.Array t)) ws xs at = refl
kind_by (Some (tagged_kind.ClassOf t)) ws xs at = refl
kind_by (Some (tagged_kind.Str s)) ws xs at = at

pub text_is : (w : WordHeap) (h : Heap) (o : ℕ) → HeapStands w h → over.text_of w o ≡ texts.text_of h o
text_is w h zero stands = refl
text_is w h (suc o) stands =
    ap (λ k. if over.is_string k then words.words_of_object w (suc o) else []) (kind_is w h (suc o) stands)
    ∙ kind_by (tagged.kind_of h (suc o)) (words.words_of_object w (suc o)) (tagged.cells_at h (suc o)) (stands_at w h o stands)

-- a string is short, and has UTF-16 units
abbrev IsText : List ℕ → Type 0
IsText s = (length s < 2 ^ 31) × All IsUnit s

text_fits : (h : Heap) (o : ℕ) → IsBounded h → IsText (texts.text_of h o)
text_fits h zero b = (omega arith, All-nil IsUnit)
text_fits h (suc o) b = by (tagged.kind_of h (suc o)) refl
  where
    by : (k : Option tagged_kind.Kind) → tagged.kind_of h (suc o) ≡ k → IsText (texts.text_in k)
    by None is = (omega arith, All-nil IsUnit)
    by (Some (tagged_kind.Object c)) is = (omega arith, All-nil IsUnit)
    by (Some (tagged_kind.Array t)) is = (omega arith, All-nil IsUnit)
    by (Some (tagged_kind.ClassOf t)) is = (omega arith, All-nil IsUnit)
    by (Some (tagged_kind.Str s)) is = string_length h o s b is

module _ (w : steps.At) (h : Here) (stands : AtStands w h) where
  given_stands : (u : ℕ) (x : Value) → IsWord u x → FrameStands (stacks.given (stacks.gone w.frame w.next) (kept.One u)) (with_result h.frame h.next (pending.One x))
  given_stands u x is = record { method = stands.frame.method; at = stands.next; regs = stands.frame.regs; result = is; caught = refl }

  gives_stands : (u : ℕ) (x : Value) → IsWord u x → OutcomeStands (over.gives w u) (machine.gives h x)
  gives_stands u x is = onward_stands w h stands w.shared h.shared _ _ stands.shared (given_stands u x is) stands.bounded

  room_stands : (a : Option WordHeap) (b : Option Heap) → OptionStands a b → IsBoundedOption b → OutcomeStands (where_room a (over.gives_object w)) (where_room b (machine.gives_object h))
  room_stands None None s short = tt
  room_stands None (Some y) s short = absurd s
  room_stands (Some x) None s short = absurd s
  room_stands (Some x) (Some y) s short =
      onward_stands w h stands (steps.with_heap w.shared x) (with_heap h.shared y) _ _ (with_heaps w.shared h.shared x y stands.shared s) (given_stands (words.newest x) (v.Ref (tagged.newest y)) (newest_is x y s)) short

  new_text_stands : (s u : List ℕ) → s ≡ u → All IsUnit u → OutcomeStands (over.new_text w s) (machine.new_text h u)
  new_text_stands s u e units =
      subst (λ (t : List ℕ). OutcomeStands (over.new_text w t) (machine.new_text h u)) (sym e)
      (room_stands (words.alloc_string w.shared.heap u) (tagged.alloc_string h.shared.heap u) (string_added w.shared.heap h.shared.heap u stands.shared.heap) (string_bounded h.shared.heap u units stands.bounded))

  same_text : (o : ℕ) → over.text_of w.shared.heap o ≡ texts.text_of h.shared.heap o
  same_text o = text_is w.shared.heap h.shared.heap o stands.shared.heap

  printed_stands : (bs cs : List ℕ) → bs ≡ cs → OutcomeStands (over.printed w bs) (machine.printed h cs)
  printed_stands bs cs e =
      subst (λ (ds : List ℕ). OutcomeStands (over.printed w ds) (machine.printed h cs)) (sym e)
      (if_alike _ _ (steps.goes w (steps.with_output w.shared (w.shared.output ++ cs))) NoOutput (machine_goes h (with_output h.shared (h.shared.output ++ cs))) NoOutput
      (ap (λ os. nat_le (length os + length cs) w.limits.output) stands.shared.output ∙ ap (λ (l : Limits). nat_le (length h.shared.output + length cs) l.output) stands.limits)
      (goes_on w h stands (steps.with_output w.shared (w.shared.output ++ cs)) (with_output h.shared (h.shared.output ++ cs)) (with_same_output w.shared h.shared _ _ stands.shared (ap (λ os. os ++ cs) stands.shared.output)) stands.bounded) tt)

  length_stands : (o : ℕ) → OutcomeStands (over.gives w (length (over.text_of w.shared.heap o))) (machine.gives h (v.Num (pos (length (texts.text_of h.shared.heap o)))))
  length_stands o =
      gives_stands (length (over.text_of w.shared.heap o)) (v.Num (pos (length (texts.text_of h.shared.heap o))))
      (ap (λ us. int_of (length us)) (same_text o) ∙ to_z_pos w32 (length (texts.text_of h.shared.heap o)) (text_fits h.shared.heap o stands.bounded).0)

  -- ---- characters

  char_by : (o : Option ℕ) → ((c : ℕ) → o ≡ Some c → c < 2 ^ 31) → OutcomeStands (over.gives_char w o) (machine.gives_char h o)
  char_by None few = refl
  char_by (Some c) few = gives_stands c (v.Num (pos c)) (to_z_pos w32 c (few c refl))

  unit_at : (us : List ℕ) (k c : ℕ) → All IsUnit us → slice_get us k ≡ Some c → c < 2 ^ 31
  unit_at [] k c all is = absurd (cc)
  unit_at (u ∷ us) zero c all is = let e : u ≡ c = cc in let l : u < 2 ^ 16 = All-head IsUnit u us all in omega (arith, e, l)
  unit_at (u ∷ us) (suc k) c all is = unit_at us k c (All-tail IsUnit u us all) is

  char_in : (us : List ℕ) (n : ℤ) → All IsUnit us → OutcomeStands (over.char_at w us n) (machine.char_at h us n)
  char_in us (negsuc n) all = refl
  char_in us (pos k) all = char_by (slice_get us k) (λ c. unit_at us k c all)

  char_stands : (o : ℕ) (n : ℤ) → OutcomeStands (over.char_at w (over.text_of w.shared.heap o) n) (machine.char_at h (texts.text_of h.shared.heap o) n)
  char_stands o n = subst (λ (us : List ℕ). OutcomeStands (over.char_at w us n) (machine.char_at h (texts.text_of h.shared.heap o) n)) (sym (same_text o)) (char_in (texts.text_of h.shared.heap o) n (text_fits h.shared.heap o stands.bounded).1)

  -- ---- equal strings

  truth_stands : (a b : Bool) → a ≡ b → IsWord (truth_word a) (truth b)
  truth_stands true true e = refl
  truth_stands false false e = refl
  truth_stands true false e = absurd (cc)
  truth_stands false true e = absurd (cc)

  equal_by : (t : List ℕ) (k : Option tagged_kind.Kind) (ws : List ℕ) (xs : List Value) → StandAt k ws xs → (if over.is_string (option_map erased_kind k) then bytes_eq t ws else false) ≡ machine.same_text t k
  equal_by t None ws xs at = refl
  equal_by t (Some (tagged_kind.Object c)) ws xs at = refl
  equal_by t (Some (tagged_kind.Array u)) ws xs at = refl
  equal_by t (Some (tagged_kind.ClassOf u)) ws xs at = refl
  equal_by t (Some (tagged_kind.Str s)) ws xs at = ap (bytes_eq t) at

  equal_is : (o p : ℕ) → over.same_text w o p ≡ machine.same_text (texts.text_of h.shared.heap o) (tagged.kind_of h.shared.heap p)
  equal_is o zero = refl
  equal_is o (suc p) =
      ap (λ (t : List ℕ). if over.is_string (words.kind_of w.shared.heap (suc p)) then bytes_eq t (words.words_of_object w.shared.heap (suc p)) else false) (same_text o)
      ∙ ap (λ k. if over.is_string k then bytes_eq (texts.text_of h.shared.heap o) (words.words_of_object w.shared.heap (suc p)) else false) (kind_is w.shared.heap h.shared.heap (suc p) stands.shared.heap)
      ∙ equal_by (texts.text_of h.shared.heap o) (tagged.kind_of h.shared.heap (suc p)) _ _ (stands_at w.shared.heap h.shared.heap p stands.shared.heap)

  -- ---- characters of an array

  unit_is : (u : ℕ) (x : Value) → Fits u → IsNumber x → IsWord u x → u % 65536 ≡ bits32 (machine.number_of x) % 65536
  unit_is u v.Zero fits number is = ap (λ (n : ℕ). n % 65536) is
  unit_is u (v.Num n) fits number is = ap (λ (m : ℕ). m % 65536) (sym (of_z-to_z w32 u fits) ∙ ap word_of is)
  unit_is u x fits number is = absurd number

  units_are : (ws : List ℕ) (xs : List Value) → AllFit ws → All IsNumber xs → AreWords ws xs → over.units_in ws ≡ machine.units_in xs
  units_are [] [] fits all are = refl
  units_are [] (x ∷ xs) fits all are = absurd are
  units_are (u ∷ ws) [] fits all are = absurd are
  units_are (u ∷ ws) (x ∷ xs) fits all are =
      ap (λ (c : ℕ). c ∷ over.units_in ws) (unit_is u x (All-head Fits u ws fits) (All-head IsNumber x xs all) are.0)
      ∙ ap (λ cs. bits32 (machine.number_of x) % 65536 ∷ cs) (units_are ws xs (All-tail Fits u ws fits) (All-tail IsNumber x xs all) are.1)

  units_fit : (xs : List Value) → All IsUnit (machine.units_in xs)
  units_fit [] = All-nil IsUnit
  units_fit (x ∷ xs) = All-cons IsUnit _ _ (mod-lt (bits32 (machine.number_of x)) (lit< tt)) (units_fit xs)

  taken : (n : ℕ) (ws : List ℕ) (xs : List Value) → AreWords ws xs → AreWords (take n ws) (take n xs)
  taken zero ws xs are = tt
  taken (suc n) [] [] are = tt
  taken (suc n) [] (x ∷ xs) are = absurd are
  taken (suc n) (u ∷ ws) [] are = absurd are
  taken (suc n) (u ∷ ws) (x ∷ xs) are = (are.0, taken n ws xs are.1)

  dropped : (n : ℕ) (ws : List ℕ) (xs : List Value) → AreWords ws xs → AreWords (drop n ws) (drop n xs)
  dropped zero ws xs are = are
  dropped (suc n) [] [] are = tt
  dropped (suc n) [] (x ∷ xs) are = absurd are
  dropped (suc n) (u ∷ ws) [] are = absurd are
  dropped (suc n) (u ∷ ws) (x ∷ xs) are = dropped n ws xs are.1

  -- the words of an object fit
  object_fits : (wss : List (List ℕ)) (o : ℕ) → All AllFit wss → AllFit (slice_index_or wss o [])
  object_fits [] o all = All-nil Fits
  object_fits (ws ∷ wss) zero all = All-head AllFit ws wss all
  object_fits (ws ∷ wss) (suc o) all = object_fits wss o (All-tail AllFit ws wss all)

  chars_stand : (o : ℕ) (a b : ℤ) → IsPlain (tagged.kind_of h.shared.heap (suc o)) → All IsNumber (tagged.cells_at h.shared.heap (suc o)) → OutcomeStands (over.some_chars w (suc o) a b) (machine.some_chars h (suc o) a b)
  chars_stand o (negsuc a) b plain all = refl
  chars_stand o (pos a) (negsuc b) plain all = refl
  chars_stand o (pos a) (pos b) plain all =
      let ws = words.words_of_object w.shared.heap (suc o) in
      let xs = tagged.cells_at h.shared.heap (suc o) in
      let are = taken b (drop a ws) (drop a xs) (dropped a ws xs (are_words w.shared.heap h.shared.heap o stands.shared.heap plain)) in
      let fits = All-take Fits b (drop a ws) (All-drop Fits a ws (object_fits w.shared.heap.cells o stands.heap_fits.0)) in
      let numbers = All-take IsNumber b (drop a xs) (All-drop IsNumber a xs all) in
      where_alike _ _ named.IndexOutOfBounds (over.new_text w (over.units_in (take b (drop a ws)))) (machine.new_text h (machine.units_in (take b (drop a xs))))
      (ap (nat_le (a + b)) (length_is w.shared.heap h.shared.heap o stands.shared.heap))
      (new_text_stands _ _ (units_are (take b (drop a ws)) (take b (drop a xs)) fits numbers are) (units_fit (take b (drop a xs))))

  -- ---- numbers as text

  long_mag : (a b : ℕ) → Fits a → Fits b → mag (long_of a b) < 2 ^ 63
  long_mag a b f g = by (cases_lt (a + b * 2 ^ 32) (2 ^ 63))
    where
      by : (a + b * 2 ^ 32 < 2 ^ 63) ⊎ (2 ^ 63 ≤ a + b * 2 ^ 32) → mag (long_of a b) < 2 ^ 63
      by (inl below) = subst (λ (z : ℤ). mag z < 2 ^ 63) (sym (to_z_pos w64 (a + b * 2 ^ 32) below)) below
      by (inr above) =
          let m : ℕ = a + b * 2 ^ 32 in
          let whole : m < 2 ^ 64 = omega (arith, f, g) in
          let k : ℕ = 2 ^ 64 - suc m in
          let back : 2 ^ 64 - suc k ≡ m = omega (arith, whole) in
          let small : k < 2 ^ 63 = omega (arith, above, whole) in
          subst (λ (z : ℤ). mag z < 2 ^ 63) (sym (to_z-neg w64 k small) ∙ ap (cast_signed w64) back) small

  ascii_units : (s : List ℕ) → IsAscii s → All IsUnit s
  ascii_units s all = bytes_fit s (All-from_ascii s all)
    where
      bytes_fit : (s : List ℕ) → All (λ (c : ℕ). c < 128) s → All IsUnit s
      bytes_fit [] all = All-nil IsUnit
      bytes_fit (c ∷ cs) all = All-cons IsUnit c cs (let l : c < 128 = All-head (λ (c : ℕ). c < 128) c cs all in omega (arith, l)) (bytes_fit cs (All-tail (λ (c : ℕ). c < 128) c cs all))

  decimal_units : (z : ℤ) → mag z < 2 ^ 63 → All IsUnit (signed_decimal z)
  decimal_units (pos n) l = ascii_units (decimal n) (IsAscii-decimal n (omega (arith, l)))
  decimal_units (negsuc n) l = All-cons IsUnit 45 _ (omega arith) (ascii_units _ (IsAscii-decimal (suc n) (omega (arith, l))))

  -- ---- each of them

  -- what its arguments are
  abbrev pub ArgumentsAre : Native → List Value → Type 0
  ArgumentsAre native.CharAt xs = IsReference (machine.arg xs 0) × IsNumber (machine.arg xs 1)
  ArgumentsAre native.Equals xs = IsReference (machine.arg xs 0) × IsReference (machine.arg xs 1)
  ArgumentsAre native.Concat xs = IsReference (machine.arg xs 0) × IsReference (machine.arg xs 1)
  ArgumentsAre native.OfLong xs = IsHalf (machine.arg xs 0) × IsHalf (machine.arg xs 1)
  ArgumentsAre native.OfChars xs =
      IsReference (machine.arg xs 0) × IsNumber (machine.arg xs 1) × IsNumber (machine.arg xs 2) ×
      ((o : ℕ) → machine.object_number (machine.arg xs 0) ≡ suc o → passes (fits_kind h.image chars_type) (tagged.kind_of h.shared.heap (suc o)) ≡ true)
  ArgumentsAre native.Println xs = IsNumber (machine.arg xs 0)
  ArgumentsAre native.CurrentThread xs = Unit {0}
  ArgumentsAre n xs = IsReference (machine.arg xs 0)

  pub native_stands : (n : Native) (ws : List ℕ) (xs : List Value) → AllFit ws → AreWords ws xs → ArgumentsAre n xs → OutcomeStands (over.native_step w n ws) (machine.native_step h n xs)
  native_stands n ws xs fits are = by n
    where
      word_is : (k : ℕ) → IsWord (over.arg ws k) (machine.arg xs k)
      word_is k = is_word_at ws xs k are

      object : (k : ℕ) → IsReference (machine.arg xs k) → over.arg ws k ≡ machine.object_number (machine.arg xs k)
      object k ref = object_is (over.arg ws k) (machine.arg xs k) ref (word_is k)

      number : (k : ℕ) → IsNumber (machine.arg xs k) → int_of (over.arg ws k) ≡ machine.number_of (machine.arg xs k)
      number k is = number_is (over.arg ws k) (machine.arg xs k) is (word_is k)

      half : (k : ℕ) → IsHalf (machine.arg xs k) → over.arg ws k ≡ machine.half_of (machine.arg xs k)
      half k is = half_is (over.arg ws k) (machine.arg xs k) is (word_is k)

      on : (go : ℕ → Did steps.Left) (e : Did Left) → ((k : ℕ) → IsReference (machine.arg xs k) → OutcomeStands (go (machine.object_number (machine.arg xs k))) e → OutcomeStands (go (over.arg ws k)) e)
      on go e k ref s = subst (λ (o : ℕ). OutcomeStands (go o) e) (sym (object k ref)) s

      concatenated : (o p : ℕ) → OutcomeStands (over.new_text w (over.text_of w.shared.heap o ++ over.text_of w.shared.heap p)) (machine.new_text h (texts.text_of h.shared.heap o ++ texts.text_of h.shared.heap p))
      concatenated o p =
          new_text_stands _ _ (ap (λ us. us ++ over.text_of w.shared.heap p) (same_text o) ∙ ap (λ us. texts.text_of h.shared.heap o ++ us) (same_text p))
          (All-append IsUnit (texts.text_of h.shared.heap o) (texts.text_of h.shared.heap p) (text_fits h.shared.heap o stands.bounded).1 (text_fits h.shared.heap p stands.bounded).1)

      by : (n : Native) → ArgumentsAre n xs → OutcomeStands (over.native_step w n ws) (machine.native_step h n xs)
      by native.Wait ref = on (threads.wait_on w) (machine.native_step h native.Wait xs) 0 ref (wait_stands w h stands (machine.object_number (machine.arg xs 0)))
      by native.Notify ref = on (threads.notify_on w) (machine.native_step h native.Notify xs) 0 ref (notify_stands w h stands (machine.object_number (machine.arg xs 0)))
      by native.NotifyAll ref = on (threads.notify_all_on w) (machine.native_step h native.NotifyAll xs) 0 ref (notify_all_stands w h stands (machine.object_number (machine.arg xs 0)))
      by native.Start ref = on (threads.start_on w) (machine.native_step h native.Start xs) 0 ref (start_stands w h stands (machine.object_number (machine.arg xs 0)))
      by native.Join ref = on (threads.join_on w) (machine.native_step h native.Join xs) 0 ref (join_stands w h stands (machine.object_number (machine.arg xs 0)))
      by native.CurrentThread t = gives_stands (threads.own_object w) (v.Ref (own_object h)) (own_object_is w h stands)
      by native.Length ref = on (λ o. over.gives w (length (over.text_of w.shared.heap o))) (machine.native_step h native.Length xs) 0 ref (length_stands (machine.object_number (machine.arg xs 0)))
      by native.CharAt (ref, is) =
          on (λ o. over.char_at w (over.text_of w.shared.heap o) (int_of (over.arg ws 1))) (machine.native_step h native.CharAt xs) 0 ref
          (subst (λ (n : ℤ). OutcomeStands (over.char_at w (over.text_of w.shared.heap (machine.object_number (machine.arg xs 0))) n) (machine.native_step h native.CharAt xs)) (sym (number 1 is)) (char_stands (machine.object_number (machine.arg xs 0)) (machine.number_of (machine.arg xs 1))))
      by native.Equals (ref, other) =
          let o = machine.object_number (machine.arg xs 0) in
          let p = machine.object_number (machine.arg xs 1) in
          on (λ o. over.gives w (truth_word (over.same_text w o (over.arg ws 1)))) (machine.native_step h native.Equals xs) 0 ref
          (on (λ p. over.gives w (truth_word (over.same_text w o p))) (machine.native_step h native.Equals xs) 1 other
          (gives_stands _ _ (truth_stands (over.same_text w o p) (machine.same_text (texts.text_of h.shared.heap o) (tagged.kind_of h.shared.heap p)) (equal_is o p))))
      by native.Concat (ref, other) =
          let o = machine.object_number (machine.arg xs 0) in
          on (λ o. on_object (λ p. over.new_text w (over.text_of w.shared.heap o ++ over.text_of w.shared.heap p)) (over.arg ws 1)) (machine.native_step h native.Concat xs) 0 ref
          (on_object_alike (over.arg ws 1) (machine.object_number (machine.arg xs 1)) (λ p. over.new_text w (over.text_of w.shared.heap o ++ over.text_of w.shared.heap p)) (λ p. machine.new_text h (texts.text_of h.shared.heap o ++ texts.text_of h.shared.heap p)) (object 1 other)
          (λ q e. concatenated o (suc q)))
      by native.OfLong (low, high) =
          let a = machine.half_of (machine.arg xs 0) in
          let b = machine.half_of (machine.arg xs 1) in
          let same : long_of (over.arg ws 0) (over.arg ws 1) ≡ long_of a b = ap (λ (n : ℕ). long_of n (over.arg ws 1)) (half 0 low) ∙ ap (long_of a) (half 1 high) in
          let f : Fits a = subst Fits (half 0 low) (word_fits ws 0 fits) in
          let g : Fits b = subst Fits (half 1 high) (word_fits ws 1 fits) in
          new_text_stands _ _ (ap signed_decimal same) (decimal_units (long_of a b) (long_mag a b f g))
      by native.OfChars (ref, start, count, array) =
          let a = machine.number_of (machine.arg xs 1) in
          let b = machine.number_of (machine.arg xs 2) in
          on_object_alike (over.arg ws 0) (machine.object_number (machine.arg xs 0)) (λ o. over.some_chars w o (int_of (over.arg ws 1)) (int_of (over.arg ws 2))) (λ o. machine.some_chars h o a b) (object 0 ref)
          (λ q e. let chars = stands.chars q (array q e) in
          subst (λ (m : ℤ). OutcomeStands (over.some_chars w (suc q) m (int_of (over.arg ws 2))) (machine.some_chars h (suc q) a b)) (sym (number 1 start))
          (subst (λ (m : ℤ). OutcomeStands (over.some_chars w (suc q) a m) (machine.some_chars h (suc q) a b)) (sym (number 2 count)) (chars_stand q a b chars.0 chars.1)))
      by native.Print ref =
          on_object_alike (over.arg ws 0) (machine.object_number (machine.arg xs 0)) (λ o. over.printed w (utf8 (over.text_of w.shared.heap o))) (λ o. machine.printed h (utf8 (texts.text_of h.shared.heap o))) (object 0 ref)
          (λ q e. printed_stands _ _ (ap utf8 (same_text (suc q))))
      by native.Println is = printed_stands _ _ (ap (λ n. signed_decimal n ++ 10 ∷ []) (number 0 is))
