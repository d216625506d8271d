-- Steps that write an array's elements, and those that fill an array, are fine.
use Rattle.std.proofs.Common.{◌≡◌, ℕ, zero, suc, ◌+◌, ◌*◌, ◌<◌, List, [], ◌∷◌, length, Bool, true, false, Some, None, refl, sym, ap, subst, arith}
use Rattle.std.specs.Prelude.{Ok}
use Rattle.dv_defs.specs.declared.names.Ty.{Ty}
use Rattle.dv_defs.specs.Images.{Image}
use Rattle.dv_machine.specs.Value.{Value}
use Rattle.dv_machine.specs.Value as v
use Rattle.dv_machine.specs.Kind as kind
use Rattle.dv_machine.specs.Frame.{Frame}
use Rattle.dv_machine.specs.Level.{Level}
use Rattle.dv_typing.specs.declared.typing.RegType.{RegType}
use Rattle.dv_typing.specs.declared.typing.RegType.TheVariants as ty
use Rattle.dv_typing.specs.declared.typing.RegState.{RegState}
use Rattle.dv_defs.specs.Parts.{Call, Suffix}
use Rattle.dv_defs.specs.Types.{component, is_long, is_reference, words_of}
use Rattle.dv_defs.specs.Pools.{Method}
use Rattle.dv_defs.specs.Order.{instance}
use Rattle.dv_defs.specs.Op.{Code, Invoke}
use Rattle.dv_typing.specs.Statics.{At}
use Rattle.dv_typing.specs.RegTypes.{Types, type_at, reg_types, single_type}
use Rattle.dv_typing.specs.Demands.{goes_on, int, put_for, is_int, is_ref}
use Rattle.dv_typing.specs.Transfer.{out, going}
use Rattle.dv_machine.specs.Heap.{Heap, kind_of, kind_type, length_of}
use Rattle.dv_machine.specs.State.{Thread, Machine, on_next, reg_at, read_int, onward, gone, type_of, with_heap, type_of_kind}
use Rattle.dv_machine.specs.Mem.{component_of, narrowed_all, stored, read_put, is_storable}
use Rattle.dv_machine.specs.Step.{here}
use Rattle.dv_machine.specs.Conforming.{Own, Conforms, IsThere}
use Rattle.dv_machine.specs.WellTyped.{Typings, own_of, this_above, nobody, element_types}
use Rattle.law_machine.specs.Premises.{DidFine, HoldsOf}
use Rattle.law_machine.specs.Reading.{Anything}
use Rattle.law_types.proofs.Facts.{no}
use Rattle.law_machine.proofs.lemmas.Heap.Cells.{reg_cells}
use Rattle.law_machine.proofs.lemmas.HeapSteps.Left.{gone_left}
use Rattle.law_machine.proofs.lemmas.HeapSteps.Cells.{fits_there, narrowed_count, narrowed_each, stored_fine}
use Rattle.law_machine.proofs.lemmas.HeapSteps.Elements.{element_at, short_types, long_types}
use Rattle.law_machine.proofs.lemmas.HeapSteps.Arrays.{component_is}
use Rattle.law_machine.proofs.lemmas.Local.Stands.{Stands}
use Rattle.law_machine.proofs.lemmas.Readers.Plain.{next_holds, reads_int, reads_two, reads_reference}
use Rattle.law_types.proofs.Demanded.{demanded}
use Rattle.law_types.proofs.Interfaces.{instance_reference}
use Rattle.law_flow.proofs.Statics.{KeepsRules}
use Rattle.dv_defs.specs.declared.faults.Rule.TheVariants as rule

-- ---- what a store takes

-- a number, whatever the frame
int_value : (image : Image) (heap : Heap) (own : Own) (y : Value) (u : RegType) → is_int u ≡ true → Conforms image heap own y u → Conforms image heap nobody y ty.Int
int_value image heap own v.Zero ty.Zero e c = tt
int_value image heap own y ty.Zero e c = absurd c
int_value image heap own v.Zero ty.Int e c = tt
int_value image heap own (v.Num n) ty.Int e c = tt
int_value image heap own y ty.Int e c = absurd c
int_value image heap own y u e c = no e

-- null, or an object that is there
abbrev pub IsReference : Image → Heap → Value → Type 0
IsReference image heap v.Zero = Unit {0}
IsReference image heap (v.Ref o) = IsThere image heap o
IsReference image heap y = ⊥

ref_value : (image : Image) (heap : Heap) (own : Own) (y : Value) (u : RegType) → is_ref u ≡ true → Conforms image heap own y u → IsReference image heap y
ref_value image heap own v.Zero ty.Zero e c = tt
ref_value image heap own y ty.Zero e c = absurd c
ref_value image heap own v.Zero (ty.Class d) e c = tt
ref_value image heap own (v.Ref o) (ty.Class d) e c = fits_there image heap o d c
ref_value image heap own y (ty.Class d) e c = absurd c
ref_value image heap own y u e c = no e

-- the words that an element of this suffix takes
abbrev pub IsPut : Image → Heap → Suffix → List Value → Type 0
IsPut image heap Suffix.Long ys = (lo : ℕ) × (hi : ℕ) × (ys ≡ v.Lo lo ∷ v.Hi hi ∷ [])
IsPut image heap Suffix.Object ys = (y : Value) × (ys ≡ y ∷ []) × IsReference image heap y
IsPut image heap w ys = (y : Value) × (ys ≡ y ∷ []) × Conforms image heap nobody y ty.Int

module _ (image : Image) (T : Typings) (m : Machine) (t : ℕ) (thread : Thread) (own : Method) (f : Frame) (rest : List Level) (x : At) (s : RegState) (h : Stands image T m t thread own f rest x s) (code : Code) (rules : KeepsRules image code x.op) (apart : (c : Call) (ks : List ℕ) (g : Method) → x.op ≡ Invoke c ks g → ⊥) where
  narrow_put : (a : ℕ) → int s.regs a ≡ None → HoldsOf (λ ys. (y : Value) × (ys ≡ y ∷ []) × Conforms image m.shared.heap nobody y ty.Int) (on_next (read_int (reg_at f.regs a)) (λ n. Ok (reg_at f.regs a ∷ [])))
  narrow_put a d = next_holds Anything (λ ys. (y : Value) × (ys ≡ y ∷ []) × Conforms image m.shared.heap nobody y ty.Int) _ _ (reads_int image m.shared.heap (own_of image (this_above image rest) own) f.regs s.regs a h.conform.good.regs d) (λ n q. (reg_at f.regs a, refl, int_value image m.shared.heap (own_of image (this_above image rest) own) (reg_at f.regs a) (type_at s.regs a) (demanded (is_int (type_at s.regs a)) (rule.V 2) d) (h.conform.good.regs a)))

  pub put_holds : (w : Suffix) (a : ℕ) → put_for s.regs a w ≡ None → HoldsOf (IsPut image m.shared.heap w) (read_put (here image m t own f rest x.next) a w)
  put_holds Suffix.Long a d = next_holds Anything (IsPut image m.shared.heap Suffix.Long) _ _ (reads_two image m.shared.heap (own_of image (this_above image rest) own) f.regs s.regs a h.conform.good.regs d) (λ p q. (p.lo, p.hi, refl))
  put_holds Suffix.Object a d = next_holds (IsThere image m.shared.heap) (IsPut image m.shared.heap Suffix.Object) _ _ (reads_reference image m.shared.heap (own_of image (this_above image rest) own) f.regs s.regs a h.conform.good.regs d) (λ o q. (reg_at f.regs a, refl, ref_value image m.shared.heap (own_of image (this_above image rest) own) (reg_at f.regs a) (type_at s.regs a) (demanded (is_ref (type_at s.regs a)) (rule.V 4) d) (h.conform.good.regs a)))
  put_holds Suffix.Int a d = narrow_put a d
  put_holds Suffix.Boolean a d = narrow_put a d
  put_holds Suffix.Byte a d = narrow_put a d
  put_holds Suffix.Char a d = narrow_put a d
  put_holds Suffix.Short a d = narrow_put a d

  -- ---- what it leaves

  module _ (o : ℕ) (u : Ty) (e : kind_of m.shared.heap (suc o) ≡ Some (kind.Array u)) (on : goes_on x.op ≡ true) (same : out image own f.at x.op s ≡ going s s.regs) where
    -- these words from this cell on
    pub cells_left : (c : Ty) (at : ℕ) (ys : List Value) → component u ≡ c → ((j : ℕ) → j < length ys → Conforms image m.shared.heap nobody (reg_at ys j) (type_at (element_types (length_of m.shared.heap (suc o)) (component u)) (at + j))) → DidFine image T m t thread x (onward (here image m t own f rest x.next) (with_heap m.shared (stored m.shared.heap (suc o) at ys)) (gone f x.next f.regs))
    cells_left c at ys q w = let st = stored_fine image m.shared.heap (suc o) (kind.Array u) at ys h.may.typed.heap e w in gone_left image T m t thread own f rest x s h apart on (stored m.shared.heap (suc o) at ys) st.1 st.0 same

    -- one element
    element_left : (k : ℕ) (ys : List Value) → k < length_of m.shared.heap (suc o) → length ys ≡ words_of (component u) → ((j : ℕ) → Conforms image m.shared.heap nobody (reg_at ys j) (type_at (reg_types (component u)) j)) → DidFine image T m t thread x (onward (here image m t own f rest x.next) (with_heap m.shared (stored m.shared.heap (suc o) (k * words_of (component_of (here image m t own f rest x.next) (suc o))) (narrowed_all (component_of (here image m t own f rest x.next) (suc o)) ys))) (gone f x.next f.regs))
    element_left k ys l n w =
        let narrow = narrowed_each image m.shared.heap (component u) ys (reg_types (component u)) (reg_cells (component u)) w in
        let count = narrowed_count (component u) ys in
        let each : (j : ℕ) → j < length (narrowed_all (component u) ys) → Conforms image m.shared.heap nobody (reg_at (narrowed_all (component u) ys) j) (type_at (element_types (length_of m.shared.heap (suc o)) (component u)) (k * words_of (component u) + j)) = λ j i. subst (λ (r : RegType). Conforms image m.shared.heap nobody (reg_at (narrowed_all (component u) ys) j) r) (sym (element_at (component u) (length_of m.shared.heap (suc o)) k j l (omega (arith, i, n, count)))) (narrow j) in
        subst (λ (c : Ty). DidFine image T m t thread x (onward (here image m t own f rest x.next) (with_heap m.shared (stored m.shared.heap (suc o) (k * words_of c) (narrowed_all c ys))) (gone f x.next f.regs))) (sym (component_is image T m t thread own f rest x s h code rules apart (suc o) u e)) (cells_left (component u) (k * words_of (component u)) (narrowed_all (component u) ys) refl each)

    one_word : (y : Value) (r : RegType) → Conforms image m.shared.heap nobody y r → (j : ℕ) → Conforms image m.shared.heap nobody (reg_at (y ∷ []) j) (type_at (r ∷ []) j)
    one_word y r c zero = c
    one_word y r c (suc j) = tt

    -- an element of one word
    pub short_left : (k : ℕ) (y : Value) → k < length_of m.shared.heap (suc o) → is_long (component u) ≡ false → Conforms image m.shared.heap nobody y (single_type (component u)) → DidFine image T m t thread x (onward (here image m t own f rest x.next) (with_heap m.shared (stored m.shared.heap (suc o) (k * words_of (component_of (here image m t own f rest x.next) (suc o))) (narrowed_all (component_of (here image m t own f rest x.next) (suc o)) (y ∷ [])))) (gone f x.next f.regs))
    short_left k y l z c =
        let words : words_of (component u) ≡ 1 = ap (λ (b : Bool). elim b as (λ q. ℕ) [ true ↦ 2 | false ↦ 1 ]) z in
        element_left k (y ∷ []) l (sym words) (λ j. subst (λ (ts : Types). Conforms image m.shared.heap nobody (reg_at (y ∷ []) j) (type_at ts j)) (sym (short_types (component u) z)) (one_word y (single_type (component u)) c j))

    pub long_left : (k lo hi : ℕ) → k < length_of m.shared.heap (suc o) → is_long (component u) ≡ true → DidFine image T m t thread x (onward (here image m t own f rest x.next) (with_heap m.shared (stored m.shared.heap (suc o) (k * words_of (component_of (here image m t own f rest x.next) (suc o))) (narrowed_all (component_of (here image m t own f rest x.next) (suc o)) (v.Lo lo ∷ v.Hi hi ∷ [])))) (gone f x.next f.regs))
    long_left k lo hi l z =
        let words : words_of (component u) ≡ 2 = ap (λ (b : Bool). elim b as (λ q. ℕ) [ true ↦ 2 | false ↦ 1 ]) z in
        element_left k (v.Lo lo ∷ v.Hi hi ∷ []) l (sym words) (λ j. subst (λ (ts : Types). Conforms image m.shared.heap nobody (reg_at (v.Lo lo ∷ v.Hi hi ∷ []) j) (type_at ts j)) (sym (long_types (component u) z)) (two j))
      where
        two : (j : ℕ) → Conforms image m.shared.heap nobody (reg_at (v.Lo lo ∷ v.Hi hi ∷ []) j) (type_at (ty.LongLo ∷ ty.LongHi ∷ []) j)
        two zero = tt
        two (suc zero) = tt
        two (suc (suc j)) = tt

    -- an object that passes the test of the store
    pub storable : (y : Value) → is_reference (component u) ≡ true → IsReference image m.shared.heap y → is_storable (here image m t own f rest x.next) (suc o) Suffix.Object (y ∷ []) ≡ true → Conforms image m.shared.heap nobody y (ty.Class (component u))
    storable v.Zero r i q = tt
    storable (v.Ref zero) r i q = tt
    storable (v.Ref (suc p)) r i q =
        let was = subst (λ (c : Ty). instance image (type_of image m.shared.heap (suc p)) c ≡ true) (component_is image T m t thread own f rest x s h code rules apart (suc o) u e) q in
        let type : type_of image m.shared.heap (suc p) ≡ kind_type image i.kind = ap (type_of_kind image) i.has_kind in
        let is = subst (λ (z : Ty). instance image z (component u) ≡ true) type was in
        record { object = i; fits = h.may.accepted.order.instance_fits (kind_type image i.kind) (component u) (instance_reference image (kind_type image i.kind) (component u) is r) is }
    storable y r i q = absurd i
