-- A call pushes a frame that stands at the begin of its method.
use Rattle.std.proofs.Common.{◌≡◌, ℕ, suc, ◌+◌, ◌≤◌, List, [], ◌∷◌, length, Bool, true, false, Option, Some, refl, sym, ap, ◌∙◌, subst, arith}
use Rattle.std.specs.Prelude.{◌-◌, replicate, ◌&&◌, nat_le, All, if◌then◌else◌}
use Rattle.std.proofs.lemmas.List.{length-append, length-replicate}
use Rattle.std.proofs.lemmas.List.Elements.{All-cons, All-append, All-replicate}
use Rattle.dv_defs.specs.declared.names.Ty.{Ty}
use Rattle.dv_defs.specs.declared.code.Body.{Body}
use Rattle.dv_defs.specs.Images.{Image}
use Rattle.dv_machine.specs.Value.{Value}
use Rattle.dv_machine.specs.Value as v
use Rattle.dv_machine.specs.Frame.{Frame}
use Rattle.dv_machine.specs.Level.{Level}
use Rattle.dv_machine.specs.Level as level
use Rattle.dv_typing.specs.declared.typing.RegType.TheVariants as ty
use Rattle.dv_typing.specs.declared.typing.RegState.{RegState}
use Rattle.dv_defs.specs.Types.{words_of_all}
use Rattle.dv_defs.specs.Pools.{Method, method_at, is_static, own_type}
use Rattle.dv_defs.specs.Op.{Code, code_at}
use Rattle.dv_typing.specs.Statics.{At, arg_words, receiver_words}
use Rattle.dv_typing.specs.RegTypes.{Types, reg_types, all_types}
use Rattle.dv_typing.specs.Transfer.{arg_types, receiver_type, begins_uninitialised, entry_state}
use Rattle.dv_machine.specs.Heap.{Heap}
use Rattle.dv_machine.specs.State.{Thread, Machine, left, NoRoom, regs_in, words_in}
use Rattle.dv_machine.specs.Calls.{entered_frame, registers_of, enter}
use Rattle.dv_machine.specs.Step.{here}
use Rattle.dv_machine.specs.Conforming.{IsGood, RefFine, RefsFine, Conform}
use Rattle.dv_machine.specs.WellTyped.{Typings, own_of, this_above, records, IsPlaced, IsCalled, IsNoInitialiser, CodeFine}
use Rattle.law_machine.specs.Premises.{LeftFine, ThrowStays, DidFine}
use Rattle.law_machine.proofs.lemmas.Calls.Entered.{entered_conforms}
use Rattle.law_machine.proofs.lemmas.Common.Conformity.{frame_up}
use Rattle.law_machine.proofs.lemmas.Local.Still.{still, same_shared, IsQuiet}
use Rattle.law_machine.proofs.lemmas.Local.Stands.{Stands, code_fine, frame_refs, rest_refs, stack_fine}
use Rattle.law_flow.proofs.MethodCode.{the_code, code_there}
use Rattle.law_machine.proofs.lemmas.Common.MethodCode.{registers_are}
use Rattle.law_machine.proofs.lemmas.Heap.Cells.{reg_count}

-- ---- how many words the arguments are

all_count : (ts : List Ty) → length (all_types ts) ≡ words_of_all ts
all_count [] = refl
all_count (t ∷ ts) = let n = reg_count t in let k = all_count ts in omega (arith, length-append (reg_types t) (all_types ts), n, k)

receiver_count : (image : Image) (m : Method) → length (receiver_type image m) ≡ receiver_words m
receiver_count image m = by_tests (is_static m) (begins_uninitialised image m)
  where
    by_tests : (b d : Bool) → length (elim b as (λ w. Types) [ true ↦ [] | false ↦ elim d as (λ w. Types) [ true ↦ ty.UninitThis ∷ [] | false ↦ ty.Class (own_type image m) ∷ [] ] ]) ≡ (elim b as (λ w. ℕ) [ true ↦ 0 | false ↦ 1 ])
    by_tests true d = refl
    by_tests false true = refl
    by_tests false false = refl

args_count : (image : Image) (m : Method) → length (arg_types image m) ≡ arg_words m
args_count image m = let n = receiver_count image m in let k = all_count m.def.proto.params in omega (arith, length-append (receiver_type image m) (all_types m.def.proto.params), n, k)

-- ---- the code of a method with a body

frame_count : (m : Method) (b : Body) (xs : List Value) (p : Bool) → m.def.body ≡ Some b → length xs ≤ b.registers → length (entered_frame m xs p).regs ≡ b.registers
frame_count m b xs p e l =
    let n = registers_are m b e in
    length-append (replicate (registers_of m - length xs) v.Undef) xs ∙ ap (λ z. z + length xs) (length-replicate (registers_of m - length xs) v.Undef) ∙ omega (arith, n, l)

-- ---- the frame

-- what a call lands on, with its argument words
pub record CanEnter (image : Image) (heap : Heap) (this : Option ℕ) (k : Method) (xs : List Value) (p : Bool) : Type 0 where
  pub there : method_at image k.id ≡ Some k
  pub code : Body
  pub has_body : k.def.body ≡ Some code
  pub flag : p ≡ begins_uninitialised image k
  pub good : IsGood image heap (own_of image this k) xs (arg_types image k)
  pub refs : All (RefFine image heap) xs

module _ (image : Image) (T : Typings) (m : Machine) (t : ℕ) (thread : Thread) (own : Method) (f : Frame) (rest : List Level) (x : At) (s : RegState) (h : Stands image T m t thread own f rest x s) (k : Method) (xs : List Value) (p : Bool) where
  abbrev heap : Heap
  heap = m.shared.heap

  -- the object on which a constructor is called is its `this`
  abbrev pub below_it : List Level
  below_it = level.Code f ∷ rest

  module _ (e : CanEnter image heap (this_above image below_it) k xs p) (c : IsCalled image k f) (n : IsNoInitialiser image k) where
    abbrev code : Code
    code = the_code k e.code

    has_code : code_at image k.id ≡ Some code
    has_code = code_there image k.id k e.code e.there e.has_body

    pushed_code : CodeFine image T heap (entered_frame k xs p) below_it
    pushed_code = record {
      frame = record {
        code = code;
        has_code = has_code;
        registers = frame_count k e.code xs p e.has_body (let r = h.may.accepted.typed.room k.id code has_code in let q = args_count image k in let w = e.good.count in omega (arith, r, q, w));
      };
      below = (c, n);
    }

    pushed_conforms : Conform image heap (own_of image (this_above image below_it) k) (entered_frame k xs p) (entry_state image k e.code.registers)
    pushed_conforms = subst (λ b. Conform image heap (own_of image (this_above image below_it) k) (entered_frame k xs b) (entry_state image k e.code.registers)) (sym e.flag) (entered_conforms image heap (this_above image below_it) k e.code xs e.has_body e.good)

    pushed_placed : IsPlaced image T heap (this_above image below_it) (entered_frame k xs p)
    pushed_placed =
        let l = h.may.accepted.typed.entry k.id code has_code in
        record {
          method = k;
          has_method = e.there;
          state = l.state;
          has_state = l.has_state;
          conform = frame_up image h.may.accepted.order heap (own_of image (this_above image below_it) k) (entered_frame k xs p) _ l.state l.below pushed_conforms;
        }

    caller_placed : IsPlaced image T heap (this_above image rest) f
    caller_placed = record { method = own; has_method = h.has_own; state = s; has_state = h.has_state; conform = h.conform }

    pushed_left : IsQuiet image m t → LeftFine image T m t thread (same_shared image T m t thread h.has_thread (level.Code (entered_frame k xs p) ∷ below_it))
    pushed_left q = still image T m t thread h.has_thread (level.Code (entered_frame k xs p) ∷ below_it) h.may.typed q
        ((stack_fine image T m t thread own f rest x s h).0, (pushed_code, pushed_placed, tt, (code_fine image T m t thread own f rest x s h, caller_placed, tt, h.rest_fine)))
        (All-cons (RefsFine image heap) (level.Code (entered_frame k xs p)) below_it
        (All-append (RefFine image heap) (replicate (registers_of k - length xs) v.Undef) xs (All-replicate (RefFine image heap) (registers_of k - length xs) v.Undef tt) e.refs, tt, tt)
        (All-cons (RefsFine image heap) (level.Code f) rest (frame_refs image T m t thread own f rest x s h) (rest_refs image T m t thread own f rest x s h)))
        (λ c. ap (records c) (sym h.levels))

    -- where the stack has no room, the address stays
    pub enter_fine : IsQuiet image m t → ThrowStays m t x → DidFine image T m t thread x (enter (here image m t own f rest x.next) k xs p)
    enter_fine q stays = by_room (nat_le (suc (length below_it)) m.limits.levels && nat_le (regs_in (level.Code (entered_frame k xs p)) + words_in below_it) m.limits.words)
      where
        by_room : (b : Bool) → DidFine image T m t thread x (if b then left (here image m t own f rest x.next) m.shared (level.Code (entered_frame k xs p) ∷ below_it) else NoRoom)
        by_room true = pushed_left q
        by_room false = stays
