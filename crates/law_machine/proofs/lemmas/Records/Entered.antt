-- The first frame of a method without receiver or arguments, and of one with its receiver alone.
use Rattle.std.proofs.Common.{◌≡◌, ℕ, ◌+◌, ◌-◌, ◌≤◌, ◌++◌, List, [], length, Bool, false, Option, Some, refl, ap, ◌∙◌, subst, arith}
use Rattle.std.specs.Prelude.{replicate, All}
use Rattle.std.proofs.lemmas.List.{length-append, length-replicate}
use Rattle.std.proofs.lemmas.List.Elements.{All-append, All-replicate}
use Rattle.dv_defs.specs.declared.code.Body.{Body}
use Rattle.dv_defs.specs.Images.{Image}
use Rattle.dv_machine.specs.Value.{Value}
use Rattle.dv_machine.specs.Value as v
use Rattle.dv_machine.specs.Level.{Level}
use Rattle.dv_machine.specs.Level as level
use Rattle.dv_defs.specs.Pools.{Method, method_at}
use Rattle.dv_typing.specs.Transfer.{arg_types, begins_uninitialised, entry_state}
use Rattle.dv_machine.specs.Heap.{Heap}
use Rattle.dv_machine.specs.Calls.{entered_frame, registers_of}
use Rattle.dv_machine.specs.Conforming.{Own, IsGood, Conform, RefFine, RefsFine}
use Rattle.dv_machine.specs.WellTyped.{Typings, own_of, IsPlaced, CodeFine, BelowCode}
use Rattle.dv_machine.specs.Accepted.{Accepted}
use Rattle.law_machine.proofs.lemmas.Calls.Entered.{entered_conforms}
use Rattle.law_machine.proofs.lemmas.Common.Conformity.{frame_up}
use Rattle.law_flow.proofs.MethodCode.{the_code, code_there}
use Rattle.law_machine.proofs.lemmas.Common.MethodCode.{registers_are}

-- no registers
pub none_good : (image : Image) (heap : Heap) (own : Own) → IsGood image heap own [] []
none_good image heap own = record { regs = λ k. tt; count = refl; apart = λ j k u w. absurd u }

pub refs_entered : (image : Image) (heap : Heap) (m : Method) (xs : List Value) (p : Bool) → All (RefFine image heap) xs → RefsFine image heap (level.Code (entered_frame m xs p))
refs_entered image heap m xs p a = (All-append (RefFine image heap) (replicate (registers_of m - length xs) v.Undef) xs (All-replicate (RefFine image heap) (registers_of m - length xs) v.Undef tt) a, tt, tt)

module _ (image : Image) (T : Typings) (acc : Accepted image T) (heap : Heap) (m : Method) (b : Body) (there : method_at image m.id ≡ Some m) (body : m.def.body ≡ Some b) where
  -- its frame has the registers of its body
  pub entered_code : (xs : List Value) (p : Bool) (ls : List Level) → length xs ≤ b.registers → BelowCode image m ls → CodeFine image T heap (entered_frame m xs p) ls
  entered_code xs p ls l k = record { frame = record { code = the_code m b; has_code = code_there image m.id m b there body; registers = count }; below = k }
    where
      back : (n k : ℕ) → k ≤ n → n - k + k ≡ n
      back n k l = omega arith

      count : length (replicate (registers_of m - length xs) v.Undef ++ xs) ≡ b.registers
      count = length-append (replicate (registers_of m - length xs) v.Undef) xs ∙ ap (λ n. n + length xs) (length-replicate (registers_of m - length xs) v.Undef) ∙ ap (λ n. n - length xs + length xs) (registers_are m b body) ∙ back b.registers (length xs) l

  -- a frame of arguments that conform stands at the begin of its method
  pub entered_placed : (this : Option ℕ) (xs : List Value) → begins_uninitialised image m ≡ false → IsGood image heap (own_of image this m) xs (arg_types image m) → IsPlaced image T heap this (entered_frame m xs false)
  entered_placed this xs e g =
      let l = acc.typed.entry m.id (the_code m b) (code_there image m.id m b there body) in
      let conform : Conform image heap (own_of image this m) (entered_frame m xs false) (entry_state image m b.registers) = subst (λ (p : Bool). Conform image heap (own_of image this m) (entered_frame m xs p) (entry_state image m b.registers)) e (entered_conforms image heap this m b xs body g) in
      record {
        method = m;
        has_method = there;
        state = l.state;
        has_state = l.has_state;
        conform = frame_up image acc.order heap (own_of image this m) (entered_frame m xs false) (entry_state image m b.registers) l.state l.below conform;
      }
