-- The first frame of a method conforms to its entry state.
use Rattle.std.proofs.Common.{◌≡◌, ℕ, zero, suc, ◌++◌, List, length, Option, Some, sym, ap, ◌∙◌, subst}
use Rattle.std.specs.Prelude.{◌-◌, replicate}
use Rattle.dv_defs.specs.declared.code.Body.{Body}
use Rattle.dv_defs.specs.Images.{Image}
use Rattle.dv_machine.specs.Value.{Value}
use Rattle.dv_machine.specs.Value as v
use Rattle.dv_typing.specs.declared.typing.RegType.TheVariants as ty
use Rattle.dv_defs.specs.Pools.{Method}
use Rattle.dv_typing.specs.RegTypes.{Types}
use Rattle.dv_typing.specs.Transfer.{arg_types, entry_state, begins_uninitialised}
use Rattle.dv_machine.specs.Heap.{Heap}
use Rattle.dv_machine.specs.Calls.{entered_frame, registers_of}
use Rattle.dv_machine.specs.Conforming.{Own, IsGood, Conform}
use Rattle.dv_machine.specs.WellTyped.{own_of}
use Rattle.law_machine.specs.StepLaws.{EntryConforms}
use Rattle.law_machine.proofs.lemmas.Readers.Words.{cons_good}
use Rattle.law_flow.proofs.MethodCode.{code_is}
use Rattle.law_machine.proofs.lemmas.Common.MethodCode.{registers_are}

pad_good : (image : Image) (heap : Heap) (own : Own) (n : ℕ) (xs : List Value) (ts : Types) → IsGood image heap own xs ts → IsGood image heap own (replicate n v.Undef ++ xs) (replicate n ty.Conflict ++ ts)
pad_good image heap own zero xs ts h = h
pad_good image heap own (suc n) xs ts h = cons_good image heap own v.Undef ty.Conflict _ _ (λ u. u) tt (pad_good image heap own n xs ts h)

pub entered_conforms : (image : Image) (heap : Heap) (this : Option ℕ) (m : Method) (b : Body) (xs : List Value) → m.def.body ≡ Some b → IsGood image heap (own_of image this m) xs (arg_types image m) → Conform image heap (own_of image this m) (entered_frame m xs (begins_uninitialised image m)) (entry_state image m b.registers)
entered_conforms image heap this m b xs e h =
    let own = own_of image this m in
    let n : ℕ = b.registers - length (arg_types image m) in
    let same : registers_of m - length xs ≡ n = ap (λ z. z - length xs) (registers_are m b e) ∙ ap (λ z. b.registers - z) h.count in
    record {
      good = subst (λ z. IsGood image heap own (replicate z v.Undef ++ xs) (replicate n ty.Conflict ++ arg_types image m)) (sym same) (pad_good image heap own n xs (arg_types image m) h);
      result = tt;
      caught = tt;
      this_pending = λ p. p;
    }

pub entry_conforms : EntryConforms
entry_conforms image heap this code xs e n h = entered_conforms image heap this code.method code.body xs (code_is image code.method.id code e).body h
