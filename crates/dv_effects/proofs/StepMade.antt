-- A step from its parts, each made with more names than the one before.
use Rattle.std.proofs.Common.{◌≡◌, ℕ, Option, sym, ap, ◌∙◌}
use Rattle.std.specs.Prelude.{IfSome, option_map}
use Rattle.dv_defs.specs.Images.{Image}
use Rattle.dv_defs.specs.Op.{Op, Code}
use Rattle.dv_typing.specs.declared.typing.RegState.{RegState}
use Rattle.dv_typing.specs.Demands.{made_by}
use Rattle.dv_typing.specs.Transfer.{out}
use Rattle.dv_bases.specs.declared.states.PendingWord.{PendingWord}
use Rattle.dv_bases.specs.Bases.{Names, word_type, IsWord, IsWider}
use Rattle.dv_bases.proofs.Wider.{wider_trans}
use Rattle.dv_effects.specs.declared.effects.Effect.{Effect}
use Rattle.dv_effects.specs.Effects.{HasWords, IsStep, object_type, pending_left, registers_after, this_after}
use Rattle.dv_effects.specs.Said.{SaysPending}
use Rattle.dv_effects.proofs.Leaving.{result_left}
use Rattle.dv_effects.proofs.StepWider.{has_words_wider, pending_wider, registers_wider}

pub step_made : (one two three : Names) → IsWider one two → IsWider two three → (image : Image) → three.image ≡ image →
    (code : Code) (at : ℕ) (op : Op) (e : Effect) (p : PendingWord) (w : Option ℕ) → HasWords one e →
    ((s : RegState) → registers_after one code.method e s ≡ (out one.image code.method at op s).regs) →
    ((s : RegState) → this_after e s ≡ (out one.image code.method at op s).this_pending) → SaysPending two p (pending_left op) →
    IfSome w (IsWord three) → option_map (word_type three) w ≡ option_map (object_type image) (made_by op) →
    IsStep three code at op (record { effect = e; pending = p; makes = w })
step_made one two three first second image same code at op e p w words registers this pending made_word made =
    let wider = wider_trans one two three first second in
    let left = pending_wider two three second p (pending_left op) pending in
    record {
      registers = registers_wider one three wider code.method at op e words registers;
      pending = (λ s. left.said ∙ result_left three.image code.method at op s);
      this = (λ s. this s ∙ sym (ap (λ (i : Image). (out i code.method at op s).this_pending) wider.image));
      made = made ∙ sym (ap (λ (i : Image). option_map (object_type i) (made_by op)) same);
      effect_words = has_words_wider one three wider e words;
      pending_word = left.word;
      made_word = made_word;
    }
