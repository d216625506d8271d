-- What the instruction means at which the frame on top goes on.
use Rattle.std.proofs.Common.{◌≡◌, ◌∙◌, List, true, Some, Result, Ok, Err, sym, ap}
use Rattle.std.proofs.lemmas.Option.{same_Some}
use Rattle.dv_defs.specs.declared.code.Insn.{Insn}
use Rattle.dv_defs.specs.declared.faults.Rule.{Rule}
use Rattle.dv_defs.specs.Images.{Image}
use Rattle.dv_defs.specs.Op as def
use Rattle.dv_defs.specs.Op.{Code, Resolved, code_at, op_of}
use Rattle.dv_ops.proofs.Fetched.{payload_there}
use Rattle.dv_ops.specs.declared.op.Op.{Op}
use Rattle.dv_ops.specs.Meaning.{has_payload, meant, meant_or_rule}
use Rattle.dv_words.specs.declared.state.Level.{Level}
use Rattle.dv_words.specs.Stacks.{first}
use Rattle.dv_words.specs.State.{WordHeap, WordStack}
use Rattle.dv_frames.specs.declared.heads.Head.{Head}
use Rattle.dv_frames.specs.Heads.{head_in}
use Rattle.dv_frames.specs.Tops.{head_of}
use Rattle.law_words.proofs.Fetching.{is_fetched}
use Rattle.dv_words.specs.Answering.{IsAtInsn}
use Rattle.dv_words.specs.Steps.{At}
use Rattle.dv_call.specs.Landings.{IsSeenByCalls}

-- from the head and the code that were read
module _ (image : Image) (heap : WordHeap) (stack : WordStack) (h : At) (insn : Insn) (op : def.Op) (head : Head) (own : Code) (seen : IsSeenByCalls image heap stack h) (there : IsAtInsn h insn op) (is : Some head ≡ head_of (first stack.levels)) (has : Some own ≡ code_at image head.method.0) where
  same_head : head ≡ head_in h.frame
  same_head = same_Some head (head_in h.frame) (is ∙ ap (λ (ls : List Level). head_of (first ls)) seen.is_stack.levels)

  same_code : own ≡ there.code
  same_code =
      same_Some own there.code
      (has ∙ (ap (λ (x : Head). code_at image x.method.0) same_head ∙ (ap (λ (i : Image). code_at i h.frame.method.0) (sym seen.same_image) ∙ there.has_code)))

  means : op_of image own head.at insn ≡ Ok op
  means =
      ap (λ (x : Head). op_of image own x.at insn) same_head ∙
      (ap (λ (c : Code). op_of image c h.frame.at insn) same_code ∙
      (ap (λ (i : Image). op_of i there.code h.frame.at insn) (sym seen.same_image) ∙
      (is_fetched h.image there.code h.frame.at insn there.size (record { op = op; next = h.next }) h.frame.method.0 there.has_code there.fetched there.spelled).op))

  module _ (r : Result Op Rule) (resolves : has_payload own head.at insn ≡ true → meant_or_rule own head.at r ≡ op_of image own head.at insn) where
    answered : meant_or_rule own head.at r ≡ Ok op
    answered = resolves (payload_there image own head.at insn op means) ∙ means

    -- an operation that was resolved is this one
    pub meant_is : (o : Op) → r ≡ Ok o → meant own head.at o ≡ op
    meant_is o e = let whole : (let q : Resolved = Ok (meant own head.at o) in q) ≡ Ok op = ap (meant_or_rule own head.at) (sym e) ∙ answered in cc whole

    pub no_rule : (broken : Rule) → r ≡ Err broken → ⊥
    no_rule broken e = absurd (let whole : (let q : Resolved = Err broken in q) ≡ Ok op = ap (meant_or_rule own head.at) (sym e) ∙ answered in cc whole)
