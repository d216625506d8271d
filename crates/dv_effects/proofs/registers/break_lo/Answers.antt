use Rattle.std.proofs.Common.{◌∙◌, subst, sym}
use Rattle.dv_typing.specs.declared.typing.RegType.TheVariants as ty
use Rattle.dv_bases.specs.declared.words.Part.TheVariants as part
use Rattle.dv_effects.specs.Said.{SayAll}
use Rattle.dv_effects.proofs.Breaking.{broke_lo, kept_lo}
use Rattle.dv_effects.proofs.Saying.{part_says}
use Rattle.dv_effects.proofs.registers.break_lo.Goals as goal

pub returns-then-is_lo : goal.returns-then-is_lo
returns-then-is_lo c = λ names ts h.
    subst (λ us. SayAll names c.put.new.regs.items us)
    (sym (broke_lo ts c.args.k (sym (c.is_lo.ensures names ts (subst (λ ws. SayAll names ws ts) (sym c.as_slice.ensures.value) h)) ∙ c.if-is_lo.true)))
    (c.put.ensures names ts ty.Conflict h (part_says names c.word_of.result part.Conflict c.word_of.ensures tt))

pub returns-else-is_lo : goal.returns-else-is_lo
returns-else-is_lo c = λ names ts h.
    subst (λ us. SayAll names c.args.regs.now.items us) (sym (kept_lo ts c.args.k (sym (c.is_lo.ensures names ts (subst (λ ws. SayAll names ws ts) (sym c.as_slice.ensures.value) h)) ∙ c.if-is_lo.false))) h
