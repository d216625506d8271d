use Rattle.std.proofs.Common.{◌∙◌, subst, sym}
use Rattle.dv_typing.specs.declared.typing.RegType.TheVariants as ty
use Rattle.dv_bases.specs.declared.words.Part.TheVariants as part
use Rattle.dv_effects.specs.Said.{SayAll}
use Rattle.dv_effects.proofs.Breaking.{broke_hi, kept_hi}
use Rattle.dv_effects.proofs.Saying.{part_says}
use Rattle.dv_effects.proofs.registers.break_hi.Goals as goal

pub returns-then-is_hi : goal.returns-then-is_hi
returns-then-is_hi c = λ names ts h.
    subst (λ us. SayAll names c.put.new.regs.items us)
    (sym (broke_hi ts c.args.k (sym (c.is_hi.ensures names ts (subst (λ ws. SayAll names ws ts) (sym c.as_slice.ensures.value) h)) ∙ c.if-is_hi.true)))
    (c.put.ensures names ts ty.Conflict h (part_says names c.word_of.result part.Conflict c.word_of.ensures tt))

pub returns-else-is_hi : goal.returns-else-is_hi
returns-else-is_hi c = λ names ts h.
    subst (λ us. SayAll names c.args.regs.now.items us) (sym (kept_hi ts c.args.k (sym (c.is_hi.ensures names ts (subst (λ ws. SayAll names ws ts) (sym c.as_slice.ensures.value) h)) ∙ c.if-is_hi.false))) h
