use Rattle.std.proofs.Common.{ap, sym, ◌∙◌, subst}
use Rattle.dv_typing.specs.declared.typing.RegType.TheVariants as ty
use Rattle.dv_typing.specs.Transfer.{after_result_long}
use Rattle.dv_bases.specs.declared.words.Part.TheVariants as part
use Rattle.dv_bases.specs.States.{pending_of}
use Rattle.dv_effects.specs.Said.{SayAll}
use Rattle.dv_effects.proofs.Parts.{no_long}
use Rattle.dv_effects.proofs.Saying.{part_says}
use Rattle.dv_effects.proofs.values.write_result_long.Goals as goal

pub returns-in-Long : goal.returns-in-Long
returns-in-Long c = λ names ts p h s.
    subst (λ q. SayAll names c.write_long.new.regs.items (after_result_long ts c.args.k q)) (sym (ap (pending_of names) c.in-Long.is) ∙ s.said)
    (c.write_long.ensures names ts h)

pub returns-in_default : goal.returns-in_default
returns-in_default c = λ names ts p h s.
    let conflict = part_says names c.word_of.result part.Conflict c.word_of.ensures tt in
    let other = part_says names c.word_of-in_default.result part.Conflict c.word_of-in_default.ensures tt in
    subst (λ us. SayAll names c.write_pair.new.regs.items us) (no_long names ts c.args.k c.args.pending c.in_default.not-Long ∙ ap (after_result_long ts c.args.k) s.said)
    (c.write_pair.ensures names ts ty.Conflict ty.Conflict h conflict other)
