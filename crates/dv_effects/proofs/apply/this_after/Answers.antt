use Rattle.std.proofs.Common.{refl, ap, sym, ◌∙◌, subst}
use Rattle.dv_typing.specs.RegTypes.{type_at}
use Rattle.dv_bases.specs.Bases.{type_in}
use Rattle.dv_bases.specs.States.{state_of}
use Rattle.dv_effects.specs.Effects.{this_after, this_with}
use Rattle.dv_effects.specs.Said.{SayAll, Says}
use Rattle.dv_effects.proofs.Saying.{part_read}
use Rattle.dv_effects.proofs.Parts.{still_with}
use Rattle.dv_effects.proofs.apply.this_after.Goals as goal

pub returns-in-UninitThis : goal.returns-in-UninitThis
returns-in-UninitThis c = λ names h.
    let s = state_of names c.args.words.now in
    let all : SayAll names c.as_slice.result.now s.regs = subst (λ ws. SayAll names ws s.regs) (sym c.as_slice.ensures.value) (record { words = h.regs; said = refl }) in
    let says : Says names c.word_at.result (type_at s.regs c.in-Construct.k) = c.word_at.ensures names s.regs all in
    ap (λ p. this_with (type_in names p) s.this_pending) (sym c.in-UninitThis.is) ∙
    (ap (λ t. this_with t s.this_pending) (part_read names c.word_at.result c.part_of.result (type_at s.regs c.in-Construct.k) says c.part_of.ensures) ∙
    ap (λ e. this_after e s) (sym c.in-Construct.is))

pub returns-in_default-part_of : goal.returns-in_default-part_of
returns-in_default-part_of c = λ names h.
    let s = state_of names c.args.words.now in
    let all : SayAll names c.as_slice.result.now s.regs = subst (λ ws. SayAll names ws s.regs) (sym c.as_slice.ensures.value) (record { words = h.regs; said = refl }) in
    let says : Says names c.word_at.result (type_at s.regs c.in-Construct.k) = c.word_at.ensures names s.regs all in
    still_with names c.part_of.result s.this_pending c.in_default-part_of.not-UninitThis ∙
    (ap (λ t. this_with t s.this_pending) (part_read names c.word_at.result c.part_of.result (type_at s.regs c.in-Construct.k) says c.part_of.ensures) ∙
    ap (λ e. this_after e s) (sym c.in-Construct.is))
