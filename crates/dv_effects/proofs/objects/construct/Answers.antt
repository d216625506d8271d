use Rattle.std.proofs.Common.{◌≡◌, ap, subst, sym, ◌∙◌}
use Rattle.dv_typing.specs.declared.typing.RegType.TheVariants as ty
use Rattle.dv_typing.specs.RegTypes.{type_at}
use Rattle.dv_typing.specs.Transfer.{after_constructor}
use Rattle.dv_bases.specs.declared.words.Part.TheVariants as part
use Rattle.dv_bases.specs.Bases.{type_in}
use Rattle.dv_effects.specs.Said.{SayAll}
use Rattle.dv_effects.proofs.Renewing.{begins_there, made_constructed, other_constructed, this_constructed}
use Rattle.dv_effects.proofs.Saying.{part_read, part_says}
use Rattle.dv_effects.proofs.objects.construct.Goals as goal

pub returns-in-Uninit : goal.returns-in-Uninit
returns-in-Uninit c = λ names code s h classes fits.
    let all : SayAll names c.as_slice.result.now s.regs = subst (λ ws. SayAll names ws s.regs) (sym c.as_slice.ensures.value) h in
    let t = type_at s.regs c.args.k in
    let read : type_in names c.part_of.result ≡ t = part_read names c.word_at.result c.part_of.result t (c.word_at.ensures names s.regs all) c.part_of.ensures in
    let is : ty.Uninit c.in-Uninit.at ≡ t = ap (type_in names) (sym c.in-Uninit.is) ∙ read in
    let says = c.made_word.ensures names code (classes.made c.in-Uninit.at (begins_there names code s c.args.k c.in-Uninit.at fits is)) in
    subst (λ ws. SayAll names ws (after_constructor names.image code.method s t).regs) (sym c.renew.ensures)
    (made_constructed names c.made_word.result code s t c.args.regs.now.items h c.in-Uninit.at is says)

pub returns-in-UninitThis : goal.returns-in-UninitThis
returns-in-UninitThis c = λ names code s h classes fits.
    let all : SayAll names c.as_slice.result.now s.regs = subst (λ ws. SayAll names ws s.regs) (sym c.as_slice.ensures.value) h in
    let t = type_at s.regs c.args.k in
    let read : type_in names c.part_of.result ≡ t = part_read names c.word_at.result c.part_of.result t (c.word_at.ensures names s.regs all) c.part_of.ensures in
    let is : ty.UninitThis ≡ t = ap (type_in names) (sym c.in-UninitThis.is) ∙ read in
    subst (λ ws. SayAll names ws (after_constructor names.image code.method s t).regs) (sym c.renew-in-UninitThis.ensures)
    (this_constructed names c.args.own code s t c.args.regs.now.items h is classes.own_class)

pub returns-in_default : goal.returns-in_default
returns-in_default c = λ names code s h classes fits.
    let all : SayAll names c.as_slice.result.now s.regs = subst (λ ws. SayAll names ws s.regs) (sym c.as_slice.ensures.value) h in
    let t = type_at s.regs c.args.k in
    let read : type_in names c.part_of.result ≡ t = part_read names c.word_at.result c.part_of.result t (c.word_at.ensures names s.regs all) c.part_of.ensures in
    subst (λ ws. SayAll names ws (after_constructor names.image code.method s t).regs) (sym c.renew-in_default.ensures)
    (other_constructed names c.word_of.result code s t c.args.regs.now.items h c.part_of.result c.in_default.not-Uninit c.in_default.not-UninitThis read
    (part_says names c.word_of.result part.Conflict c.word_of.ensures tt))
