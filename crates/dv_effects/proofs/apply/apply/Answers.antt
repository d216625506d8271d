use Rattle.std.proofs.Common.{refl, sym, subst}
use Rattle.dv_bases.specs.Bases.{word_type}
use Rattle.dv_effects.specs.declared.effects.Effect.{Effect}
use Rattle.dv_effects.specs.Effects.{HasWords, registers_after}
use Rattle.dv_effects.specs.Said.{SayAll}
use Rattle.dv_effects.proofs.apply.apply.Goals as goal

pub returns-in-Put : goal.returns-in-Put
returns-in-Put c = λ names code s words h classes fits.
    subst (λ (e : Effect). SayAll names c.write.new.regs.items (registers_after names code.method e s)) (sym c.in-Put.is)
    (c.write.ensures names s.regs (word_type names c.in-Put.word) h.registers (record { word = subst (HasWords names) c.in-Put.is words; said = refl }))

pub returns-in-PutLong : goal.returns-in-PutLong
returns-in-PutLong c = λ names code s words h classes fits.
    subst (λ (e : Effect). SayAll names c.write_long.new.regs.items (registers_after names code.method e s)) (sym c.in-PutLong.is)
    (c.write_long.ensures names s.regs h.registers)

pub returns-in-CopyInt : goal.returns-in-CopyInt
returns-in-CopyInt c = λ names code s words h classes fits.
    subst (λ (e : Effect). SayAll names c.copy_int.new.regs.items (registers_after names code.method e s)) (sym c.in-CopyInt.is)
    (c.copy_int.ensures names s.regs h.registers)

pub returns-in-CopyObject : goal.returns-in-CopyObject
returns-in-CopyObject c = λ names code s words h classes fits.
    subst (λ (e : Effect). SayAll names c.copy_object.new.regs.items (registers_after names code.method e s)) (sym c.in-CopyObject.is)
    (c.copy_object.ensures names s.regs h.registers)

pub returns-in-ResultInt : goal.returns-in-ResultInt
returns-in-ResultInt c = λ names code s words h classes fits.
    subst (λ (e : Effect). SayAll names c.write-in-ResultInt.new.regs.items (registers_after names code.method e s)) (sym c.in-ResultInt.is)
    (c.write-in-ResultInt.ensures names s.regs _ h.registers (c.result_int.ensures names s.result h.result))

pub returns-in-ResultLong : goal.returns-in-ResultLong
returns-in-ResultLong c = λ names code s words h classes fits.
    subst (λ (e : Effect). SayAll names c.write_result_long.new.regs.items (registers_after names code.method e s)) (sym c.in-ResultLong.is)
    (c.write_result_long.ensures names s.regs s.result h.registers h.result)

pub returns-in-ResultObject : goal.returns-in-ResultObject
returns-in-ResultObject c = λ names code s words h classes fits.
    subst (λ (e : Effect). SayAll names c.write-in-ResultObject.new.regs.items (registers_after names code.method e s)) (sym c.in-ResultObject.is)
    (c.write-in-ResultObject.ensures names s.regs _ h.registers (c.result_object.ensures names s.result h.result))

pub returns-in-Caught : goal.returns-in-Caught
returns-in-Caught c = λ names code s words h classes fits.
    subst (λ (e : Effect). SayAll names c.write-in-Caught.new.regs.items (registers_after names code.method e s)) (sym c.in-Caught.is)
    (c.write-in-Caught.ensures names s.regs _ h.registers h.handled)

pub returns-in-Element : goal.returns-in-Element
returns-in-Element c = λ names code s words h classes fits.
    subst (λ (e : Effect). SayAll names c.copy_element.new.regs.items (registers_after names code.method e s)) (sym c.in-Element.is)
    (c.copy_element.ensures names s.regs h.registers)

pub returns-in-New : goal.returns-in-New
returns-in-New c = λ names code s words h classes fits.
    subst (λ (e : Effect). SayAll names c.make.new.regs.items (registers_after names code.method e s)) (sym c.in-New.is)
    (c.make.ensures names s.regs h.registers)
