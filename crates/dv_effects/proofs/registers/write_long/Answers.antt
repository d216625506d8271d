use Rattle.dv_typing.specs.declared.typing.RegType.TheVariants as ty
use Rattle.dv_bases.specs.declared.words.Part.TheVariants as part
use Rattle.dv_effects.proofs.Saying.{part_says}
use Rattle.dv_effects.proofs.registers.write_long.Goals as goal

pub returns : goal.returns
returns c = λ names ts h.
    c.write_pair.ensures names ts ty.LongLo ty.LongHi h
    (part_says names c.word_of.result part.LongLo c.word_of.ensures tt)
    (part_says names c.word_of-2.result part.LongHi c.word_of-2.ensures tt)
