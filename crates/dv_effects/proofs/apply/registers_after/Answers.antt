use Rattle.std.proofs.Common.{refl}
use Rattle.dv_bases.specs.States.{state_of}
use Rattle.dv_effects.proofs.apply.registers_after.Goals as goal

pub returns : goal.returns
returns c = λ names code words classes h.
    let s = state_of names c.args.words in
    c.apply.ensures names code s words
    (record {
      registers = record { words = h.are_words.regs; said = refl };
      result = record { word = h.are_words.result; said = refl };
      handled = c.in_ok-caught.ensures names h.are_words.caught;
    })
    classes h.fits
