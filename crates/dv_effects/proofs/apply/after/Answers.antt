use Rattle.std.proofs.Common.{◌∙◌}
use Rattle.dv_bases.specs.States.{state_of}
use Rattle.dv_effects.proofs.Leaving.{none_caught}
use Rattle.dv_effects.proofs.apply.after.Goals as goal

pub returns-clause-words : goal.returns-clause-words
returns-clause-words c = λ names code at op is classes words.
    record { regs = (c.in_ok-regs.ensures names code is.effect_words classes words).words; result = is.pending_word; caught = tt }

pub returns-clause-state : goal.returns-clause-state
returns-clause-state c = λ names code at op is classes words.
    let s = state_of names c.args.words in
    let left = c.in_ok-regs.ensures names code is.effect_words classes words in
    (λ i. record {
      regs = (left.said ∙ is.registers s) i;
      result = is.pending s i;
      caught = none_caught names.image code.method at op s i;
      this_pending = (c.this_after-this_pending.ensures names words.are_words ∙ is.this s) i;
    })
