use Rattle.dv_effects.proofs.entry.entry_words.Goals as goal

pub returns-clause-words : goal.returns-clause-words
returns-clause-words c =
    record {
      regs = (c.in_ok-regs.ensures c.arg_words.new.bases _ c.in_ok-args.ensures.told).words;
      result = tt;
      caught = tt;
    }
