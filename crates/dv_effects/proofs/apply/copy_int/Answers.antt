use Rattle.std.proofs.Common.{subst, sym}
use Rattle.dv_effects.specs.Said.{SayAll}
use Rattle.dv_effects.proofs.apply.copy_int.Goals as goal

pub returns : goal.returns
returns c = λ names ts h.
    c.write.ensures names ts _ h (c.copied_int-word.ensures names _ (c.word_at.ensures names ts (subst (λ ws. SayAll names ws ts) (sym c.as_slice.ensures.value) h)))
