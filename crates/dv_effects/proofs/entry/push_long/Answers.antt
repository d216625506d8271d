use Rattle.std.proofs.Common.{[], ◌∷◌, ◌++◌, OnOk, subst, append_assoc}
use Rattle.dv_typing.specs.declared.typing.RegType.TheVariants as ty
use Rattle.dv_bases.specs.declared.words.Part.TheVariants as part
use Rattle.dv_effects.specs.Said.{SayAll}
use Rattle.dv_effects.proofs.Saying.{part_says}
use Rattle.dv_effects.proofs.entry.push_long.Goals as goal

pub returns : goal.returns
returns c = λ names ts h.
    subst (λ us. OnOk c.push_one-2.result (SayAll names c.push_one-2.new.words.items us)) (append_assoc ts (ty.LongLo ∷ []) (ty.LongHi ∷ []))
    (c.push_one-2.ensures names (ts ++ ty.LongLo ∷ []) ty.LongHi
    (c.in_ok-push_one.ensures names ts ty.LongLo h (part_says names c.word_of.result part.LongLo c.word_of.ensures tt))
    (part_says names c.word_of-2.result part.LongHi c.word_of-2.ensures tt))
