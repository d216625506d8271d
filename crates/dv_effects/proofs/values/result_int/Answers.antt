use Rattle.std.proofs.Common.{refl, subst}
use Rattle.dv_typing.specs.Transfer.{result_int}
use Rattle.dv_bases.specs.Bases.{word_type}
use Rattle.dv_effects.specs.Said.{Says}
use Rattle.dv_effects.proofs.Saying.{pending_says}
use Rattle.dv_effects.proofs.values.result_int.Goals as goal

pub returns-in-One : goal.returns-in-One
returns-in-One c = λ names p s.
    let one = pending_says names c.args.pending p c.in-One.word s c.in-One.is in
    subst (λ q. Says names c.one_int.result (result_int q)) one.said
    (c.one_int.ensures names (word_type names c.in-One.word) (record { word = one.word; said = refl }))
