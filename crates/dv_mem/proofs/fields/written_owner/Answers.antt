use Rattle.std.proofs.Common.{◌∙◌, ◌+◌, ◌<◌, ℕ, length, ap, subst}
use Rattle.dv_defs.specs.Types.{words_of}
use Rattle.dv_ops.specs.Meaning.{field_of}
use Rattle.dv_words.specs.Heaps.{words_of_object}
use Rattle.dv_mem.proofs.Owners.{lacking_is_null}
use Rattle.dv_mem.proofs.fields.written_owner.Goals as goal

pub returns-else-takes_words-clause-found : goal.returns-else-takes_words-clause-found
returns-else-takes_words-clause-found c go is =
    let count = c.words_of.ensures.words ∙ ap (λ d. words_of d.ty) c.def.view_is in
    let P : ℕ → Type 0 = λ n. length (words_of_object c.args.heap.now c.args.object) < c.args.field.now.info.slot + n in
    lacking_is_null (field_of c.args.field.now) c.args.heap.now c.args.object go is
    (λ some exists no_string. subst P count (c.takes_words.ensures.lacking c.if-takes_words.false some exists no_string))
