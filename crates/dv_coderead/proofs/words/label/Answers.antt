use Rattle.std.proofs.Common.{[], ◌∷◌, Ok, Some, None, ap, sym, ◌∙◌}
use Rattle.std.proofs.lemmas.Bool.Decides.{Decides-eqb}
use Rattle.std.proofs.lemmas.Slice.Eq.{strip_prefix_is}
use Rattle.dv_coderead.proofs.Labels.{label_read, label_unmarked, label_unnamed}
use Rattle.dv_coderead.proofs.words.label.Goals as goal
use Rattle.dv_coderead.proofs.words.label.Goals.{in_default-via-in-Some+else-is_name, in_default-via-in_default}

pub returns-in_ok-of-in-Some : goal.returns-in_ok-of-in-Some
returns-in_ok-of-in-Some c =
    let whole = strip_prefix_is Decides-eqb c.args.word.now (58 ∷ []) (Some c.in-Some.name) c.in-Some.ensures.cases in
    label_read c.args.word.now c.in-Some.name.now whole (sym c.is_name.ensures ∙ c.if-is_name.true) ∙ ap Ok (sym (c.in_ok-of-in-Some.ensures ∙ c.in_ok-from_slice-in-Some.ensures.items))

pub returns-in_default : goal.returns-in_default
returns-in_default c =
    elim c.in_default.branch [
      | in_default-via-in-Some+else-is_name w ↦
          let whole = strip_prefix_is Decides-eqb c.args.word.now (58 ∷ []) (Some w.in-Some.name) w.in-Some.ensures.cases in
          label_unnamed c.args.word.now w.in-Some.name.now whole (sym w.is_name.ensures ∙ w.if-is_name.false)
      | in_default-via-in_default w ↦
          let cases = rw w.in_default.is at c.strip_prefix.ensures.cases in
          label_unmarked c.args.word.now (strip_prefix_is Decides-eqb c.args.word.now (58 ∷ []) None cases)
    ]
