use Rattle.std.proofs.Common.{◌≡◌, Some, cond, bytes_eq, ap, sym, ◌∙◌, rules}
use Rattle.std.specs.Ordering.{nat_cmp, is_eq}
use Rattle.std.specs.Cmp.Lexicographic.{slice_cmp}
use Rattle.std.specs.Option.{option_or}
use Rattle.std.specs.BTreeMap.{get}
use Rattle.std.proofs.lemmas.Map.Text.{is_eq-slice_cmp}
use Rattle.std.proofs.lemmas.Slice.Eq.{bytes_eq-Decides}
use Rattle.dv_asm.specs.First.{when}
use Rattle.dv_asm.specs.Items.{is_label_named}
use Rattle.dv_asm.proofs.LabelLemmas.{first_kept}
use Rattle.dv_asm.proofs.places.add_label.Goals as goal

pub returns-in_ok-insert : goal.returns-in_ok-insert
returns-in_ok-insert c = λ name.
    let own = c.in-Label.name in
    let copy : c.in_ok-clone.field-0 ≡ own = search rules in
    let old = get (slice_cmp nat_cmp) c.args.labels.now in
    first_kept (bytes_eq own name) (old own) (old name) (get (slice_cmp nat_cmp) c.insert.new.self name) c.args.place
    (λ same. ap old (sym ((bytes_eq-Decides own name).0 same)))
    (sym c.contains_key.ensures ∙ c.if-not-contains_key.true)
    (c.in_ok-insert.ensures.updates.0 name ∙ ap (λ b. cond b (Some c.args.place) (old name)) (ap (λ k. is_eq (slice_cmp nat_cmp k name)) copy ∙ is_eq-slice_cmp own name))
    ∙ ap (λ b. option_or (old name) (when b c.args.place)) (sym (ap (is_label_named name) c.in-Label.is))
