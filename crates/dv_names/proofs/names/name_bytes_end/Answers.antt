use Rattle.std.proofs.Common.{◌∙◌, refl, ap, get_or, sym, arith}
use Rattle.std.proofs.lemmas.Bool.{and_from}
use Rattle.std.proofs.lemmas.List.Edits.{between_more}
use Rattle.std.proofs.lemmas.List.Folds.{list_all-append}
use Rattle.std.specs.Prelude.{slice_range, ◌∷◌, []}
use Rattle.std.specs.List.{list_all}
use Rattle.dv_names.specs.Descriptors.{is_name_byte}
use Rattle.dv_names.proofs.names.name_bytes_end.Goals as goal

pub loop-at-preserved : goal.loop-at-preserved
loop-at-preserved c =
    let i = c.loop-at.invariant in
    let text = c.args.text.now in
    let so_far = slice_range text c.args.start c.loop-at.at in
    let byte = get_or text c.loop-at.at 0 in
    record {
      past = omega arith;
      inside = omega arith;
      so_far = ap (list_all is_name_byte) (between_more text c.args.start c.loop-at.at 0 i.past c.loop-at-test.true) ∙ list_all-append is_name_byte so_far (byte ∷ [])
          ∙ and_from (list_all is_name_byte so_far) (list_all is_name_byte (byte ∷ [])) i.so_far (and_from (is_name_byte byte) _ (sym c.is_name_byte.ensures ∙ c.if-is_name_byte.true) refl);
    }
