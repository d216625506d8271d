-- No byte order mark stands in front of listings.
use Rattle.std.proofs.Common.{◌≡◌, List, [], ◌∷◌, ◌++◌, refl}
use Rattle.dv_defs.specs.declared.class.ClassDef.{ClassDef}
use Rattle.dv_defs.specs.declared.run.Entry.{Entry}
use Rattle.dv_lex.specs.Lines.{mark_length}
use Rattle.dv_print.specs.Listing.{class_text}
use Rattle.law_listing.specs.ProgramLaws.{classes_text, schedule_text}

pub classes_unmarked : (cs : List ClassDef) → mark_length (classes_text cs) ≡ 0
unfolding class_text
classes_unmarked [] = refl
classes_unmarked (c ∷ cs) = refl

-- nor in front of listings with a schedule behind them
pub schedule_unmarked : (cs : List ClassDef) (es : List Entry) → mark_length (classes_text cs ++ schedule_text es) ≡ 0
unfolding class_text
schedule_unmarked [] es = refl
schedule_unmarked (c ∷ cs) es = refl
