-- The classes and the schedule of all lines.
use Rattle.std.proofs.Common.{◌≡◌, ℕ, ◌+◌, Bool, true, List, [], ◌∷◌, length, map, Option, Result, Ok, refl, sym, ap, ◌∙◌, arith}
use Rattle.dv_defs.specs.declared.class.ClassDef.{ClassDef}
use Rattle.dv_defs.specs.declared.faults.LineError.{LineError}
use Rattle.dv_defs.specs.declared.run.Entry.{Entry}
use Rattle.dv_lex.specs.declared.line.Line.{Line}
use Rattle.dv_lex.specs.declared.line.Stop.{Stop}
use Rattle.dv_lex.specs.declared.line.GoodLines.{GoodLines}
use Rattle.dv_lex.specs.Lines.{Reading, good_in, read_in, reading_of}
use Rattle.dv_coderead.specs.Giving.{◌>>>◌, Stops}
use Rattle.dv_coderead.specs.Kept.{line_of, open_behind, text_line, text_lines, AreNumbered}
use Rattle.dv_coderead.specs.Bodies.{number_behind}
use Rattle.dv_coderead.proofs.Drafts.{stops_all}
use Rattle.dv_coderead.proofs.Numbered.{past_is}
use Rattle.dv_classread.specs.declared.program.ClassDraft.{ClassDraft}
use Rattle.dv_classread.specs.Programs.{by_cut, assembled_drafts, drafts_in, drafts_of, program_of, with_schedule, without_schedule}
use Rattle.dv_classread.specs.Assembling.{classes_of}
use Rattle.dv_classread.specs.Schedules.{IsCutAt, cut_at, cut_at_schedule, end_with}

module _ (text : List ℕ) (ls : List Line) (are : AreNumbered 1 ls) (stop : Option Stop) where
  behind : number_behind (text_lines text ls) ≡ length ls + 1
  behind = past_is text ls are ∙ omega arith

  looked_for : drafts_in true stop (text_lines text ls) ≡ by_cut stop (text_lines text ls) (cut_at_schedule 0 (text_lines text ls))
  unfolding drafts_in
  looked_for = refl

  -- with a schedule
  pub with_is : (schedule : Bool) (at : ℕ) → schedule ≡ true → IsCutAt text ls at → with_schedule stop (length ls + 1) (cut_at text ls at) ≡ drafts_in schedule stop (text_lines text ls)
  with_is schedule at is cut = sym
      (ap (λ b. drafts_in b stop (text_lines text ls)) is ∙ looked_for ∙ ap (by_cut stop (text_lines text ls)) cut.cut
      ∙ ap (λ n. with_schedule stop n (cut_at text ls at)) behind)

  -- without one
  pub without_is : (schedule : Bool) → ((stop : Option Stop) → drafts_in schedule stop (text_lines text ls) ≡ without_schedule stop (text_lines text ls))
      → drafts_in schedule stop (text_lines text ls) ≡ (drafts_of (end_with stop (length ls + 1) (open_behind 0 (text_lines text ls))) (length ls + 1) (text_lines text ls) >>> λ (cs : List ClassDraft). Ok (cs, []))
  without_is schedule is = is stop ∙ ap (λ n. drafts_of (end_with stop n (open_behind 0 (text_lines text ls))) n (text_lines text ls) >>> λ (cs : List ClassDraft). Ok (cs, [])) behind

-- ---- texts

lines_again : (text : List ℕ) (ls : List Line) → map line_of (map (read_in text) ls) ≡ text_lines text ls
lines_again text [] = refl
lines_again text (l ∷ ls) = ap (λ ks. text_line text l ∷ ks) (lines_again text ls)

module _ (schedule : Bool) (text : List ℕ) (g : GoodLines) (is : good_in text g ≡ reading_of text) where
  read_of : (r : Reading) → program_of schedule r ≡ (drafts_in schedule r.stop (map line_of r.lines) >>> assembled_drafts)
  unfolding program_of
  read_of r = refl

  -- what a text is read as, by its good lines
  pub text_is : program_of schedule (reading_of text) ≡ (drafts_in schedule g.stop (text_lines text g.lines) >>> assembled_drafts)
  text_is = ap (program_of schedule) (sym is) ∙ read_of (good_in text g) ∙ ap (λ ls. drafts_in schedule g.stop ls >>> assembled_drafts) (lines_again text g.lines)

  module _ (ls : List Line) (same : ls ≡ g.lines) where
    pub text_by : program_of schedule (reading_of text) ≡ (drafts_in schedule g.stop (text_lines text ls) >>> assembled_drafts)
    text_by = text_is ∙ ap (λ ks. drafts_in schedule g.stop (text_lines text ks) >>> assembled_drafts) (sym same)

    pub refused_drafts : (e : LineError) → Stops e (drafts_in schedule g.stop (text_lines text ls)) → Stops e (program_of schedule (reading_of text))
    refused_drafts e stops = stops_all e (drafts_in schedule g.stop (text_lines text ls)) _ (λ s bad. text_by ∙ ap (λ r. r >>> assembled_drafts) bad) stops

    module _ (cs : List ClassDraft) (log : List Entry) (read : drafts_in schedule g.stop (text_lines text ls) ≡ Ok (cs, log)) where
      drafted : program_of schedule (reading_of text) ≡ (classes_of cs >>> λ classes. Ok (record { classes = classes; log = log }))
      drafted = text_by ∙ ap (λ r. r >>> assembled_drafts) read

      pub refused_classes : (e : LineError) → Stops e (classes_of cs) → Stops e (program_of schedule (reading_of text))
      refused_classes e stops = stops_all e (classes_of cs) _ (λ s bad. drafted ∙ ap (λ (r : Result (List ClassDef) Stop). r >>> λ classes. Ok (record { classes = classes; log = log })) bad) stops

      pub read_whole : (defs classes : List ClassDef) (entries : List Entry) → classes_of cs ≡ Ok defs → classes ≡ defs → entries ≡ log
          → program_of schedule (reading_of text) ≡ Ok (record { classes = classes; log = entries })
      read_whole defs classes entries all same_classes same_log =
          drafted ∙ ap (λ (r : Result (List ClassDef) Stop). r >>> λ classes. Ok (record { classes = classes; log = log })) all
          ∙ ap (λ ds. Ok (record { classes = ds; log = log })) (sym same_classes) ∙ ap (λ es. Ok (record { classes = classes; log = es })) (sym same_log)
