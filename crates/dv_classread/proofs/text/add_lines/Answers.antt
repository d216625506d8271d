use Rattle.std.proofs.Common.{◌≡◌, ◌<◌, List, [], Result, Ok, Err, sym, ap, subst, ◌∙◌, arith}
use Rattle.std.specs.Prelude.{unwrap_or}
use Rattle.dv_defs.specs.declared.faults.LineError.{LineError}
use Rattle.dv_lex.specs.declared.line.Stop.{Stop}
use Rattle.dv_coderead.specs.Giving.{◌>>>◌, GivesLines, Stops}
use Rattle.dv_coderead.specs.Kept.{kept, kept_from, open_behind, text_lines}
use Rattle.dv_coderead.proofs.Drafts.{stops_all}
use Rattle.dv_classread.specs.declared.program.ClassDraft.{ClassDraft}
use Rattle.dv_classread.specs.declared.program.ClassesSoFar.{ClassesSoFar}
use Rattle.dv_classread.specs.Classes.{classes_from, classes_with}
use Rattle.dv_classread.specs.Schedules.{end_with}
use Rattle.dv_classread.specs.Texts.{Told}
use Rattle.dv_classread.proofs.Going.{at_end, at_open, end_fault}
use Rattle.dv_classread.proofs.text.add_lines.Goals as goal

-- the classes with nothing more, where nothing more is told
with_nothing : (result : Result Unit LineError) (told : Result (List Told) Stop) (all : Result (List ClassDraft) Stop) (p : ClassesSoFar) → all ≡ (told >>> λ ts. Ok (classes_with p ts)) → GivesLines (λ nothing. []) result told → GivesLines (λ nothing. classes_with p []) result all
with_nothing (Ok x) told all p is gives = is ∙ ap (λ r. r >>> λ ts. Ok (classes_with p ts)) gives
with_nothing (Err e) told all p is stops = stops_all e told all (λ s found. is ∙ ap (λ r. r >>> λ ts. Ok (classes_with p ts)) found) stops

pub loop-place-smaller : goal.loop-place-smaller
loop-place-smaller c =
    let fault = end_fault c.args.stop c.args.past 0 ∙ sym (c.unwrap_or-fault.ensures ∙ ap (unwrap_or c.args.stop) c.missing_at.ensures) in
    let goes = c.in_ok-at-in-Line.ensures (end_with c.args.stop c.args.past 0) c.args.past fault in
    omega (arith, goes.0, c.in-Line.ensures.behind, c.in-Line.ensures.inside)

pub returns-in-End : goal.returns-in-End
returns-in-End c =
    let ls = text_lines c.args.text.now c.args.lines.now in
    let all = classes_from (end_with c.args.stop c.args.past (open_behind 0 ls)) c.args.past c.args.program.now (kept 0 ls) in
    let program = c.loop-place.program in
    let ended = at_end c.args.stop c.args.past (open_behind 0 ls) program (kept_from c.args.text.now c.args.lines.now c.loop-place.at) all c.loop-place.invariant.same c.in-End.ensures.0 (sym c.loop-place.invariant.depth ∙ c.in-End.ensures.1) in
    with_nothing c.ended_in.result _ all program ended c.ended_in.ensures

pub returns-in-Unfinished : goal.returns-in-Unfinished
returns-in-Unfinished c =
    let ls = text_lines c.args.text.now c.args.lines.now in
    let all = classes_from (end_with c.args.stop c.args.past (open_behind 0 ls)) c.args.past c.args.program.now (kept 0 ls) in
    let some = subst (λ n. 0 < n) c.loop-place.invariant.depth c.in-Unfinished.ensures.1 in
    let told = at_open c.args.stop c.args.past (open_behind 0 ls) c.loop-place.program (kept_from c.args.text.now c.args.lines.now c.loop-place.at) all c.loop-place.invariant.same c.in-Unfinished.ensures.0 some in
    subst (λ e. Stops e all) (sym c.as_error.ensures) (told ∙ ap Err (sym (c.unwrap_or-fault.ensures ∙ ap (unwrap_or c.args.stop) c.missing_at.ensures)))
