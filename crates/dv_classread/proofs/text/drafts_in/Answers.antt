use Rattle.std.proofs.Common.{◌≡◌, ◌+◌, List, [], length, Result, Ok, sym, ap, subst, ◌∙◌, arith}
use Rattle.std.proofs.lemmas.Result.{err_from_is_err_and}
use Rattle.dv_lex.specs.declared.line.Stop.{Stop}
use Rattle.dv_coderead.specs.Giving.{◌>>>◌, GivesLines}
use Rattle.dv_coderead.specs.Kept.{open_behind, text_lines}
use Rattle.dv_coderead.proofs.Drafts.{stops_all}
use Rattle.dv_classread.specs.declared.program.ClassDraft.{ClassDraft}
use Rattle.dv_classread.specs.Programs.{Drafts, drafts_in, drafts_of}
use Rattle.dv_classread.specs.Schedules.{end_with}
use Rattle.dv_classread.specs.Texts.{EndsBefore}
use Rattle.dv_classread.proofs.Ends.{ends_before, stop_before}
use Rattle.dv_classread.proofs.Whole.{with_is, without_is}
use Rattle.dv_classread.proofs.text.drafts_in.Goals as goal

pub returns-in-Some : goal.returns-in-Some
returns-in-Some c =
    subst (λ (r : Result Drafts Stop). GivesLines (λ d. (d.0.items, d.1.items)) c.with_schedule.result r)
    (with_is c.args.text.now c.args.lines.now c.requires.numbered c.args.stop c.args.schedule c.in-Some.place c.in-Some.ensures.0 c.in-Some.ensures.1)
    c.with_schedule.ensures

pub drafts-requires-clause-behind : goal.drafts-requires-clause-behind
drafts-requires-clause-behind c =
    let same : 1 + length c.args.lines.now ≡ length c.args.lines.now + 1 = omega arith in
    subst (λ n. EndsBefore n (text_lines c.args.text.now c.args.lines.now)) same (ends_before c.args.text.now 1 c.args.lines.now c.requires.numbered)

pub drafts-requires-clause-stop : goal.drafts-requires-clause-stop
drafts-requires-clause-stop c = stop_before c.args.text.now c.args.stop c.args.lines.now c.requires.numbered c.requires.stop

pub returns-in_err-classes-in-None : goal.returns-in_err-classes-in-None
returns-in_err-classes-in-None c =
    let p = err_from_is_err_and c.from_residual.result c.from_residual.ensures.1 in
    let ls = text_lines c.args.text.now c.args.lines.now in
    let past = length c.args.lines.now + 1 in
    let is = without_is c.args.text.now c.args.lines.now c.requires.numbered c.args.stop c.args.schedule c.in-None.ensures in
    rw (p.1, p.2) (stops_all c.in_err-classes-in-None.field-0.0 (drafts_of (end_with c.args.stop past (open_behind 0 ls)) past ls) (drafts_in c.args.schedule c.args.stop ls)
    (λ s bad. is ∙ ap (λ r. r >>> λ (cs : List ClassDraft). Ok (cs, [])) bad) c.in_err-classes-in-None.ensures)

pub returns-in_ok-classes-in-None : goal.returns-in_ok-classes-in-None
returns-in_ok-classes-in-None c =
    let is = without_is c.args.text.now c.args.lines.now c.requires.numbered c.args.stop c.args.schedule c.in-None.ensures in
    is ∙ ap (λ r. r >>> λ (cs : List ClassDraft). Ok (cs, [])) c.in_ok-classes-in-None.ensures ∙ ap (λ log. Ok (c.in_ok-classes-in-None.classes.items, log)) (sym c.new.ensures.items)
