use Rattle.std.proofs.Common.{◌≡◌, ◌+◌, length, sym, ap, subst, arith}
use Rattle.std.specs.Prelude.{IfSome}
use Rattle.std.specs.List.{All}
use Rattle.std.proofs.lemmas.Result.{err_from_is_err_and}
use Rattle.dv_lex.specs.declared.line.Stop.{Stop}
use Rattle.dv_lex.specs.Lines.{HasTokens}
use Rattle.dv_classread.proofs.Whole.{read_whole, refused_classes, refused_drafts}
use Rattle.dv_classread.proofs.text.read_classes.Goals as goal
use Rattle.dv_coderead.specs.Bodies.{HasNext}
use Rattle.dv_coderead.specs.Kept.{AreNumbered}
use Rattle.dv_coderead.proofs.Numbered.{few_lines, have_next, numbered, stop_behind}

pub drafts_in-requires-clause-tokens : goal.drafts_in-requires-clause-tokens
drafts_in-requires-clause-tokens c = subst (All (HasTokens c.args.text.now)) (sym c.items.ensures) c.in_ok-good.ensures.tokens

pub drafts_in-requires-clause-few : goal.drafts_in-requires-clause-few
drafts_in-requires-clause-few c =
    let few = few_lines c.args.text.now c.in_ok-good.good c.in_ok-good.ensures.exact in
    omega (arith, few, c.requires, ap length c.items.ensures)

pub drafts_in-requires-clause-numbers : goal.drafts_in-requires-clause-numbers
drafts_in-requires-clause-numbers c = subst (All HasNext) (sym c.items.ensures) (have_next c.args.text.now c.in_ok-good.good c.in_ok-good.ensures.exact c.requires)

pub drafts_in-requires-clause-numbered : goal.drafts_in-requires-clause-numbered
drafts_in-requires-clause-numbered c = subst (AreNumbered 1) (sym c.items.ensures) (numbered c.args.text.now c.in_ok-good.good c.in_ok-good.ensures.exact)

pub drafts_in-requires-clause-stop : goal.drafts_in-requires-clause-stop
drafts_in-requires-clause-stop c =
    subst (λ ls. IfSome c.in_ok-good.good.stop (λ (e : Stop). e.line ≡ 1 + length ls)) (sym c.items.ensures) (stop_behind c.args.text.now c.in_ok-good.good c.in_ok-good.ensures.exact)

pub returns-in-Err : goal.returns-in-Err
returns-in-Err c =
    refused_drafts c.args.schedule c.args.text.now c.in_ok-good.good c.in_ok-good.ensures.exact c.items.result.now c.items.ensures c.in-Err.error c.in-Err.ensures

pub returns-in_err-assembled_classes-in-Ok : goal.returns-in_err-assembled_classes-in-Ok
returns-in_err-assembled_classes-in-Ok c =
    let p = err_from_is_err_and c.from_residual-in_err-assembled_classes-in-Ok.result c.from_residual-in_err-assembled_classes-in-Ok.ensures.1 in
    rw (p.1, p.2)
    (refused_classes c.args.schedule c.args.text.now c.in_ok-good.good c.in_ok-good.ensures.exact c.items.result.now c.items.ensures c.in-Ok.classes.items c.in-Ok.log.items c.in-Ok.ensures
    c.in_err-assembled_classes-in-Ok.field-0.0 c.in_err-assembled_classes-in-Ok.ensures)

pub returns-in_ok-assembled_classes-in-Ok : goal.returns-in_ok-assembled_classes-in-Ok
returns-in_ok-assembled_classes-in-Ok c =
    read_whole c.args.schedule c.args.text.now c.in_ok-good.good c.in_ok-good.ensures.exact c.items.result.now c.items.ensures c.in-Ok.classes.items c.in-Ok.log.items c.in-Ok.ensures
    c.in_ok-assembled_classes-in-Ok.field-0.items c.of.result c.of-in-Ok.result c.in_ok-assembled_classes-in-Ok.ensures c.of.ensures c.of-in-Ok.ensures
