use Rattle.std.proofs.Common.{◌≡◌, Option, Some, sym, ap, ◌∙◌, subst}
use Rattle.std.specs.Prelude.{IfSome, option_map}
use Rattle.std.proofs.lemmas.Option.{same_Some}
use Rattle.dv_worklist.specs.Beside.{Kept, fits_beside}
use Rattle.dv_typing.specs.declared.typing.RegState.{RegState}
use Rattle.dv_typing.specs.Statics.{fetch}
use Rattle.dv_typing.specs.Transfer.{out}
use Rattle.law_gather.specs.Gathered.{fits_gathered}
use Rattle.law_blocks.specs.Blocks.{state_after}
use Rattle.dv_ops.specs.Meaning.{code_of}
use Rattle.dv_bases.specs.Bases.{Names}
use Rattle.dv_bases.specs.States.{state_of}
use Rattle.dv_infer.proofs.Gathering.{fits_here}
use Rattle.dv_infer.proofs.RowsFilled.{none_after}
use Rattle.dv_infer.proofs.filling.row_after.Goals as goal

pub after_step-requires-clause-fits : goal.after_step-requires-clause-fits
after_step-requires-clause-fits c =
    let names = c.args.bases.now in
    let code = code_of c.args.code.now in
    let r = c.in-Some.row in
    let fits : fits_beside names (fits_gathered names.image code) c.args.at r = subst (λ (o : Option (Kept RegState Names)). IfSome o (fits_beside names (fits_gathered names.image code) c.args.at)) c.in-Some.is c.requires.fits in
    let before = c.in_ok-before-in-Some.before in
    let same : state_of names before ≡ r.state = c.in_ok-before-in-Some.ensures.state names ∙ (ap (λ (n : Names). state_of n c.words.result.now) (sym fits.0) ∙ c.words.ensures.state) in
    fits_here names.image code c.args.at r.state (state_of names before) c.requires.at same fits.1

pub returns-in_ok-words-in-Some : goal.returns-in_ok-words-in-Some
returns-in_ok-words-in-Some c =
    let names = c.args.bases.now in
    let code = code_of c.args.code.now in
    let image = names.image in
    let at = c.args.at in
    let r = c.in-Some.row in
    let fits : fits_beside names (fits_gathered image code) at r = subst (λ (o : Option (Kept RegState Names)). IfSome o (fits_beside names (fits_gathered image code) at)) c.in-Some.is c.requires.fits in
    let before = c.in_ok-before-in-Some.before in
    let same : state_of names before ≡ r.state = c.in_ok-before-in-Some.ensures.state names ∙ (ap (λ (n : Names). state_of n c.words.result.now) (sym fits.0) ∙ c.words.ensures.state) in
    let here = fits_here image code at r.state (state_of names before) c.requires.at same fits.1 in
    let insn = c.requires.ready.clean.each at here.0 in
    let x = insn.0 in
    let made : c.new.result.state ≡ out image code.method at x.op r.state =
    ap (λ (k : Kept RegState Names). k.state) c.new.ensures ∙ (c.in_ok-words-in-Some.ensures.state x insn.1.fetched ∙ ap (out image code.method at x.op) same) in
    let after : state_after image code at (fetch image code.method.id at) (option_map (λ (k : Kept RegState Names). k.state) c.args.row.now) ≡ Some (out image code.method at x.op r.state) =
    (λ i. state_after image code at (insn.1.fetched i) (option_map (λ (k : Kept RegState Names). k.state) (c.in-Some.is i))) in
    record {
      state = ap Some made ∙ sym after;
      kept = λ k e. ap (λ (j : Kept RegState Names). j.beside) (sym (same_Some c.new.result k e) ∙ c.new.ensures);
    }

pub returns-in-None : goal.returns-in-None
returns-in-None c =
    let names = c.args.bases.now in
    let code = code_of c.args.code.now in
    let image = names.image in
    let at = c.args.at in
    record {
      state = sym (ap (λ o. state_after image code at (fetch image code.method.id at) (option_map (λ (k : Kept RegState Names). k.state) o)) c.in-None.is ∙ none_after image code at (fetch image code.method.id at));
      kept = λ k e. absurd (cc);
    }
