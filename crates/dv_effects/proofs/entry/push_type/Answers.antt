use Rattle.std.proofs.Common.{◌≡◌, ◌++◌, false, OnOk, subst, sym, ◌∙◌}
use Rattle.dv_defs.specs.Types.{is_long}
use Rattle.dv_typing.specs.RegTypes.{single_type}
use Rattle.dv_effects.specs.Said.{SayAll}
use Rattle.dv_effects.proofs.ArgTypes.{one_register}
use Rattle.dv_effects.proofs.StepWider.{all_wider}
use Rattle.dv_effects.proofs.entry.push_type.Goals as goal

pub returns-in_ok-single_word-clause-told : goal.returns-in_ok-single_word-clause-told
returns-in_ok-single_word-clause-told c = λ ts h.
    let e : is_long c.args.ty.now ≡ false = sym c.is_long.ensures ∙ c.if-is_long.false in
    subst (λ us. OnOk c.push_one.result (SayAll c.single_word.new.bases c.push_one.new.words.items (ts ++ us))) (one_register c.args.ty.now e)
    (c.push_one.ensures c.single_word.new.bases ts (single_type c.args.ty.now)
    (all_wider c.args.bases.now c.single_word.new.bases c.in_ok-single_word.ensures.wider c.args.words.now.items ts h) c.in_ok-single_word.ensures.told)
