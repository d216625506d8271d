use Rattle.std.proofs.Common.{◌++◌, take, append-nil, ap, subst, sym, ◌∙◌}
use Rattle.std.proofs.lemmas.List.{take_all}
use Rattle.dv_typing.specs.RegTypes.{all_types, reg_types}
use Rattle.dv_bases.proofs.Wider.{wider_same, wider_trans}
use Rattle.dv_effects.specs.Said.{SayAll}
use Rattle.dv_effects.proofs.ArgTypes.{one_more}
use Rattle.dv_effects.proofs.entry.push_types.Goals as goal

pub loop-ty-init : goal.loop-ty-init
loop-ty-init c =
    record {
      wider = wider_same c.args.bases.now;
      told = λ ts h. subst (λ us. SayAll c.args.bases.now c.args.words.now.items us) (sym (append-nil ts)) h;
    }

pub loop-ty-preserved : goal.loop-ty-preserved
loop-ty-preserved c =
    let ps = c.args.params.now in
    let i = c.loop-ty.ty-index in
    record {
      wider = wider_trans c.args.bases.now c.loop-ty.bases c.push_type.new.bases c.loop-ty.invariant.wider c.in_ok-push_type.ensures.wider;
      told = λ ts h.
          subst (λ us. SayAll c.push_type.new.bases c.push_type.new.words.items us)
          (ap (λ t. (ts ++ all_types (take i ps)) ++ reg_types t) c.ty-item.is ∙ one_more ts ps i c.ty-item.result c.loop-ty-test.true)
          (c.in_ok-push_type.ensures.told (ts ++ all_types (take i ps)) (c.loop-ty.invariant.told ts h));
    }

pub returns : goal.returns
returns c =
    record {
      wider = c.loop-ty.invariant.wider;
      told = λ ts h.
          subst (λ ps. SayAll c.loop-ty.bases c.loop-ty.words.items (ts ++ all_types ps)) (take_all c.loop-ty.ty-index c.args.params.now c.loop-ty-test.false)
          (c.loop-ty.invariant.told ts h);
    }
