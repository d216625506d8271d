use Rattle.std.proofs.Common.{subst, sym}
use Rattle.std.specs.Prelude.{map}
use Rattle.dv_typing.specs.declared.typing.RegType.TheVariants as ty
use Rattle.dv_typing.specs.Transfer.{replaced}
use Rattle.dv_bases.specs.declared.words.Part.TheVariants as part
use Rattle.dv_effects.specs.Said.{SayAll}
use Rattle.dv_effects.proofs.Renewing.{says_replaced}
use Rattle.dv_effects.proofs.Saying.{part_says}
use Rattle.dv_effects.proofs.objects.make.Goals as goal

pub returns : goal.returns
returns c = λ names ts h.
    let older = says_replaced names c.word_of.result c.args.at ty.Conflict c.args.regs.now.items ts (part_says names c.word_of.result part.Conflict c.word_of.ensures tt) h in
    let renewed : SayAll names c.renew.new.regs.items (map (replaced c.args.at ty.Conflict) ts) = subst (λ ws. SayAll names ws (map (replaced c.args.at ty.Conflict) ts)) (sym c.renew.ensures) older in
    c.write.ensures names (map (replaced c.args.at ty.Conflict) ts) (ty.Uninit c.args.at) renewed (part_says names c.word_of-2.result (part.Uninit c.args.at) c.word_of-2.ensures c.requires)
