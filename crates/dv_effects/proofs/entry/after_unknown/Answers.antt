use Rattle.std.proofs.Common.{◌≡◌, ◌-◌, ◌++◌, length, replicate, arith, subst, sym}
use Rattle.std.proofs.lemmas.Result.{IfOk-weaker}
use Rattle.dv_typing.specs.declared.typing.RegType.TheVariants as ty
use Rattle.dv_bases.specs.declared.words.Part.TheVariants as part
use Rattle.dv_effects.specs.Said.{SayAll}
use Rattle.dv_effects.proofs.Saying.{part_says, same_length, says_append, says_repeated}
use Rattle.dv_effects.proofs.entry.after_unknown.Goals as goal

pub returns : goal.returns
returns c = λ names ts h.
    let n = c.saturating_sub.result in
    let words = c.in_ok-unknown.unknown.items in
    let args = c.args.args.items in
    let conflict = part_says names c.word_of.result part.Conflict c.word_of.ensures tt in
    let unknown : SayAll names words (replicate n ty.Conflict) =
    subst (λ ws. SayAll names ws (replicate n ty.Conflict)) (sym c.in_ok-unknown.ensures) (says_repeated names c.word_of.result ty.Conflict n conflict) in
    let all : SayAll names (words ++ args) (replicate n ty.Conflict ++ ts) = says_append names words (replicate n ty.Conflict) unknown args ts h in
    let count : n ≡ c.args.count - length ts = omega (arith, c.saturating_sub.ensures, c.len.ensures, same_length names args ts h) in
    let made : SayAll names (words ++ args) (replicate (c.args.count - length ts) ty.Conflict ++ ts) =
    subst (λ (m : _). SayAll names (words ++ args) (replicate m ty.Conflict ++ ts)) count all in
    IfOk-weaker c.joined.result _ _ (λ v e. subst (λ ws. SayAll names ws (replicate (c.args.count - length ts) ty.Conflict ++ ts)) (sym e) made) c.joined.ensures
