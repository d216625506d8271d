use Rattle.std.proofs.Common.{◌≡◌, ℕ, List, length, take, drop, Option, Some, get_or, ap, ◌∙◌, arith}
use Rattle.std.specs.Prelude.{slice_get}
use Rattle.std.proofs.lemmas.Option.{slice_get-get_or}
use Rattle.dv_vtable.specs.Chains.{first_method}
use Rattle.dv_vtable.proofs.FirstLaws.{own_room, own_numbers}
use Rattle.dv_vtable.proofs.MethodNumbers.{as_many_firsts, first_at}
use Rattle.dv_vtable.proofs.key_numbers.KeyNumbers.own.Goals as goal

pub index-requires : goal.index-requires
index-requires c =
    omega (arith, as_many_firsts c.args.infos.now c.args.self.now.firsts.items c.requires.numbers.firsts, c.requires.class, c.args.self.now.firsts.ok.0)

pub part-requires : goal.part-requires
part-requires c =
    let cs = c.args.infos.now in
    let info = get_or cs c.args.class c.index-infos-class.result in
    let at : slice_get cs c.args.class ≡ Some info = slice_get-get_or cs c.args.class c.index-infos-class.result c.requires.class in
    let first : c.index.result.now ≡ first_method cs c.args.class =
    c.index.ensures ∙ first_at cs c.args.self.now.firsts.items c.args.class c.index.result.now c.requires.numbers.firsts c.requires.class in
    let many : c.len.result ≡ length info.def.methods = c.len.ensures in
    rw c.deref.ensures.value (own_room cs c.args.self.now.keys.items c.args.class c.index.result.now c.len.result info at c.requires.numbers.keys first many)

pub returns : goal.returns
returns c =
    let cs = c.args.infos.now in
    let info = get_or cs c.args.class c.index-infos-class.result in
    let at : slice_get cs c.args.class ≡ Some info = slice_get-get_or cs c.args.class c.index-infos-class.result c.requires.class in
    let first : c.index.result.now ≡ first_method cs c.args.class =
    c.index.ensures ∙ first_at cs c.args.self.now.firsts.items c.args.class c.index.result.now c.requires.numbers.firsts c.requires.class in
    let many : c.len.result ≡ length info.def.methods = c.len.ensures in
    c.part.ensures
    ∙ (ap (λ (ks : List (Option ℕ)). take c.len.result (drop c.index.result.now ks)) c.deref.ensures.value
    ∙ own_numbers cs c.args.self.now.keys.items c.args.class c.index.result.now c.len.result info at c.requires.numbers.keys first many)
