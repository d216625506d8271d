use Rattle.std.proofs.Common.{◌≡◌, [], map, ap, sym, ◌∙◌, arith}
use Rattle.std.specs.Borrow.{Bor}
use Rattle.std.proofs.lemmas.Grind.{common_steps}
use Rattle.std.proofs.lemmas.List.{drop_all}
use Rattle.dv_defs.specs.Types.{ty_eq}
use Rattle.dv_draft.specs.declared.draft.Catch.{Catch}
use Rattle.dv_draft.specs.Pools.{with_entries}
use Rattle.dv_asm.specs.Layout.{catches_of}
use Rattle.dv_asm.specs.Ranges.{found}
use Rattle.dv_asm.proofs.GroupLemmas.{kind_of, kinds_added}
use Rattle.dv_draft.proofs.KeyLemmas.{one_more}
use Rattle.dv_defs.proofs.Keys.{type_keys}
use Rattle.dv_asm.proofs.catches.Catches.add_kinds.Goals.{in-Some-kind+in_ok-add, in_default-kind}
use Rattle.dv_asm.proofs.catches.Catches.add_kinds.Goals as goal

pub returns-in_default : goal.returns-in_default
returns-in_default c =
    let self = c.args.self.now in
    let none : map (λ (x : Bor Catch). x.now) [] ≡ catches_of self.short.now self.catches.now c.args.range = ap found c.in_default.ensures.value ∙ self.are_groups c.args.range in
    kinds_added self.short.now self.catches.now c.args.range c.args.types.now [] none

pub returns : goal.returns
returns c =
    let self = c.args.self.now in
    let group = c.deref-catch-items.result.now in
    let same : map (λ (x : Bor Catch). x.now) group ≡ catches_of self.short.now self.catches.now c.args.range =
    ap (map (λ (x : Bor Catch). x.now)) c.deref-catch-items.ensures.value ∙ (ap found c.in-Some.ensures.value ∙ self.are_groups c.args.range) in
    ap (with_entries ty_eq kind_of c.loop-catch.types) (sym (drop_all c.loop-catch.catch-index group c.loop-catch-test.false)) ∙
    (c.loop-catch.invariant ∙ kinds_added self.short.now self.catches.now c.args.range c.args.types.now group same)

pub loop-catch-preserved : goal.loop-catch-preserved
loop-catch-preserved c =
    elim c.match-catch.branch [
      | in-Some-kind+in_ok-add w ↦
          one_more _ ty_eq type_keys kind_of c.deref-catch-items.result.now c.loop-catch.catch-index c.catch-item.result c.loop-catch.types c.match-catch.types _ w.in-Some-kind.ty
          c.loop-catch-test.true c.catch-item.is (sym w.in-Some-kind.is) (w.types-is ∙ w.in_ok-add.ensures) c.loop-catch.invariant
      | in_default-kind w ↦ grind (arith, common_steps)
    ]
