use Rattle.std.proofs.Common.{◌≡◌, ◌+◌, ◌-◌, ◌<◌, ◌||◌, length, get_or, suc, refl, ap, sym, subst, ◌∙◌, arith}
use Rattle.std.specs.Prelude.{IfSome}
use Rattle.std.proofs.lemmas.Option.{slice_get-get_or, slice_get_read}
use Rattle.dv_defs.specs.declared.image.ClassInfo.{ClassInfo}
use Rattle.dv_defs.specs.Pools.{methods_of}
use Rattle.dv_vtable.specs.Finals.{final_above, has_entry, has_final}
use Rattle.dv_vtable.specs.Numbered.{TableValue, all_methods}
use Rattle.dv_vtable.proofs.FinalLemmas.{finals_start, finals_end, finals_stop, finals_next}
use Rattle.dv_vtable.proofs.finals.enter_finals_above.Goals as goal

pub loop-init : goal.loop-init
loop-init c =
    let cs = c.args.infos.now in
    let there = slice_get-get_or cs c.args.class c.index-infos-class.result c.requires.class in
    record {
      count = ap (λ (t : TableValue). t.count) c.clear.ensures ∙ c.requires.count;
      told = λ k plain. finals_start cs c.args.class (get_or cs c.args.class c.index-infos-class.result) k (has_entry (all_methods cs) c.clear.new.self.entries k) there
          (ap (λ (t : TableValue). has_entry (all_methods cs) t.entries k) c.clear.ensures);
      range = (c.requires.range c.args.class c.index-infos-class.result c.requires.class).parent;
    }

pub returns-in_default-clause-finals : goal.returns-in_default-clause-finals
returns-in_default-clause-finals c = λ k plain.
    finals_end c.args.infos.now (length c.args.infos.now - c.loop.counter) c.loop.above k (has_entry (all_methods c.args.infos.now) c.loop.finals.entries k)
    (final_above c.args.infos.now c.args.class k) c.in_default.is (c.loop.invariant.told k plain)

pub loop-preserved : goal.loop-preserved
loop-preserved c =
    let cs = c.args.infos.now in
    let i = c.in-Some.id.0 in
    let info = c.index-infos-id.result in
    let within : i < length cs = rw c.in-Some.is at c.loop.invariant.range in
    let fuel : length cs - c.loop.counter ≡ suc (length cs - (c.loop.counter + 1)) = omega arith in
    let there = slice_get_read cs (length cs) i info refl within c.index-infos-id.is in
    record {
      count = c.in_ok-enter_finals.ensures.count ∙ c.loop.invariant.count;
      told = λ k plain. finals_next cs (length cs - c.loop.counter) (length cs - (c.loop.counter + 1)) c.loop.above c.in-Some.id info info.def.methods k
          (has_entry (all_methods cs) c.loop.finals.entries k) (has_entry (all_methods cs) c.enter_finals.new.finals.entries k) (final_above cs c.args.class k) fuel c.in-Some.is there
          refl (c.in_ok-enter_finals.ensures.finals k plain ∙ ap (λ o. has_entry (all_methods cs) c.loop.finals.entries k || has_final k (methods_of o)) there)
          (c.loop.invariant.told k plain);
      range = subst (λ (x : ClassInfo). IfSome x.parent (λ p. p.0 < length cs)) (sym c.index-infos-id.is) (c.requires.range i info within).parent;
    }

pub returns-clause-finals : goal.returns-clause-finals
returns-clause-finals c = λ k plain.
    finals_stop c.args.infos.now (length c.args.infos.now - c.loop.counter) c.loop.above k (has_entry (all_methods c.args.infos.now) c.loop.finals.entries k)
    (final_above c.args.infos.now c.args.class k) (omega arith) (c.loop.invariant.told k plain)
