use Rattle.std.proofs.Common.{◌≡◌, ◌+◌, refl, ap, sym, ◌∙◌, arith}
use Rattle.std.specs.BTreeMap.{get}
use Rattle.std.specs.Option.{option_or}
use Rattle.dv_defs.specs.declared.class.MethodDef.{MethodDef}
use Rattle.dv_resolve.proofs.Added.{method_laws, method_key, method_under, there_more, new_more, all_found}
use Rattle.dv_resolve.specs.Firsts.{is_method_under, first_method_own}
use Rattle.dv_resolve.specs.Members.{method_key_cmp}
use Rattle.dv_resolve.proofs.members.add_methods.Goals as goal
use Rattle.dv_resolve.proofs.members.add_methods.Goals.{then-not-contains_key+in_ok-insert, else-not-contains_key}

pub returns : goal.returns
returns c =
    all_found method_key_cmp method_laws is_method_under (λ (m : MethodDef). m.flags) c.loop-place.found c.args.methods.now c.args.class.0 c.args.first c.loop-place.place _
    c.loop-place-test.false c.loop-place.invariant

pub loop-place-init : goal.loop-place-init
loop-place-init c = λ k. let e : c.args.first + 0 ≡ c.args.first = omega arith in
    ap (λ n. option_or (get method_key_cmp c.args.found.now k) (first_method_own k c.args.class.0 n c.args.methods.now)) e

pub loop-place-preserved : goal.loop-place-preserved
loop-place-preserved c =
    let m = c.index-methods-place.result in
    let key = method_key c.args.class m in
    elim c.if-not-contains_key.branch [
      | then-not-contains_key+in_ok-insert w ↦ rw w.found-is
          (new_more method_key_cmp method_laws is_method_under (λ (m : MethodDef). m.flags) c.loop-place.found w.insert.new.self c.args.methods.now c.args.class.0 c.args.first c.loop-place.place m key _
          c.loop-place-test.true c.index-methods-place.is (λ k. method_under key k c.args.class.0 m refl refl refl)
          (sym c.contains_key.ensures ∙ w.if-not-contains_key.true) w.in_ok-insert.ensures.updates.0 c.loop-place.invariant)
      | else-not-contains_key w ↦ rw w.found-is
          (there_more method_key_cmp method_laws is_method_under (λ (m : MethodDef). m.flags) c.loop-place.found c.args.methods.now c.args.class.0 c.args.first c.loop-place.place m key _
          c.loop-place-test.true c.index-methods-place.is (λ k. method_under key k c.args.class.0 m refl refl refl)
          (sym c.contains_key.ensures ∙ w.if-not-contains_key.false) c.loop-place.invariant)
    ]
