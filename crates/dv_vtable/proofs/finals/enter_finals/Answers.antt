use Rattle.std.proofs.Common.{◌≡◌, ◌<◌, ◌≤◌, length, get_or, Some, None, sym, ap, ◌∙◌, arith}
use Rattle.std.specs.Prelude.{slice_get}
use Rattle.std.proofs.lemmas.List.{get_or_default}
use Rattle.std.proofs.lemmas.Option.{slice_get-get_or}
use Rattle.dv_defs.specs.declared.names.MethodId.{MethodId}
use Rattle.dv_defs.specs.Pools.{methods_of}
use Rattle.dv_vtable.specs.Finals.{has_entry}
use Rattle.dv_vtable.specs.Numbered.{TableValue, all_methods, number_in, numbers_in}
use Rattle.dv_vtable.proofs.EnteredLaws.{key_count}
use Rattle.dv_vtable.proofs.FinalLemmas.{among_at, as_many_own, finals_all, finals_more, finals_same, method_there, not_by_flag, not_by_number, number_within, own_number}
use Rattle.dv_vtable.proofs.finals.enter_finals.Goals as goal
use Rattle.dv_vtable.proofs.finals.enter_finals.Goals.{in-Some+then-is_in+in_ok-enter, in-Some+else-is_in, in_default}

pub bounds-methods-place : goal.bounds-methods-place
bounds-methods-place c =
    let cs = c.args.infos.now in
    let ms = c.items-methods.result.now in
    let own = c.own-key-items.result.now in
    let same : methods_of (slice_get cs c.args.class) ≡ ms =
    ap methods_of (slice_get-get_or cs c.args.class c.index-infos-class.result c.requires.class) ∙ sym c.items-methods.ensures in
    let are : own ≡ numbers_in (all_methods cs) ms = c.own-key-items.ensures ∙ ap (numbers_in (all_methods cs)) same in
    omega (arith, as_many_own (all_methods cs) ms own are, c.loop-place-test.true)

pub enter-requires : goal.enter-requires
enter-requires c =
    let cs = c.args.infos.now in
    let ms = c.items-methods.result.now in
    let i = c.loop-place.place in
    let own = c.own-key-items.result.now in
    let same : methods_of (slice_get cs c.args.class) ≡ ms =
    ap methods_of (slice_get-get_or cs c.args.class c.index-infos-class.result c.requires.class) ∙ sym c.items-methods.ensures in
    let are : own ≡ numbers_in (all_methods cs) ms = c.own-key-items.ensures ∙ ap (numbers_in (all_methods cs)) same in
    let within : i < length ms = omega (arith, as_many_own (all_methods cs) ms own are, c.loop-place-test.true) in
    let there = method_there ms i within in
    let number : number_in (all_methods cs) there.0 ≡ Some c.in-Some.number = sym (own_number (all_methods cs) ms own i there.0 None are within there.1) ∙ c.in-Some.is in
    let count : c.loop-place.finals.count ≡ length (all_methods cs) =
    c.loop-place.invariant.count ∙ (c.requires.count ∙ key_count (all_methods cs) c.args.keys.now.keys.items c.requires.numbers.keys) in
    number_within cs there.0 c.in-Some.number c.loop-place.finals.count (among_at cs c.args.class ms i there.0 same within there.1) number count

pub loop-place-preserved : goal.loop-place-preserved
loop-place-preserved c =
    let cs = c.args.infos.now in
    let ms = c.items-methods.result.now in
    let i = c.loop-place.place in
    let own = c.own-key-items.result.now in
    let same : methods_of (slice_get cs c.args.class) ≡ ms =
    ap methods_of (slice_get-get_or cs c.args.class c.index-infos-class.result c.requires.class) ∙ sym c.items-methods.ensures in
    let are : own ≡ numbers_in (all_methods cs) ms = c.own-key-items.ensures ∙ ap (numbers_in (all_methods cs)) same in
    let within : i < length ms = omega (arith, as_many_own (all_methods cs) ms own are, c.loop-place-test.true) in
    elim c.match-key.branch [
      | in-Some+then-is_in+in_ok-enter w ↦
          let m = get_or ms i w.index-methods-place.result in
          let is : m ≡ get_or ms i m = get_or_default ms i w.index-methods-place.result m within in
          let number : number_in (all_methods cs) m ≡ Some w.in-Some.number = sym (own_number (all_methods cs) ms own i m None are within is) ∙ w.in-Some.is in
          let put : c.match-key.finals ≡ w.enter.new.self = w.finals-is in
          let id : MethodId = record { 0 = w.in-Some.number } in
          record {
            count = ap (λ (t : TableValue). t.count) (put ∙ w.in_ok-enter.ensures.ok) ∙ c.loop-place.invariant.count;
            told = λ k plain. finals_more (all_methods cs) ms i m k w.in-Some.number id c.loop-place.finals.entries c.match-key.finals.entries
                (has_entry (all_methods cs) c.args.finals.now.entries k) within is (among_at cs c.args.class ms i m same within is) number
                (sym w.is_in.ensures ∙ w.if-is_in.true) (ap (λ (t : TableValue). t.entries) (put ∙ w.in_ok-enter.ensures.ok)) (c.loop-place.invariant.told k plain);
          }
      | in-Some+else-is_in w ↦
          let m = get_or ms i w.index-methods-place.result in
          let is : m ≡ get_or ms i m = get_or_default ms i w.index-methods-place.result m within in
          record {
            count = ap (λ (t : TableValue). t.count) w.finals-is ∙ c.loop-place.invariant.count;
            told = λ k plain. ap (λ (t : TableValue). has_entry (all_methods cs) t.entries k) w.finals-is
                ∙ finals_same ms i m k (has_entry (all_methods cs) c.args.finals.now.entries k) (has_entry (all_methods cs) c.loop-place.finals.entries k)
                within is (not_by_flag m k (sym w.is_in.ensures ∙ w.if-is_in.false)) (c.loop-place.invariant.told k plain);
          }
      | in_default w ↦
          let there = method_there ms i within in
          let m = there.0 in
          let number : number_in (all_methods cs) m ≡ None = sym (own_number (all_methods cs) ms own i m None are within there.1) ∙ w.in_default.is in
          record {
            count = ap (λ (t : TableValue). t.count) w.finals-is ∙ c.loop-place.invariant.count;
            told = λ k plain. ap (λ (t : TableValue). has_entry (all_methods cs) t.entries k) w.finals-is
                ∙ finals_same ms i m k (has_entry (all_methods cs) c.args.finals.now.entries k) (has_entry (all_methods cs) c.loop-place.finals.entries k)
                within there.1 (not_by_number (all_methods cs) m k plain number) (c.loop-place.invariant.told k plain);
          }
    ]

pub returns-clause-finals : goal.returns-clause-finals
returns-clause-finals c =
    let cs = c.args.infos.now in
    let ms = c.items-methods.result.now in
    let own = c.own-key-items.result.now in
    let same : methods_of (slice_get cs c.args.class) ≡ ms =
    ap methods_of (slice_get-get_or cs c.args.class c.index-infos-class.result c.requires.class) ∙ sym c.items-methods.ensures in
    let are : own ≡ numbers_in (all_methods cs) ms = c.own-key-items.ensures ∙ ap (numbers_in (all_methods cs)) same in
    let over : length ms ≤ c.loop-place.place = omega (arith, as_many_own (all_methods cs) ms own are, c.loop-place-test.false) in
    λ k plain.
    rw same (finals_all ms c.loop-place.place k (has_entry (all_methods cs) c.args.finals.now.entries k) (has_entry (all_methods cs) c.loop-place.finals.entries k) over
    (c.loop-place.invariant.told k plain))
