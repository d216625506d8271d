use Rattle.std.proofs.Common.{◌≡◌, ◌<◌, rules, length, get_or, arith, sym, ap, ◌∙◌, Some, None}
use Rattle.std.specs.Prelude.{option_map}
use Rattle.dv_defs.specs.LinkFaults.{found, overrides_final}
use Rattle.dv_hier.proofs.AboveLaws.{first_in_more, first_in_told}
use Rattle.dv_vtable.specs.Chains.{key_in}
use Rattle.dv_vtable.specs.Finals.{final_above}
use Rattle.dv_vtable.specs.Numbered.{all_methods, number_in, numbers_in}
use Rattle.dv_vtable.proofs.EnteredLaws.{key_count}
use Rattle.dv_vtable.proofs.FinalLemmas.{among_at, as_many_own, has_told, number_within, override_told, override_lacks, override_free, own_class, own_number}
use Rattle.dv_vtable.proofs.finals.check_finals.Goals as goal
use Rattle.dv_vtable.proofs.finals.check_finals.Goals.{in-Some+else-has, in_default}

pub enter_finals_above-requires-clause-class : goal.enter_finals_above-requires-clause-class
enter_finals_above-requires-clause-class c = (own_class c.args.infos.now c.args.place c.args.class.now c.requires.class).1

pub own-own-requires-clause-class : goal.own-own-requires-clause-class
own-own-requires-clause-class c = (own_class c.args.infos.now c.args.place c.args.class.now c.requires.class).1

pub bounds-own-i : goal.bounds-own-i
bounds-own-i c =
    let cs = c.args.infos.now in
    let ms = c.args.class.now.methods in
    let here = own_class cs c.args.place c.args.class.now c.requires.class in
    let within : c.loop-i.i < length ms = rw c.items-method-items.ensures at c.loop-i-test.true in
    omega (arith, as_many_own (all_methods cs) ms c.own-own.result.now (c.own-own.ensures ∙ ap (numbers_in (all_methods cs)) here.0), within)

pub has-requires : goal.has-requires
has-requires c =
    let cs = c.args.infos.now in
    let ms = c.args.class.now.methods in
    let i = c.loop-i.i in
    let m = c.method-item.result in
    let here = own_class cs c.args.place c.args.class.now c.requires.class in
    let within : i < length ms = rw c.items-method-items.ensures at c.loop-i-test.true in
    let is : m ≡ get_or ms i m = rw c.items-method-items.ensures at c.method-item.is in
    let number : number_in (all_methods cs) m ≡ Some c.in-Some.number =
    sym (own_number (all_methods cs) ms c.own-own.result.now i m None (c.own-own.ensures ∙ ap (numbers_in (all_methods cs)) here.0) within is) ∙ c.in-Some.is in
    number_within cs m c.in-Some.number c.enter_finals_above.new.finals.count (among_at cs c.args.place ms i m here.0 within is) number
    (c.in_ok-enter_finals_above.ensures.count ∙ (c.requires.count ∙ key_count (all_methods cs) c.args.keys.now.keys.items c.requires.numbers.keys))

pub returns-then-has-clause-fault : goal.returns-then-has-clause-fault
returns-then-has-clause-fault c =
    let cs = c.args.infos.now in
    let class = c.args.class.now in
    let ms = class.methods in
    let i = c.loop-i.i in
    let m = c.method-item.result in
    let here = own_class cs c.args.place class c.requires.class in
    let within : i < length ms = rw c.items-method-items.ensures at c.loop-i-test.true in
    let is : m ≡ get_or ms i m = rw c.items-method-items.ensures at c.method-item.is in
    let number : number_in (all_methods cs) m ≡ Some c.in-Some.number =
    sym (own_number (all_methods cs) ms c.own-own.result.now i m None (c.own-own.ensures ∙ ap (numbers_in (all_methods cs)) here.0) within is) ∙ c.in-Some.is in
    let has : c.has.result ≡ final_above cs c.args.place (key_in m) =
    has_told (all_methods cs) c.enter_finals_above.new.finals.entries m c.in-Some.number c.has.result (final_above cs c.args.place) c.has.ensures number
    c.in_ok-enter_finals_above.ensures.finals in
    let same : c.in_ok-clone.field-0 ≡ m.name = search rules in
    λ image classes.
    first_in_told (overrides_final image c.args.place) class.name c.error_of.result ms i m (c.loop-i.invariant image classes) within is
    (override_told image (all_methods cs) cs c.args.place class.name m c.in-Some.number c.has.result c.in_ok-clone.field-0 c.error_of.result classes here.1
    number has c.if-has.true same c.error_of.ensures)

pub loop-i-preserved : goal.loop-i-preserved
loop-i-preserved c =
    let cs = c.args.infos.now in
    let class = c.args.class.now in
    let ms = class.methods in
    let i = c.loop-i.i in
    let m = c.method-item.result in
    let here = own_class cs c.args.place class c.requires.class in
    let within : i < length ms = rw c.items-method-items.ensures at c.loop-i-test.true in
    let is : m ≡ get_or ms i m = rw c.items-method-items.ensures at c.method-item.is in
    let number = own_number (all_methods cs) ms c.own-own.result.now i m None (c.own-own.ensures ∙ ap (numbers_in (all_methods cs)) here.0) within is in
    λ image classes.
    let none : option_map (found class.name) (overrides_final image c.args.place m) ≡ None = elim c.match-own-i.branch [
      | in-Some+else-has w ↦
          let has : w.has.result ≡ final_above cs c.args.place (key_in m) =
          has_told (all_methods cs) c.enter_finals_above.new.finals.entries m w.in-Some.number w.has.result (final_above cs c.args.place) w.has.ensures (sym number ∙ w.in-Some.is)
          c.in_ok-enter_finals_above.ensures.finals in
          override_free image cs c.args.place class.name m w.has.result classes here.1 has w.if-has.false
      | in_default w ↦ override_lacks image (all_methods cs) c.args.place class.name m (sym number ∙ w.in_default.is)
    ] in
    first_in_more (overrides_final image c.args.place) class.name ms i m (c.loop-i.invariant image classes) within is none
