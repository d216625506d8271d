use Rattle.std.proofs.Common.{◌≡◌, Some, None, sym, ◌∙◌}
use Rattle.std.specs.BTreeMap.{get}
use Rattle.dv_vtable.specs.Keys.{key_cmp}
use Rattle.dv_vtable.proofs.FirstLaws.{known_number, new_number}
use Rattle.dv_vtable.proofs.key_numbers.number_of.Goals as goal

pub returns-in-Some-clause-number : goal.returns-in-Some-clause-number
returns-in-Some-clause-number c = λ all at are.
    let found : get key_cmp c.args.known.now c.key_of-key.result ≡ Some c.in-Some.first = sym c.get.ensures.value ∙ (sym c.copied.ensures ∙ c.in-Some.is) in
    (known_number all c.args.known.now c.key_of-key.result c.args.method.now c.args.number c.in-Some.first c.key_of-key.ensures.name c.key_of-key.ensures.proto at are found).0

pub returns-in-Some-clause-known : goal.returns-in-Some-clause-known
returns-in-Some-clause-known c = λ all at are.
    let found : get key_cmp c.args.known.now c.key_of-key.result ≡ Some c.in-Some.first = sym c.get.ensures.value ∙ (sym c.copied.ensures ∙ c.in-Some.is) in
    (known_number all c.args.known.now c.key_of-key.result c.args.method.now c.args.number c.in-Some.first c.key_of-key.ensures.name c.key_of-key.ensures.proto at are found).1

pub returns-clause-number : goal.returns-clause-number
returns-clause-number c = λ all at are.
    let none : get key_cmp c.args.known.now c.key_of-key.result ≡ None = sym c.get.ensures.value ∙ (sym c.copied.ensures ∙ c.in_default.is) in
    (new_number all c.args.known.now c.insert.new.self c.key_of-key.result c.args.method.now c.args.number c.key_of-key.ensures.name c.key_of-key.ensures.proto at are none
    c.in_ok-insert.ensures.updates.0).0

pub returns-clause-known : goal.returns-clause-known
returns-clause-known c = λ all at are.
    let none : get key_cmp c.args.known.now c.key_of-key.result ≡ None = sym c.get.ensures.value ∙ (sym c.copied.ensures ∙ c.in_default.is) in
    (new_number all c.args.known.now c.insert.new.self c.key_of-key.result c.args.method.now c.args.number c.key_of-key.ensures.name c.key_of-key.ensures.proto at are none
    c.in_ok-insert.ensures.updates.0).1
