use Rattle.std.proofs.Common.{◌≡◌, ◌+◌, ◌*◌, ◌<◌, ◌∙◌, ap, rules, w32, SFits, arith, of_z, to_z}
use Rattle.std.specs.Prelude.{slice_index}
use Rattle.std.proofs.lemmas.Int.{to_z-of_z}
use Rattle.dv_defs.specs.Numbers.{jump}
use Rattle.dv_local.specs.Switching.{int_at}
use Rattle.dv_local.proofs.Switches.{key_found, sparse_found, sparse_none}
use Rattle.dv_local.proofs.branching.sparse_target.Goals as goal

pub returns-then-case-count : goal.returns-then-case-count
returns-then-case-count c keys targets s rise =
    let value : to_z w32 (of_z w32 c.args.value) ≡ c.args.value = (let f : SFits w32 c.args.value = search rules in to_z-of_z w32 c.args.value f) in
    let found = key_found c.args.units.now c.args.at c.args.place keys targets c.unit-count.result _ c.args.value c.key_place-case.result c.unit-count.ensures value s rise c.key_place-case.ensures in
    sparse_none c.args.units.now c.args.at c.args.place keys targets c.args.value c.args.next c.key_place-case.result s found (c.if-case-count.true ∙ c.unit-count.ensures)

pub returns : goal.returns
returns c keys targets s rise =
    let value : to_z w32 (of_z w32 c.args.value) ≡ c.args.value = (let f : SFits w32 c.args.value = search rules in to_z-of_z w32 c.args.value f) in
    let found = key_found c.args.units.now c.args.at c.args.place keys targets c.unit-count.result _ c.args.value c.key_place-case.result c.unit-count.ensures value s rise c.key_place-case.ensures in
    let less : c.key_place-case.result < slice_index c.args.units.now (c.args.place + 1) = omega (arith, found.within, c.if-case-count.false, c.unit-count.ensures) in
    let place : c.from.result + c.from-2.result ≡ slice_index c.args.units.now (c.args.place + 1) + c.key_place-case.result = omega (arith, c.from.ensures, c.from-2.ensures, c.unit-count.ensures) in
    c.jump.ensures ∙
    ap (jump c.args.at) ((let f : SFits w32 c.int_at.result = search rules in to_z-of_z w32 c.int_at.result f) ∙ c.int_at.ensures ∙ ap (λ n. int_at c.args.units.now (c.args.place + 2 + 2 * n)) place) ∙
    sparse_found c.args.units.now c.args.at c.args.place keys targets c.args.value c.args.next c.key_place-case.result s found less
