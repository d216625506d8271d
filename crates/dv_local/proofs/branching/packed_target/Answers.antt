use Rattle.std.proofs.Common.{◌≡◌, ◌+◌, ◌*◌, ◌∙◌, pos, ◌+ℤ◌, sym, ap, rules, w32, SFits, arith, of_z, to_z}
use Rattle.std.proofs.lemmas.Int.{to_z-of_z}
use Rattle.dv_defs.specs.Numbers.{jump}
use Rattle.dv_local.specs.Switching.{int_at}
use Rattle.dv_local.proofs.Switches.{packed_found, packed_none}
use Rattle.dv_local.proofs.branching.packed_target.Goals as goal

pub returns-in-None : goal.returns-in-None
returns-in-None c first targets s =
    let first_is : to_z w32 (of_z w32 c.int_at-first.result) ≡ int_at c.args.units.now (c.args.place + 2) = (let f : SFits w32 c.int_at-first.result = search rules in to_z-of_z w32 c.int_at-first.result f) ∙ c.int_at-first.ensures in
    let value : to_z w32 (of_z w32 c.args.value) ≡ c.args.value = (let f : SFits w32 c.args.value = search rules in to_z-of_z w32 c.args.value f) in
    packed_none c.args.units.now c.args.at c.args.place first targets c.args.value c.args.next s
    (λ k l e. c.in-None.ensures k (omega (arith, l, c.unit.ensures)) (ap (λ z. z +ℤ pos k) first_is ∙ e ∙ sym value))

pub returns-in-Some : goal.returns-in-Some
returns-in-Some c first targets s =
    let first_is : to_z w32 (of_z w32 c.int_at-first.result) ≡ int_at c.args.units.now (c.args.place + 2) = (let f : SFits w32 c.int_at-first.result = search rules in to_z-of_z w32 c.int_at-first.result f) ∙ c.int_at-first.ensures in
    let value : to_z w32 (of_z w32 c.args.value) ≡ c.args.value = (let f : SFits w32 c.args.value = search rules in to_z-of_z w32 c.args.value f) in
    c.jump.ensures ∙
    ap (jump c.args.at) ((let f : SFits w32 c.int_at.result = search rules in to_z-of_z w32 c.int_at.result f) ∙ c.int_at.ensures ∙ ap (λ n. int_at c.args.units.now (c.args.place + 4 + 2 * n)) c.from.ensures) ∙
    packed_found c.args.units.now c.args.at c.args.place first targets c.args.value c.args.next c.in-Some.case s
    (record { within = omega (arith, c.in-Some.ensures.within, c.unit.ensures); there = ap (λ z. z +ℤ pos c.in-Some.case) (sym first_is) ∙ c.in-Some.ensures.there ∙ value })
