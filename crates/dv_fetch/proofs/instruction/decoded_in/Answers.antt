use Rattle.std.proofs.lemmas.Grind.{common_steps}
use Rattle.std.proofs.Common.{◌≡◌, ◌∙◌, ℕ, List, drop, length, refl, sym, ap, arith}
use Rattle.dv_defs.specs.Decoding.{insn_here}
use Rattle.dv_defs.specs.Tiling.{tiles_in, tiling}
use Rattle.dv_ops.specs.Meaning.{code_of}
use Rattle.dv_fetch.proofs.Found.{found, inside, no_rule, some_insn}
use Rattle.dv_fetch.proofs.instruction.decoded_in.Goals as goal

pub returns-then-head-units : goal.returns-then-head-units
returns-then-head-units c stack own h x same is at has coded =
    let code = code_of c.args.code.now in
    let place = c.args.head.at in
    let units : c.units_of-units.result.now ≡ code.body.units = c.units_of-units.ensures.units in
    let less = inside c.args.image.now stack own h x same is at c.args.head has code coded in
    absurd (omega (arith, less, c.if-head-units.true, ap (λ (us : List ℕ). length us) units))

pub returns-in_default : goal.returns-in_default
returns-in_default c stack own h x same is at has coded =
    let code = code_of c.args.code.now in
    let place = c.args.head.at in
    let units : c.units_of-units.result.now ≡ code.body.units = c.units_of-units.ensures.units in
    some_insn c.args.image.now stack own h x same is at c.args.head has code coded (ap (λ (us : List ℕ). insn_here (drop place us)) (sym units) ∙ c.in_default.ensures.none_here)

pub returns-in_default-resolve : goal.returns-in_default-resolve
returns-in_default-resolve c stack own h x same is at has coded =
    let code = code_of c.args.code.now in
    let place = c.args.head.at in
    let units : c.units_of-units.result.now ≡ code.body.units = c.units_of-units.ensures.units in
    let read = ap (λ (us : List ℕ). insn_here (drop place us)) (sym units) ∙ c.in-Ok.ensures.here in
    no_rule c.args.image.now stack own h x same is at c.args.head has code coded c.in-Ok.insn c.in-Ok.size read c.resolve.result c.resolve.ensures (c.in_default-resolve).field-0 (c.in_default-resolve).is

pub returns : goal.returns
returns c stack own h x same is at has coded =
    let code = code_of c.args.code.now in
    let place = c.args.head.at in
    let units : c.units_of-units.result.now ≡ code.body.units = c.units_of-units.ensures.units in
    let read = ap (λ (us : List ℕ). insn_here (drop place us)) (sym units) ∙ c.in-Ok.ensures.here in
    found c.args.image.now stack own h x same is at c.args.head has code coded c.in-Ok.insn c.in-Ok.size read c.resolve.result c.resolve.ensures _ c.in-Ok-resolve.is refl (ap (λ (us : List ℕ). tiles_in (tiling us)) (sym units))

pub overflow_add-result : goal.overflow_add-result
overflow_add-result c = grind (arith, common_steps)
