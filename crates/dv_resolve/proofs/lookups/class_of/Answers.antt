use Rattle.std.proofs.Common.{◌≡◌, ◌<◌, ◌^◌, length, Some, sym, ◌∙◌, arith}
use Rattle.dv_defs.specs.LookUp.{class_referred}
use Rattle.dv_resolve.proofs.Walking.{referred_in}
use Rattle.dv_resolve.proofs.lookups.class_of.Goals as goal

pub returns-then-place : goal.returns-then-place
returns-then-place c = λ image knows.
    let found : class_referred image c.args.ty.now ≡ Some c.in_ok-place.place = sym (c.place_of.ensures image knows) ∙ c.in_ok-place.was in
    let within : c.in_ok-place.place < length image.classes = referred_in image c.args.ty.now c.in_ok-place.place found in
    let few : length image.classes < 2 ^ 32 = knows.few in
    absurd (omega arith)
