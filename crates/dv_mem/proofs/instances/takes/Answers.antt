use Rattle.std.proofs.Common.{◌<◌, ap, arith}
use Rattle.dv_defs.specs.declared.names.Ty.{Ty}
use Rattle.dv_mem.specs.Tops.{here}
use Rattle.dv_mem.proofs.Arrays.{storable_object}
use Rattle.dv_mem.proofs.instances.takes.Goals as goal

pub returns-in-Array : goal.returns-in-Array
returns-in-Array c good frame next array =
    let some : 0 < c.args.object = omega arith in
    let element : Ty = record { dims = c.saturating_sub-dims.result; base = c.in-Array.ty.base } in
    storable_object (here c.args.image.now frame c.args.heap.now next) c.args.array c.args.object c.kind.result.now c.in-Array.ty element c.is_of_type.result some c.kind.ensures c.in-Array.is
    (ap (λ n. record { dims = n; base = c.in-Array.ty.base }) c.saturating_sub-dims.ensures) (c.is_of_type.ensures frame next)
