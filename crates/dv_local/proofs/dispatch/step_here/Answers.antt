use Rattle.std.proofs.Common.{refl, arith}
use Rattle.dv_defs.specs.Formats.{format_at}
use Rattle.dv_frames.specs.Heads.{frame}
use Rattle.dv_local.proofs.Opcodes.{done, none_local}
use Rattle.dv_local.proofs.dispatch.step_here.Goals as goal

-- of each opcode its format, its family, and that it was done
pub nop_10x-requires-clause-format : goal.nop_10x-requires-clause-format
unfolding format_at
nop_10x-requires-clause-format c = refl

pub nop_10x-requires-clause-family : goal.nop_10x-requires-clause-family
nop_10x-requires-clause-family c = refl

pub move_12x-requires-clause-format : goal.move_12x-requires-clause-format
unfolding format_at
move_12x-requires-clause-format c = refl

pub move_12x-requires-clause-family : goal.move_12x-requires-clause-family
move_12x-requires-clause-family c = refl

pub move_22x-requires-clause-format : goal.move_22x-requires-clause-format
unfolding format_at
move_22x-requires-clause-format c = refl

pub move_22x-requires-clause-family : goal.move_22x-requires-clause-family
move_22x-requires-clause-family c = refl

pub move_32x-requires-clause-format : goal.move_32x-requires-clause-format
unfolding format_at
move_32x-requires-clause-format c = refl

pub move_32x-requires-clause-family : goal.move_32x-requires-clause-family
move_32x-requires-clause-family c = refl

pub move_12x-requires-in-4-clause-format : goal.move_12x-requires-in-4-clause-format
unfolding format_at
move_12x-requires-in-4-clause-format c = refl

pub move_12x-requires-in-4-clause-family : goal.move_12x-requires-in-4-clause-family
move_12x-requires-in-4-clause-family c = refl

pub move_22x-requires-in-5-clause-format : goal.move_22x-requires-in-5-clause-format
unfolding format_at
move_22x-requires-in-5-clause-format c = refl

pub move_22x-requires-in-5-clause-family : goal.move_22x-requires-in-5-clause-family
move_22x-requires-in-5-clause-family c = refl

pub move_32x-requires-in-6-clause-format : goal.move_32x-requires-in-6-clause-format
unfolding format_at
move_32x-requires-in-6-clause-format c = refl

pub move_32x-requires-in-6-clause-family : goal.move_32x-requires-in-6-clause-family
move_32x-requires-in-6-clause-family c = refl

pub move_12x-requires-in-7-clause-format : goal.move_12x-requires-in-7-clause-format
unfolding format_at
move_12x-requires-in-7-clause-format c = refl

pub move_12x-requires-in-7-clause-family : goal.move_12x-requires-in-7-clause-family
move_12x-requires-in-7-clause-family c = refl

pub move_22x-requires-in-8-clause-format : goal.move_22x-requires-in-8-clause-format
unfolding format_at
move_22x-requires-in-8-clause-format c = refl

pub move_22x-requires-in-8-clause-family : goal.move_22x-requires-in-8-clause-family
move_22x-requires-in-8-clause-family c = refl

pub move_32x-requires-in-9-clause-format : goal.move_32x-requires-in-9-clause-format
unfolding format_at
move_32x-requires-in-9-clause-format c = refl

pub move_32x-requires-in-9-clause-family : goal.move_32x-requires-in-9-clause-family
move_32x-requires-in-9-clause-family c = refl

pub result_11x-requires-clause-format : goal.result_11x-requires-clause-format
unfolding format_at
result_11x-requires-clause-format c = refl

pub result_11x-requires-clause-family : goal.result_11x-requires-clause-family
result_11x-requires-clause-family c = refl

pub result_11x-requires-in-11-clause-format : goal.result_11x-requires-in-11-clause-format
unfolding format_at
result_11x-requires-in-11-clause-format c = refl

pub result_11x-requires-in-11-clause-family : goal.result_11x-requires-in-11-clause-family
result_11x-requires-in-11-clause-family c = refl

pub result_11x-requires-in-12-clause-format : goal.result_11x-requires-in-12-clause-format
unfolding format_at
result_11x-requires-in-12-clause-format c = refl

pub result_11x-requires-in-12-clause-family : goal.result_11x-requires-in-12-clause-family
result_11x-requires-in-12-clause-family c = refl

pub caught_11x-requires-clause-format : goal.caught_11x-requires-clause-format
unfolding format_at
caught_11x-requires-clause-format c = refl

pub caught_11x-requires-clause-family : goal.caught_11x-requires-clause-family
caught_11x-requires-clause-family c = refl

pub const_11n-requires-clause-format : goal.const_11n-requires-clause-format
unfolding format_at
const_11n-requires-clause-format c = refl

pub const_11n-requires-clause-family : goal.const_11n-requires-clause-family
const_11n-requires-clause-family c = refl

pub const_21s-requires-clause-format : goal.const_21s-requires-clause-format
unfolding format_at
const_21s-requires-clause-format c = refl

pub const_21s-requires-clause-family : goal.const_21s-requires-clause-family
const_21s-requires-clause-family c = refl

pub const_31i-requires-clause-format : goal.const_31i-requires-clause-format
unfolding format_at
const_31i-requires-clause-format c = refl

pub const_31i-requires-clause-family : goal.const_31i-requires-clause-family
const_31i-requires-clause-family c = refl

pub const_21h-requires-clause-format : goal.const_21h-requires-clause-format
unfolding format_at
const_21h-requires-clause-format c = refl

pub const_21h-requires-clause-family : goal.const_21h-requires-clause-family
const_21h-requires-clause-family c = refl

pub wide_21s-requires-clause-format : goal.wide_21s-requires-clause-format
unfolding format_at
wide_21s-requires-clause-format c = refl

pub wide_21s-requires-clause-family : goal.wide_21s-requires-clause-family
wide_21s-requires-clause-family c = refl

pub wide_31i-requires-clause-format : goal.wide_31i-requires-clause-format
unfolding format_at
wide_31i-requires-clause-format c = refl

pub wide_31i-requires-clause-family : goal.wide_31i-requires-clause-family
wide_31i-requires-clause-family c = refl

pub wide_51l-requires-clause-format : goal.wide_51l-requires-clause-format
unfolding format_at
wide_51l-requires-clause-format c = refl

pub wide_51l-requires-clause-family : goal.wide_51l-requires-clause-family
wide_51l-requires-clause-family c = refl

pub wide_21h-requires-clause-format : goal.wide_21h-requires-clause-format
unfolding format_at
wide_21h-requires-clause-format c = refl

pub wide_21h-requires-clause-family : goal.wide_21h-requires-clause-family
wide_21h-requires-clause-family c = refl

pub goto_10t-requires-clause-format : goal.goto_10t-requires-clause-format
unfolding format_at
goto_10t-requires-clause-format c = refl

pub goto_10t-requires-clause-family : goal.goto_10t-requires-clause-family
goto_10t-requires-clause-family c = refl

pub goto_20t-requires-clause-format : goal.goto_20t-requires-clause-format
unfolding format_at
goto_20t-requires-clause-format c = refl

pub goto_20t-requires-clause-family : goal.goto_20t-requires-clause-family
goto_20t-requires-clause-family c = refl

pub goto_30t-requires-clause-format : goal.goto_30t-requires-clause-format
unfolding format_at
goto_30t-requires-clause-format c = refl

pub goto_30t-requires-clause-family : goal.goto_30t-requires-clause-family
goto_30t-requires-clause-family c = refl

pub packed_31t-requires-clause-format : goal.packed_31t-requires-clause-format
unfolding format_at
packed_31t-requires-clause-format c = refl

pub packed_31t-requires-clause-family : goal.packed_31t-requires-clause-family
packed_31t-requires-clause-family c = refl

pub sparse_31t-requires-clause-format : goal.sparse_31t-requires-clause-format
unfolding format_at
sparse_31t-requires-clause-format c = refl

pub sparse_31t-requires-clause-family : goal.sparse_31t-requires-clause-family
sparse_31t-requires-clause-family c = refl

pub compare_23x-requires-clause-format : goal.compare_23x-requires-clause-format
unfolding format_at
compare_23x-requires-clause-format c = refl

pub compare_23x-requires-clause-family : goal.compare_23x-requires-clause-family
compare_23x-requires-clause-family c = refl

pub if_22t-requires-clause-format : goal.if_22t-requires-clause-format
unfolding format_at
if_22t-requires-clause-format c = refl

pub if_22t-requires-clause-family : goal.if_22t-requires-clause-family
if_22t-requires-clause-family c = refl

pub if_22t-requires-in-51-clause-format : goal.if_22t-requires-in-51-clause-format
unfolding format_at
if_22t-requires-in-51-clause-format c = refl

pub if_22t-requires-in-51-clause-family : goal.if_22t-requires-in-51-clause-family
if_22t-requires-in-51-clause-family c = refl

pub if_22t-requires-in-52-clause-format : goal.if_22t-requires-in-52-clause-format
unfolding format_at
if_22t-requires-in-52-clause-format c = refl

pub if_22t-requires-in-52-clause-family : goal.if_22t-requires-in-52-clause-family
if_22t-requires-in-52-clause-family c = refl

pub if_22t-requires-in-53-clause-format : goal.if_22t-requires-in-53-clause-format
unfolding format_at
if_22t-requires-in-53-clause-format c = refl

pub if_22t-requires-in-53-clause-family : goal.if_22t-requires-in-53-clause-family
if_22t-requires-in-53-clause-family c = refl

pub if_22t-requires-in-54-clause-format : goal.if_22t-requires-in-54-clause-format
unfolding format_at
if_22t-requires-in-54-clause-format c = refl

pub if_22t-requires-in-54-clause-family : goal.if_22t-requires-in-54-clause-family
if_22t-requires-in-54-clause-family c = refl

pub if_22t-requires-in-55-clause-format : goal.if_22t-requires-in-55-clause-format
unfolding format_at
if_22t-requires-in-55-clause-format c = refl

pub if_22t-requires-in-55-clause-family : goal.if_22t-requires-in-55-clause-family
if_22t-requires-in-55-clause-family c = refl

pub if_21t-requires-clause-format : goal.if_21t-requires-clause-format
unfolding format_at
if_21t-requires-clause-format c = refl

pub if_21t-requires-clause-family : goal.if_21t-requires-clause-family
if_21t-requires-clause-family c = refl

pub if_21t-requires-in-57-clause-format : goal.if_21t-requires-in-57-clause-format
unfolding format_at
if_21t-requires-in-57-clause-format c = refl

pub if_21t-requires-in-57-clause-family : goal.if_21t-requires-in-57-clause-family
if_21t-requires-in-57-clause-family c = refl

pub if_21t-requires-in-58-clause-format : goal.if_21t-requires-in-58-clause-format
unfolding format_at
if_21t-requires-in-58-clause-format c = refl

pub if_21t-requires-in-58-clause-family : goal.if_21t-requires-in-58-clause-family
if_21t-requires-in-58-clause-family c = refl

pub if_21t-requires-in-59-clause-format : goal.if_21t-requires-in-59-clause-format
unfolding format_at
if_21t-requires-in-59-clause-format c = refl

pub if_21t-requires-in-59-clause-family : goal.if_21t-requires-in-59-clause-family
if_21t-requires-in-59-clause-family c = refl

pub if_21t-requires-in-60-clause-format : goal.if_21t-requires-in-60-clause-format
unfolding format_at
if_21t-requires-in-60-clause-format c = refl

pub if_21t-requires-in-60-clause-family : goal.if_21t-requires-in-60-clause-family
if_21t-requires-in-60-clause-family c = refl

pub if_21t-requires-in-61-clause-format : goal.if_21t-requires-in-61-clause-format
unfolding format_at
if_21t-requires-in-61-clause-format c = refl

pub if_21t-requires-in-61-clause-family : goal.if_21t-requires-in-61-clause-family
if_21t-requires-in-61-clause-family c = refl

pub int_12x-requires-clause-format : goal.int_12x-requires-clause-format
unfolding format_at
int_12x-requires-clause-format c = refl

pub int_12x-requires-clause-family : goal.int_12x-requires-clause-family
int_12x-requires-clause-family c = refl

pub int_12x-requires-in-124-clause-format : goal.int_12x-requires-in-124-clause-format
unfolding format_at
int_12x-requires-in-124-clause-format c = refl

pub int_12x-requires-in-124-clause-family : goal.int_12x-requires-in-124-clause-family
int_12x-requires-in-124-clause-family c = refl

pub negate_long_12x-requires-clause-format : goal.negate_long_12x-requires-clause-format
unfolding format_at
negate_long_12x-requires-clause-format c = refl

pub negate_long_12x-requires-clause-family : goal.negate_long_12x-requires-clause-family
negate_long_12x-requires-clause-family c = refl

pub complement_long_12x-requires-clause-format : goal.complement_long_12x-requires-clause-format
unfolding format_at
complement_long_12x-requires-clause-format c = refl

pub complement_long_12x-requires-clause-family : goal.complement_long_12x-requires-clause-family
complement_long_12x-requires-clause-family c = refl

pub int_to_long_12x-requires-clause-format : goal.int_to_long_12x-requires-clause-format
unfolding format_at
int_to_long_12x-requires-clause-format c = refl

pub int_to_long_12x-requires-clause-family : goal.int_to_long_12x-requires-clause-family
int_to_long_12x-requires-clause-family c = refl

pub long_to_int_12x-requires-clause-format : goal.long_to_int_12x-requires-clause-format
unfolding format_at
long_to_int_12x-requires-clause-format c = refl

pub long_to_int_12x-requires-clause-family : goal.long_to_int_12x-requires-clause-family
long_to_int_12x-requires-clause-family c = refl

pub int_12x-requires-in-141-clause-format : goal.int_12x-requires-in-141-clause-format
unfolding format_at
int_12x-requires-in-141-clause-format c = refl

pub int_12x-requires-in-141-clause-family : goal.int_12x-requires-in-141-clause-family
int_12x-requires-in-141-clause-family c = refl

pub int_12x-requires-in-142-clause-format : goal.int_12x-requires-in-142-clause-format
unfolding format_at
int_12x-requires-in-142-clause-format c = refl

pub int_12x-requires-in-142-clause-family : goal.int_12x-requires-in-142-clause-family
int_12x-requires-in-142-clause-family c = refl

pub int_12x-requires-in-143-clause-format : goal.int_12x-requires-in-143-clause-format
unfolding format_at
int_12x-requires-in-143-clause-format c = refl

pub int_12x-requires-in-143-clause-family : goal.int_12x-requires-in-143-clause-family
int_12x-requires-in-143-clause-family c = refl

pub ints_23x-requires-clause-format : goal.ints_23x-requires-clause-format
unfolding format_at
ints_23x-requires-clause-format c = refl

pub ints_23x-requires-clause-family : goal.ints_23x-requires-clause-family
ints_23x-requires-clause-family c = refl

pub ints_23x-requires-in-145-clause-format : goal.ints_23x-requires-in-145-clause-format
unfolding format_at
ints_23x-requires-in-145-clause-format c = refl

pub ints_23x-requires-in-145-clause-family : goal.ints_23x-requires-in-145-clause-family
ints_23x-requires-in-145-clause-family c = refl

pub ints_23x-requires-in-146-clause-format : goal.ints_23x-requires-in-146-clause-format
unfolding format_at
ints_23x-requires-in-146-clause-format c = refl

pub ints_23x-requires-in-146-clause-family : goal.ints_23x-requires-in-146-clause-family
ints_23x-requires-in-146-clause-family c = refl

pub ints_23x-requires-in-149-clause-format : goal.ints_23x-requires-in-149-clause-format
unfolding format_at
ints_23x-requires-in-149-clause-format c = refl

pub ints_23x-requires-in-149-clause-family : goal.ints_23x-requires-in-149-clause-family
ints_23x-requires-in-149-clause-family c = refl

pub ints_23x-requires-in-150-clause-format : goal.ints_23x-requires-in-150-clause-format
unfolding format_at
ints_23x-requires-in-150-clause-format c = refl

pub ints_23x-requires-in-150-clause-family : goal.ints_23x-requires-in-150-clause-family
ints_23x-requires-in-150-clause-family c = refl

pub ints_23x-requires-in-151-clause-format : goal.ints_23x-requires-in-151-clause-format
unfolding format_at
ints_23x-requires-in-151-clause-format c = refl

pub ints_23x-requires-in-151-clause-family : goal.ints_23x-requires-in-151-clause-family
ints_23x-requires-in-151-clause-family c = refl

pub ints_23x-requires-in-152-clause-format : goal.ints_23x-requires-in-152-clause-format
unfolding format_at
ints_23x-requires-in-152-clause-format c = refl

pub ints_23x-requires-in-152-clause-family : goal.ints_23x-requires-in-152-clause-family
ints_23x-requires-in-152-clause-family c = refl

pub ints_23x-requires-in-153-clause-format : goal.ints_23x-requires-in-153-clause-format
unfolding format_at
ints_23x-requires-in-153-clause-format c = refl

pub ints_23x-requires-in-153-clause-family : goal.ints_23x-requires-in-153-clause-family
ints_23x-requires-in-153-clause-family c = refl

pub ints_23x-requires-in-154-clause-format : goal.ints_23x-requires-in-154-clause-format
unfolding format_at
ints_23x-requires-in-154-clause-format c = refl

pub ints_23x-requires-in-154-clause-family : goal.ints_23x-requires-in-154-clause-family
ints_23x-requires-in-154-clause-family c = refl

pub longs_23x-requires-clause-format : goal.longs_23x-requires-clause-format
unfolding format_at
longs_23x-requires-clause-format c = refl

pub longs_23x-requires-clause-family : goal.longs_23x-requires-clause-family
longs_23x-requires-clause-family c = refl

pub longs_23x-requires-in-156-clause-format : goal.longs_23x-requires-in-156-clause-format
unfolding format_at
longs_23x-requires-in-156-clause-format c = refl

pub longs_23x-requires-in-156-clause-family : goal.longs_23x-requires-in-156-clause-family
longs_23x-requires-in-156-clause-family c = refl

pub longs_23x-requires-in-157-clause-format : goal.longs_23x-requires-in-157-clause-format
unfolding format_at
longs_23x-requires-in-157-clause-format c = refl

pub longs_23x-requires-in-157-clause-family : goal.longs_23x-requires-in-157-clause-family
longs_23x-requires-in-157-clause-family c = refl

pub longs_23x-requires-in-160-clause-format : goal.longs_23x-requires-in-160-clause-format
unfolding format_at
longs_23x-requires-in-160-clause-format c = refl

pub longs_23x-requires-in-160-clause-family : goal.longs_23x-requires-in-160-clause-family
longs_23x-requires-in-160-clause-family c = refl

pub longs_23x-requires-in-161-clause-format : goal.longs_23x-requires-in-161-clause-format
unfolding format_at
longs_23x-requires-in-161-clause-format c = refl

pub longs_23x-requires-in-161-clause-family : goal.longs_23x-requires-in-161-clause-family
longs_23x-requires-in-161-clause-family c = refl

pub longs_23x-requires-in-162-clause-format : goal.longs_23x-requires-in-162-clause-format
unfolding format_at
longs_23x-requires-in-162-clause-format c = refl

pub longs_23x-requires-in-162-clause-family : goal.longs_23x-requires-in-162-clause-family
longs_23x-requires-in-162-clause-family c = refl

pub shift_23x-requires-clause-format : goal.shift_23x-requires-clause-format
unfolding format_at
shift_23x-requires-clause-format c = refl

pub shift_23x-requires-clause-family : goal.shift_23x-requires-clause-family
shift_23x-requires-clause-family c = refl

pub shift_23x-requires-in-164-clause-format : goal.shift_23x-requires-in-164-clause-format
unfolding format_at
shift_23x-requires-in-164-clause-format c = refl

pub shift_23x-requires-in-164-clause-family : goal.shift_23x-requires-in-164-clause-family
shift_23x-requires-in-164-clause-family c = refl

pub shift_23x-requires-in-165-clause-format : goal.shift_23x-requires-in-165-clause-format
unfolding format_at
shift_23x-requires-in-165-clause-format c = refl

pub shift_23x-requires-in-165-clause-family : goal.shift_23x-requires-in-165-clause-family
shift_23x-requires-in-165-clause-family c = refl

pub ints_12x-requires-clause-format : goal.ints_12x-requires-clause-format
unfolding format_at
ints_12x-requires-clause-format c = refl

pub ints_12x-requires-clause-family : goal.ints_12x-requires-clause-family
ints_12x-requires-clause-family c = refl

pub ints_12x-requires-in-177-clause-format : goal.ints_12x-requires-in-177-clause-format
unfolding format_at
ints_12x-requires-in-177-clause-format c = refl

pub ints_12x-requires-in-177-clause-family : goal.ints_12x-requires-in-177-clause-family
ints_12x-requires-in-177-clause-family c = refl

pub ints_12x-requires-in-178-clause-format : goal.ints_12x-requires-in-178-clause-format
unfolding format_at
ints_12x-requires-in-178-clause-format c = refl

pub ints_12x-requires-in-178-clause-family : goal.ints_12x-requires-in-178-clause-family
ints_12x-requires-in-178-clause-family c = refl

pub ints_12x-requires-in-181-clause-format : goal.ints_12x-requires-in-181-clause-format
unfolding format_at
ints_12x-requires-in-181-clause-format c = refl

pub ints_12x-requires-in-181-clause-family : goal.ints_12x-requires-in-181-clause-family
ints_12x-requires-in-181-clause-family c = refl

pub ints_12x-requires-in-182-clause-format : goal.ints_12x-requires-in-182-clause-format
unfolding format_at
ints_12x-requires-in-182-clause-format c = refl

pub ints_12x-requires-in-182-clause-family : goal.ints_12x-requires-in-182-clause-family
ints_12x-requires-in-182-clause-family c = refl

pub ints_12x-requires-in-183-clause-format : goal.ints_12x-requires-in-183-clause-format
unfolding format_at
ints_12x-requires-in-183-clause-format c = refl

pub ints_12x-requires-in-183-clause-family : goal.ints_12x-requires-in-183-clause-family
ints_12x-requires-in-183-clause-family c = refl

pub ints_12x-requires-in-184-clause-format : goal.ints_12x-requires-in-184-clause-format
unfolding format_at
ints_12x-requires-in-184-clause-format c = refl

pub ints_12x-requires-in-184-clause-family : goal.ints_12x-requires-in-184-clause-family
ints_12x-requires-in-184-clause-family c = refl

pub ints_12x-requires-in-185-clause-format : goal.ints_12x-requires-in-185-clause-format
unfolding format_at
ints_12x-requires-in-185-clause-format c = refl

pub ints_12x-requires-in-185-clause-family : goal.ints_12x-requires-in-185-clause-family
ints_12x-requires-in-185-clause-family c = refl

pub ints_12x-requires-in-186-clause-format : goal.ints_12x-requires-in-186-clause-format
unfolding format_at
ints_12x-requires-in-186-clause-format c = refl

pub ints_12x-requires-in-186-clause-family : goal.ints_12x-requires-in-186-clause-family
ints_12x-requires-in-186-clause-family c = refl

pub longs_12x-requires-clause-format : goal.longs_12x-requires-clause-format
unfolding format_at
longs_12x-requires-clause-format c = refl

pub longs_12x-requires-clause-family : goal.longs_12x-requires-clause-family
longs_12x-requires-clause-family c = refl

pub longs_12x-requires-in-188-clause-format : goal.longs_12x-requires-in-188-clause-format
unfolding format_at
longs_12x-requires-in-188-clause-format c = refl

pub longs_12x-requires-in-188-clause-family : goal.longs_12x-requires-in-188-clause-family
longs_12x-requires-in-188-clause-family c = refl

pub longs_12x-requires-in-189-clause-format : goal.longs_12x-requires-in-189-clause-format
unfolding format_at
longs_12x-requires-in-189-clause-format c = refl

pub longs_12x-requires-in-189-clause-family : goal.longs_12x-requires-in-189-clause-family
longs_12x-requires-in-189-clause-family c = refl

pub longs_12x-requires-in-192-clause-format : goal.longs_12x-requires-in-192-clause-format
unfolding format_at
longs_12x-requires-in-192-clause-format c = refl

pub longs_12x-requires-in-192-clause-family : goal.longs_12x-requires-in-192-clause-family
longs_12x-requires-in-192-clause-family c = refl

pub longs_12x-requires-in-193-clause-format : goal.longs_12x-requires-in-193-clause-format
unfolding format_at
longs_12x-requires-in-193-clause-format c = refl

pub longs_12x-requires-in-193-clause-family : goal.longs_12x-requires-in-193-clause-family
longs_12x-requires-in-193-clause-family c = refl

pub longs_12x-requires-in-194-clause-format : goal.longs_12x-requires-in-194-clause-format
unfolding format_at
longs_12x-requires-in-194-clause-format c = refl

pub longs_12x-requires-in-194-clause-family : goal.longs_12x-requires-in-194-clause-family
longs_12x-requires-in-194-clause-family c = refl

pub shift_12x-requires-clause-format : goal.shift_12x-requires-clause-format
unfolding format_at
shift_12x-requires-clause-format c = refl

pub shift_12x-requires-clause-family : goal.shift_12x-requires-clause-family
shift_12x-requires-clause-family c = refl

pub shift_12x-requires-in-196-clause-format : goal.shift_12x-requires-in-196-clause-format
unfolding format_at
shift_12x-requires-in-196-clause-format c = refl

pub shift_12x-requires-in-196-clause-family : goal.shift_12x-requires-in-196-clause-family
shift_12x-requires-in-196-clause-family c = refl

pub shift_12x-requires-in-197-clause-format : goal.shift_12x-requires-in-197-clause-format
unfolding format_at
shift_12x-requires-in-197-clause-format c = refl

pub shift_12x-requires-in-197-clause-family : goal.shift_12x-requires-in-197-clause-family
shift_12x-requires-in-197-clause-family c = refl

pub ints_22s-requires-clause-format : goal.ints_22s-requires-clause-format
unfolding format_at
ints_22s-requires-clause-format c = refl

pub ints_22s-requires-clause-family : goal.ints_22s-requires-clause-family
ints_22s-requires-clause-family c = refl

pub ints_22s-requires-in-209-clause-format : goal.ints_22s-requires-in-209-clause-format
unfolding format_at
ints_22s-requires-in-209-clause-format c = refl

pub ints_22s-requires-in-209-clause-family : goal.ints_22s-requires-in-209-clause-family
ints_22s-requires-in-209-clause-family c = refl

pub ints_22s-requires-in-210-clause-format : goal.ints_22s-requires-in-210-clause-format
unfolding format_at
ints_22s-requires-in-210-clause-format c = refl

pub ints_22s-requires-in-210-clause-family : goal.ints_22s-requires-in-210-clause-family
ints_22s-requires-in-210-clause-family c = refl

pub ints_22s-requires-in-213-clause-format : goal.ints_22s-requires-in-213-clause-format
unfolding format_at
ints_22s-requires-in-213-clause-format c = refl

pub ints_22s-requires-in-213-clause-family : goal.ints_22s-requires-in-213-clause-family
ints_22s-requires-in-213-clause-family c = refl

pub ints_22s-requires-in-214-clause-format : goal.ints_22s-requires-in-214-clause-format
unfolding format_at
ints_22s-requires-in-214-clause-format c = refl

pub ints_22s-requires-in-214-clause-family : goal.ints_22s-requires-in-214-clause-family
ints_22s-requires-in-214-clause-family c = refl

pub ints_22s-requires-in-215-clause-format : goal.ints_22s-requires-in-215-clause-format
unfolding format_at
ints_22s-requires-in-215-clause-format c = refl

pub ints_22s-requires-in-215-clause-family : goal.ints_22s-requires-in-215-clause-family
ints_22s-requires-in-215-clause-family c = refl

pub ints_22b-requires-clause-format : goal.ints_22b-requires-clause-format
unfolding format_at
ints_22b-requires-clause-format c = refl

pub ints_22b-requires-clause-family : goal.ints_22b-requires-clause-family
ints_22b-requires-clause-family c = refl

pub ints_22b-requires-in-217-clause-format : goal.ints_22b-requires-in-217-clause-format
unfolding format_at
ints_22b-requires-in-217-clause-format c = refl

pub ints_22b-requires-in-217-clause-family : goal.ints_22b-requires-in-217-clause-family
ints_22b-requires-in-217-clause-family c = refl

pub ints_22b-requires-in-218-clause-format : goal.ints_22b-requires-in-218-clause-format
unfolding format_at
ints_22b-requires-in-218-clause-format c = refl

pub ints_22b-requires-in-218-clause-family : goal.ints_22b-requires-in-218-clause-family
ints_22b-requires-in-218-clause-family c = refl

pub ints_22b-requires-in-221-clause-format : goal.ints_22b-requires-in-221-clause-format
unfolding format_at
ints_22b-requires-in-221-clause-format c = refl

pub ints_22b-requires-in-221-clause-family : goal.ints_22b-requires-in-221-clause-family
ints_22b-requires-in-221-clause-family c = refl

pub ints_22b-requires-in-222-clause-format : goal.ints_22b-requires-in-222-clause-format
unfolding format_at
ints_22b-requires-in-222-clause-format c = refl

pub ints_22b-requires-in-222-clause-family : goal.ints_22b-requires-in-222-clause-family
ints_22b-requires-in-222-clause-family c = refl

pub ints_22b-requires-in-223-clause-format : goal.ints_22b-requires-in-223-clause-format
unfolding format_at
ints_22b-requires-in-223-clause-format c = refl

pub ints_22b-requires-in-223-clause-family : goal.ints_22b-requires-in-223-clause-family
ints_22b-requires-in-223-clause-family c = refl

pub ints_22b-requires-in-224-clause-format : goal.ints_22b-requires-in-224-clause-format
unfolding format_at
ints_22b-requires-in-224-clause-format c = refl

pub ints_22b-requires-in-224-clause-family : goal.ints_22b-requires-in-224-clause-family
ints_22b-requires-in-224-clause-family c = refl

pub ints_22b-requires-in-225-clause-format : goal.ints_22b-requires-in-225-clause-format
unfolding format_at
ints_22b-requires-in-225-clause-format c = refl

pub ints_22b-requires-in-225-clause-family : goal.ints_22b-requires-in-225-clause-family
ints_22b-requires-in-225-clause-family c = refl

pub ints_22b-requires-in-226-clause-format : goal.ints_22b-requires-in-226-clause-format
unfolding format_at
ints_22b-requires-in-226-clause-format c = refl

pub ints_22b-requires-in-226-clause-family : goal.ints_22b-requires-in-226-clause-family
ints_22b-requires-in-226-clause-family c = refl

pub returns-in-0 : goal.returns-in-0
returns-in-0 c = done _ _ _ c.nop_10x.ensures

pub returns-in-1 : goal.returns-in-1
returns-in-1 c = done _ _ _ c.move_12x.ensures

pub returns-in-2 : goal.returns-in-2
returns-in-2 c = done _ _ _ c.move_22x.ensures

pub returns-in-3 : goal.returns-in-3
returns-in-3 c = done _ _ _ c.move_32x.ensures

pub returns-in-4 : goal.returns-in-4
returns-in-4 c = done _ _ _ c.move_12x-in-4.ensures

pub returns-in-5 : goal.returns-in-5
returns-in-5 c = done _ _ _ c.move_22x-in-5.ensures

pub returns-in-6 : goal.returns-in-6
returns-in-6 c = done _ _ _ c.move_32x-in-6.ensures

pub returns-in-7 : goal.returns-in-7
returns-in-7 c = done _ _ _ c.move_12x-in-7.ensures

pub returns-in-8 : goal.returns-in-8
returns-in-8 c = done _ _ _ c.move_22x-in-8.ensures

pub returns-in-9 : goal.returns-in-9
returns-in-9 c = done _ _ _ c.move_32x-in-9.ensures

pub returns-in-10 : goal.returns-in-10
returns-in-10 c = done _ _ _ c.result_11x.ensures

pub returns-in-11 : goal.returns-in-11
returns-in-11 c = done _ _ _ c.result_11x-in-11.ensures

pub returns-in-12 : goal.returns-in-12
returns-in-12 c = done _ _ _ c.result_11x-in-12.ensures

pub returns-in-13 : goal.returns-in-13
returns-in-13 c = done _ _ _ c.caught_11x.ensures

pub returns-in-18 : goal.returns-in-18
returns-in-18 c = done _ _ _ c.const_11n.ensures

pub returns-in-19 : goal.returns-in-19
returns-in-19 c = done _ _ _ c.const_21s.ensures

pub returns-in-20 : goal.returns-in-20
returns-in-20 c = done _ _ _ c.const_31i.ensures

pub returns-in-21 : goal.returns-in-21
returns-in-21 c = done _ _ _ c.const_21h.ensures

pub returns-in-22 : goal.returns-in-22
returns-in-22 c = done _ _ _ c.wide_21s.ensures

pub returns-in-23 : goal.returns-in-23
returns-in-23 c = done _ _ _ c.wide_31i.ensures

pub returns-in-24 : goal.returns-in-24
returns-in-24 c = done _ _ _ c.wide_51l.ensures

pub returns-in-25 : goal.returns-in-25
returns-in-25 c = done _ _ _ c.wide_21h.ensures

pub returns-in-40 : goal.returns-in-40
returns-in-40 c = done _ _ _ c.goto_10t.ensures

pub returns-in-41 : goal.returns-in-41
returns-in-41 c = done _ _ _ c.goto_20t.ensures

pub returns-in-42 : goal.returns-in-42
returns-in-42 c = done _ _ _ c.goto_30t.ensures

pub returns-in-43 : goal.returns-in-43
returns-in-43 c = done _ _ _ c.packed_31t.ensures

pub returns-in-44 : goal.returns-in-44
returns-in-44 c = done _ _ _ c.sparse_31t.ensures

pub returns-in-49 : goal.returns-in-49
returns-in-49 c = done _ _ _ c.compare_23x.ensures

pub returns-in-50 : goal.returns-in-50
returns-in-50 c = done _ _ _ c.if_22t.ensures

pub returns-in-51 : goal.returns-in-51
returns-in-51 c = done _ _ _ c.if_22t-in-51.ensures

pub returns-in-52 : goal.returns-in-52
returns-in-52 c = done _ _ _ c.if_22t-in-52.ensures

pub returns-in-53 : goal.returns-in-53
returns-in-53 c = done _ _ _ c.if_22t-in-53.ensures

pub returns-in-54 : goal.returns-in-54
returns-in-54 c = done _ _ _ c.if_22t-in-54.ensures

pub returns-in-55 : goal.returns-in-55
returns-in-55 c = done _ _ _ c.if_22t-in-55.ensures

pub returns-in-56 : goal.returns-in-56
returns-in-56 c = done _ _ _ c.if_21t.ensures

pub returns-in-57 : goal.returns-in-57
returns-in-57 c = done _ _ _ c.if_21t-in-57.ensures

pub returns-in-58 : goal.returns-in-58
returns-in-58 c = done _ _ _ c.if_21t-in-58.ensures

pub returns-in-59 : goal.returns-in-59
returns-in-59 c = done _ _ _ c.if_21t-in-59.ensures

pub returns-in-60 : goal.returns-in-60
returns-in-60 c = done _ _ _ c.if_21t-in-60.ensures

pub returns-in-61 : goal.returns-in-61
returns-in-61 c = done _ _ _ c.if_21t-in-61.ensures

pub returns-in-123 : goal.returns-in-123
returns-in-123 c = done _ _ _ c.int_12x.ensures

pub returns-in-124 : goal.returns-in-124
returns-in-124 c = done _ _ _ c.int_12x-in-124.ensures

pub returns-in-125 : goal.returns-in-125
returns-in-125 c = done _ _ _ c.negate_long_12x.ensures

pub returns-in-126 : goal.returns-in-126
returns-in-126 c = done _ _ _ c.complement_long_12x.ensures

pub returns-in-129 : goal.returns-in-129
returns-in-129 c = done _ _ _ c.int_to_long_12x.ensures

pub returns-in-132 : goal.returns-in-132
returns-in-132 c = done _ _ _ c.long_to_int_12x.ensures

pub returns-in-141 : goal.returns-in-141
returns-in-141 c = done _ _ _ c.int_12x-in-141.ensures

pub returns-in-142 : goal.returns-in-142
returns-in-142 c = done _ _ _ c.int_12x-in-142.ensures

pub returns-in-143 : goal.returns-in-143
returns-in-143 c = done _ _ _ c.int_12x-in-143.ensures

pub returns-in-144 : goal.returns-in-144
returns-in-144 c = done _ _ _ c.ints_23x.ensures

pub returns-in-145 : goal.returns-in-145
returns-in-145 c = done _ _ _ c.ints_23x-in-145.ensures

pub returns-in-146 : goal.returns-in-146
returns-in-146 c = done _ _ _ c.ints_23x-in-146.ensures

pub returns-in-149 : goal.returns-in-149
returns-in-149 c = done _ _ _ c.ints_23x-in-149.ensures

pub returns-in-150 : goal.returns-in-150
returns-in-150 c = done _ _ _ c.ints_23x-in-150.ensures

pub returns-in-151 : goal.returns-in-151
returns-in-151 c = done _ _ _ c.ints_23x-in-151.ensures

pub returns-in-152 : goal.returns-in-152
returns-in-152 c = done _ _ _ c.ints_23x-in-152.ensures

pub returns-in-153 : goal.returns-in-153
returns-in-153 c = done _ _ _ c.ints_23x-in-153.ensures

pub returns-in-154 : goal.returns-in-154
returns-in-154 c = done _ _ _ c.ints_23x-in-154.ensures

pub returns-in-155 : goal.returns-in-155
returns-in-155 c = done _ _ _ c.longs_23x.ensures

pub returns-in-156 : goal.returns-in-156
returns-in-156 c = done _ _ _ c.longs_23x-in-156.ensures

pub returns-in-157 : goal.returns-in-157
returns-in-157 c = done _ _ _ c.longs_23x-in-157.ensures

pub returns-in-160 : goal.returns-in-160
returns-in-160 c = done _ _ _ c.longs_23x-in-160.ensures

pub returns-in-161 : goal.returns-in-161
returns-in-161 c = done _ _ _ c.longs_23x-in-161.ensures

pub returns-in-162 : goal.returns-in-162
returns-in-162 c = done _ _ _ c.longs_23x-in-162.ensures

pub returns-in-163 : goal.returns-in-163
returns-in-163 c = done _ _ _ c.shift_23x.ensures

pub returns-in-164 : goal.returns-in-164
returns-in-164 c = done _ _ _ c.shift_23x-in-164.ensures

pub returns-in-165 : goal.returns-in-165
returns-in-165 c = done _ _ _ c.shift_23x-in-165.ensures

pub returns-in-176 : goal.returns-in-176
returns-in-176 c = done _ _ _ c.ints_12x.ensures

pub returns-in-177 : goal.returns-in-177
returns-in-177 c = done _ _ _ c.ints_12x-in-177.ensures

pub returns-in-178 : goal.returns-in-178
returns-in-178 c = done _ _ _ c.ints_12x-in-178.ensures

pub returns-in-181 : goal.returns-in-181
returns-in-181 c = done _ _ _ c.ints_12x-in-181.ensures

pub returns-in-182 : goal.returns-in-182
returns-in-182 c = done _ _ _ c.ints_12x-in-182.ensures

pub returns-in-183 : goal.returns-in-183
returns-in-183 c = done _ _ _ c.ints_12x-in-183.ensures

pub returns-in-184 : goal.returns-in-184
returns-in-184 c = done _ _ _ c.ints_12x-in-184.ensures

pub returns-in-185 : goal.returns-in-185
returns-in-185 c = done _ _ _ c.ints_12x-in-185.ensures

pub returns-in-186 : goal.returns-in-186
returns-in-186 c = done _ _ _ c.ints_12x-in-186.ensures

pub returns-in-187 : goal.returns-in-187
returns-in-187 c = done _ _ _ c.longs_12x.ensures

pub returns-in-188 : goal.returns-in-188
returns-in-188 c = done _ _ _ c.longs_12x-in-188.ensures

pub returns-in-189 : goal.returns-in-189
returns-in-189 c = done _ _ _ c.longs_12x-in-189.ensures

pub returns-in-192 : goal.returns-in-192
returns-in-192 c = done _ _ _ c.longs_12x-in-192.ensures

pub returns-in-193 : goal.returns-in-193
returns-in-193 c = done _ _ _ c.longs_12x-in-193.ensures

pub returns-in-194 : goal.returns-in-194
returns-in-194 c = done _ _ _ c.longs_12x-in-194.ensures

pub returns-in-195 : goal.returns-in-195
returns-in-195 c = done _ _ _ c.shift_12x.ensures

pub returns-in-196 : goal.returns-in-196
returns-in-196 c = done _ _ _ c.shift_12x-in-196.ensures

pub returns-in-197 : goal.returns-in-197
returns-in-197 c = done _ _ _ c.shift_12x-in-197.ensures

pub returns-in-208 : goal.returns-in-208
returns-in-208 c = done _ _ _ c.ints_22s.ensures

pub returns-in-209 : goal.returns-in-209
returns-in-209 c = done _ _ _ c.ints_22s-in-209.ensures

pub returns-in-210 : goal.returns-in-210
returns-in-210 c = done _ _ _ c.ints_22s-in-210.ensures

pub returns-in-213 : goal.returns-in-213
returns-in-213 c = done _ _ _ c.ints_22s-in-213.ensures

pub returns-in-214 : goal.returns-in-214
returns-in-214 c = done _ _ _ c.ints_22s-in-214.ensures

pub returns-in-215 : goal.returns-in-215
returns-in-215 c = done _ _ _ c.ints_22s-in-215.ensures

pub returns-in-216 : goal.returns-in-216
returns-in-216 c = done _ _ _ c.ints_22b.ensures

pub returns-in-217 : goal.returns-in-217
returns-in-217 c = done _ _ _ c.ints_22b-in-217.ensures

pub returns-in-218 : goal.returns-in-218
returns-in-218 c = done _ _ _ c.ints_22b-in-218.ensures

pub returns-in-221 : goal.returns-in-221
returns-in-221 c = done _ _ _ c.ints_22b-in-221.ensures

pub returns-in-222 : goal.returns-in-222
returns-in-222 c = done _ _ _ c.ints_22b-in-222.ensures

pub returns-in-223 : goal.returns-in-223
returns-in-223 c = done _ _ _ c.ints_22b-in-223.ensures

pub returns-in-224 : goal.returns-in-224
returns-in-224 c = done _ _ _ c.ints_22b-in-224.ensures

pub returns-in-225 : goal.returns-in-225
returns-in-225 c = done _ _ _ c.ints_22b-in-225.ensures

pub returns-in-226 : goal.returns-in-226
returns-in-226 c = done _ _ _ c.ints_22b-in-226.ensures

-- a fact and the next ones
infixr 30 ◌also◌
◌also◌ : {A B : Type 0} → A → B → A × B
a also b = (a, b)

-- the opcode is none of the hundred
pub returns-in_default : goal.returns-in_default
returns-in_default c =
    none_local c.args.here.now (frame c.args.head.now c.args.words.now) (
    (omega arith)
    also (omega arith)
    also (omega arith)
    also (omega arith)
    also (omega arith)
    also (omega arith)
    also (omega arith)
    also (omega arith)
    also (omega arith)
    also (omega arith)
    also (omega arith)
    also (omega arith)
    also (omega arith)
    also (omega arith)
    also (omega arith)
    also (omega arith)
    also (omega arith)
    also (omega arith)
    also (omega arith)
    also (omega arith)
    also (omega arith)
    also (omega arith)
    also (omega arith)
    also (omega arith)
    also (omega arith)
    also (omega arith)
    also (omega arith)
    also (omega arith)
    also (omega arith)
    also (omega arith)
    also (omega arith)
    also (omega arith)
    also (omega arith)
    also (omega arith)
    also (omega arith)
    also (omega arith)
    also (omega arith)
    also (omega arith)
    also (omega arith)
    also (omega arith)
    also (omega arith)
    also (omega arith)
    also (omega arith)
    also (omega arith)
    also (omega arith)
    also (omega arith)
    also (omega arith)
    also (omega arith)
    also (omega arith)
    also (omega arith)
    also (omega arith)
    also (omega arith)
    also (omega arith)
    also (omega arith)
    also (omega arith)
    also (omega arith)
    also (omega arith)
    also (omega arith)
    also (omega arith)
    also (omega arith)
    also (omega arith)
    also (omega arith)
    also (omega arith)
    also (omega arith)
    also (omega arith)
    also (omega arith)
    also (omega arith)
    also (omega arith)
    also (omega arith)
    also (omega arith)
    also (omega arith)
    also (omega arith)
    also (omega arith)
    also (omega arith)
    also (omega arith)
    also (omega arith)
    also (omega arith)
    also (omega arith)
    also (omega arith)
    also (omega arith)
    also (omega arith)
    also (omega arith)
    also (omega arith)
    also (omega arith)
    also (omega arith)
    also (omega arith)
    also (omega arith)
    also (omega arith)
    also (omega arith)
    also (omega arith)
    also (omega arith)
    also (omega arith)
    also (omega arith)
    also (omega arith)
    also (omega arith)
    also (omega arith)
    also (omega arith)
    also (omega arith)
    also (omega arith)
    also (omega arith)
    also tt)
