-- Spellings worked by hand from the page on formats: one of each format and more, and instructions that have none.
use Rattle.std.specs.Prelude.{◌≡◌, false, pos, negsuc, [], ◌∷◌, Some, None, refl}
use Rattle.dv_defs.specs.Formats.{format_at}
use Rattle.dv_defs.specs.Spelling.{spelling, insn_eq, few, neighbours, plain, with_literal, with_offset, with_index}

-- 10x: nop
nop : spelling (plain 0x00 (few [])) ≡ Some (0x0000 ∷ [])
unfolding format_at insn_eq
nop = refl

-- 10x: return-void
return_void : spelling (plain 0x0e (few [])) ≡ Some (0x000e ∷ [])
unfolding format_at insn_eq
return_void = refl

-- 12x: move v1, v2
move : spelling (plain 0x01 (few (1 ∷ 2 ∷ []))) ≡ Some (0x2101 ∷ [])
unfolding format_at insn_eq
move = refl

-- 11n: const/4 v1, -1
const_4 : spelling (with_literal 0x12 (few (1 ∷ [])) (negsuc 0)) ≡ Some (0xf112 ∷ [])
unfolding format_at insn_eq
const_4 = refl

-- 11n: const/4 v0, 7
const_4_greatest : spelling (with_literal 0x12 (few (0 ∷ [])) (pos 7)) ≡ Some (0x7012 ∷ [])
unfolding format_at insn_eq
const_4_greatest = refl

-- 11x: return v255
return : spelling (plain 0x0f (few (255 ∷ []))) ≡ Some (0xff0f ∷ [])
unfolding format_at insn_eq
return = refl

-- 10t: goto -2
goto : spelling (with_offset 0x28 (few []) (negsuc 1)) ≡ Some (0xfe28 ∷ [])
unfolding format_at insn_eq
goto = refl

-- 20t: goto/16 -2
goto_16 : spelling (with_offset 0x29 (few []) (negsuc 1)) ≡ Some (0x0029 ∷ 0xfffe ∷ [])
unfolding format_at insn_eq
goto_16 = refl

-- 22x: move/from16 v1, v300
move_from16 : spelling (plain 0x02 (few (1 ∷ 300 ∷ []))) ≡ Some (0x0102 ∷ 0x012c ∷ [])
unfolding format_at insn_eq
move_from16 = refl

-- 21t: if-eqz v3, +4
if_eqz : spelling (with_offset 0x38 (few (3 ∷ [])) (pos 4)) ≡ Some (0x0338 ∷ 0x0004 ∷ [])
unfolding format_at insn_eq
if_eqz = refl

-- 21s: const/16 v3, -2
const_16 : spelling (with_literal 0x13 (few (3 ∷ [])) (negsuc 1)) ≡ Some (0x0313 ∷ 0xfffe ∷ [])
unfolding format_at insn_eq
const_16 = refl

-- 21h: const/high16 v0, 65536
const_high16 : spelling (with_literal 0x15 (few (0 ∷ [])) (pos 65536)) ≡ Some (0x0015 ∷ 0x0001 ∷ [])
unfolding format_at insn_eq
const_high16 = refl

-- 21h: const-wide/high16 v2, -281474976710656
const_wide_high16 : spelling (with_literal 0x19 (few (2 ∷ [])) (negsuc 281474976710655)) ≡ Some (0x0219 ∷ 0xffff ∷ [])
unfolding format_at insn_eq
const_wide_high16 = refl

-- 21c: const-string v1, index 5
const_string : spelling (with_index 0x1a (few (1 ∷ [])) 5) ≡ Some (0x011a ∷ 0x0005 ∷ [])
unfolding format_at insn_eq
const_string = refl

-- 23x: add-int v0, v1, v2
add_int : spelling (plain 0x90 (few (0 ∷ 1 ∷ 2 ∷ []))) ≡ Some (0x0090 ∷ 0x0201 ∷ [])
unfolding format_at insn_eq
add_int = refl

-- 22b: add-int/lit8 v0, v1, -1
add_int_lit8 : spelling (with_literal 0xd8 (few (0 ∷ 1 ∷ [])) (negsuc 0)) ≡ Some (0x00d8 ∷ 0xff01 ∷ [])
unfolding format_at insn_eq
add_int_lit8 = refl

-- 22t: if-eq v1, v2, +3
if_eq : spelling (with_offset 0x32 (few (1 ∷ 2 ∷ [])) (pos 3)) ≡ Some (0x2132 ∷ 0x0003 ∷ [])
unfolding format_at insn_eq
if_eq = refl

-- 22s: add-int/lit16 v1, v2, -3
add_int_lit16 : spelling (with_literal 0xd0 (few (1 ∷ 2 ∷ [])) (negsuc 2)) ≡ Some (0x21d0 ∷ 0xfffd ∷ [])
unfolding format_at insn_eq
add_int_lit16 = refl

-- 22c: iget v1, v2, index 7
iget : spelling (with_index 0x52 (few (1 ∷ 2 ∷ [])) 7) ≡ Some (0x2152 ∷ 0x0007 ∷ [])
unfolding format_at insn_eq
iget = refl

-- 30t: goto/32 -65538
goto_32 : spelling (with_offset 0x2a (few []) (negsuc 65537)) ≡ Some (0x002a ∷ 0xfffe ∷ 0xfffe ∷ [])
unfolding format_at insn_eq
goto_32 = refl

-- 32x: move/16 v256, v65535
move_16 : spelling (plain 0x03 (few (256 ∷ 65535 ∷ []))) ≡ Some (0x0003 ∷ 0x0100 ∷ 0xffff ∷ [])
unfolding format_at insn_eq
move_16 = refl

-- 31i: const v1, 0x12345678
const : spelling (with_literal 0x14 (few (1 ∷ [])) (pos 0x12345678)) ≡ Some (0x0114 ∷ 0x5678 ∷ 0x1234 ∷ [])
unfolding format_at insn_eq
const = refl

-- 31t: packed-switch v0, +65544
packed_switch : spelling (with_offset 0x2b (few (0 ∷ [])) (pos 65544)) ≡ Some (0x002b ∷ 0x0008 ∷ 0x0001 ∷ [])
unfolding format_at insn_eq
packed_switch = refl

-- 31c: const-string/jumbo v1, index 0x20003
const_string_jumbo : spelling (with_index 0x1b (few (1 ∷ [])) 0x20003) ≡ Some (0x011b ∷ 0x0003 ∷ 0x0002 ∷ [])
unfolding format_at insn_eq
const_string_jumbo = refl

-- 35c: invoke-static {v0}, index 5
invoke_static : spelling (with_index 0x71 (few (0 ∷ [])) 5) ≡ Some (0x1071 ∷ 0x0005 ∷ 0x0000 ∷ [])
unfolding format_at insn_eq
invoke_static = refl

-- 35c: invoke-static {v1, v2, v3, v4, v5}, index 0x1234
invoke_static_five : spelling (with_index 0x71 (few (1 ∷ 2 ∷ 3 ∷ 4 ∷ 5 ∷ [])) 0x1234) ≡ Some (0x5571 ∷ 0x1234 ∷ 0x4321 ∷ [])
unfolding format_at insn_eq
invoke_static_five = refl

-- 35c: invoke-static {}, index 1
invoke_static_none : spelling (with_index 0x71 (few []) 1) ≡ Some (0x0071 ∷ 0x0001 ∷ 0x0000 ∷ [])
unfolding format_at insn_eq
invoke_static_none = refl

-- 3rc: invoke-static/range {v2 .. v5}, index 9
invoke_static_range : spelling (with_index 0x77 (neighbours 2 4) 9) ≡ Some (0x0477 ∷ 0x0009 ∷ 0x0002 ∷ [])
unfolding format_at insn_eq
invoke_static_range = refl

-- 3rc: invoke-static/range {}, index 9
invoke_static_range_none : spelling (with_index 0x77 (neighbours 0 0) 9) ≡ Some (0x0077 ∷ 0x0009 ∷ 0x0000 ∷ [])
unfolding format_at insn_eq
invoke_static_range_none = refl

-- 51l: const-wide v1, 0x123456789abcdef0
const_wide : spelling (with_literal 0x18 (few (1 ∷ [])) (pos 0x123456789abcdef0)) ≡ Some (0x0118 ∷ 0xdef0 ∷ 0x9abc ∷ 0x5678 ∷ 0x1234 ∷ [])
unfolding format_at insn_eq
const_wide = refl

-- 51l: const-wide v1, -2
const_wide_negative : spelling (with_literal 0x18 (few (1 ∷ [])) (negsuc 1)) ≡ Some (0x0118 ∷ 0xfffe ∷ 0xffff ∷ 0xffff ∷ 0xffff ∷ [])
unfolding format_at insn_eq
const_wide_negative = refl

-- const/4 v0, 8
no_const_4_above : spelling (with_literal 0x12 (few (0 ∷ [])) (pos 8)) ≡ None
unfolding format_at insn_eq
no_const_4_above = refl

-- const/4 v0, -9
no_const_4_below : spelling (with_literal 0x12 (few (0 ∷ [])) (negsuc 8)) ≡ None
unfolding format_at insn_eq
no_const_4_below = refl

-- const/4 v16, 0
no_const_4_v16 : spelling (with_literal 0x12 (few (16 ∷ [])) (pos 0)) ≡ None
unfolding format_at insn_eq
no_const_4_v16 = refl

-- move v0, v16
no_move_v16 : spelling (plain 0x01 (few (0 ∷ 16 ∷ []))) ≡ None
unfolding format_at insn_eq
no_move_v16 = refl

-- const/high16 v0, 65537
no_const_high16_low_bits : spelling (with_literal 0x15 (few (0 ∷ [])) (pos 65537)) ≡ None
unfolding format_at insn_eq
no_const_high16_low_bits = refl

-- invoke-static of six words
no_invoke_static_six : spelling (with_index 0x71 (record { count = 6; first = 0 ∷ 0 ∷ 0 ∷ 0 ∷ 0 ∷ []; range = false }) 5) ≡ None
unfolding format_at insn_eq
no_invoke_static_six = refl

-- invoke-static of no words, the first place not 0
no_invoke_static_unused_word : spelling (with_index 0x71 (record { count = 0; first = 1 ∷ 0 ∷ 0 ∷ 0 ∷ 0 ∷ []; range = false }) 5) ≡ None
unfolding format_at insn_eq
no_invoke_static_unused_word = refl

-- invoke-static of a range
no_invoke_static_as_range : spelling (with_index 0x71 (neighbours 0 1) 5) ≡ None
unfolding format_at insn_eq
no_invoke_static_as_range = refl

-- invoke-static/range {} from v2
no_invoke_static_range_empty : spelling (with_index 0x77 (neighbours 2 0) 9) ≡ None
unfolding format_at insn_eq
no_invoke_static_range_empty = refl

-- nop with an offset
no_nop_offset : spelling (with_offset 0x00 (few []) (pos 1)) ≡ None
unfolding format_at insn_eq
no_nop_offset = refl

-- move of one register
no_move_one_register : spelling (plain 0x01 (few (1 ∷ []))) ≡ None
unfolding format_at insn_eq
no_move_one_register = refl

-- move, with a sixth place
no_move_six_places : spelling (plain 0x01 (record { count = 2; first = 1 ∷ 2 ∷ 0 ∷ 0 ∷ 0 ∷ 0 ∷ []; range = false })) ≡ None
unfolding format_at insn_eq
no_move_six_places = refl

-- an unused opcode
no_unused : spelling (plain 0x3e (few [])) ≡ None
unfolding format_at insn_eq
no_unused = refl

-- add-float
no_add_float : spelling (plain 0xa6 (few (0 ∷ 1 ∷ 2 ∷ []))) ≡ None
unfolding format_at insn_eq
no_add_float = refl
