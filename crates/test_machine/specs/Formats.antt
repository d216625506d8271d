-- Examples: an instruction of each format, and its units (AOSP, "Dalvik executable instruction formats").
use Rattle.std.specs.Prelude.{◌≡◌, ℕ, pos, negsuc, List, [], ◌∷◌, ◌++◌, length, Some, None}
use Rattle.dv_defs.specs.declared.code.Insn.{Insn}
use Rattle.dv_defs.specs.Spelling.{few, neighbours, plain, with_literal, with_offset, with_index, spelling}
use Rattle.dv_defs.specs.Decoding.{insn_here}

-- the instruction is spelled so, and stands where these units do, whatever follows
pub record AreUnitsOf (i : Insn) (us : List ℕ) : Type 0 where
  pub spelled : spelling i ≡ Some us
  pub here : insn_here (us ++ 0xffff ∷ []) ≡ Some (record { insn = i; size = length us })

-- an instruction of each format, and units in which none stands
pub record Formats : Type 0 where
  -- return-void
  pub f10x : AreUnitsOf (plain 0x0e (few [])) (0x000e ∷ [])
  -- move v1, v2
  pub f12x : AreUnitsOf (plain 0x01 (few (1 ∷ 2 ∷ []))) (0x2101 ∷ [])
  -- const/4 v1, -1
  pub f11n : AreUnitsOf (with_literal 0x12 (few (1 ∷ [])) (negsuc 0)) (0xf112 ∷ [])
  -- return v5
  pub f11x : AreUnitsOf (plain 0x0f (few (5 ∷ []))) (0x050f ∷ [])
  -- goto -2
  pub f10t : AreUnitsOf (with_offset 0x28 (few []) (negsuc 1)) (0xfe28 ∷ [])
  -- goto/16 -32768
  pub f20t : AreUnitsOf (with_offset 0x29 (few []) (negsuc 32767)) (0x0029 ∷ 0x8000 ∷ [])
  -- move/from16 v5, v4660
  pub f22x : AreUnitsOf (plain 0x02 (few (5 ∷ 4660 ∷ []))) (0x0502 ∷ 0x1234 ∷ [])
  -- if-eqz v5, -1
  pub f21t : AreUnitsOf (with_offset 0x38 (few (5 ∷ [])) (negsuc 0)) (0x0538 ∷ 0xffff ∷ [])
  -- const/16 v5, -32768
  pub f21s : AreUnitsOf (with_literal 0x13 (few (5 ∷ [])) (negsuc 32767)) (0x0513 ∷ 0x8000 ∷ [])
  -- const/high16 v5, -2147483648
  pub f21h : AreUnitsOf (with_literal 0x15 (few (5 ∷ [])) (negsuc 2147483647)) (0x0515 ∷ 0x8000 ∷ [])
  -- const-wide/high16 v5, -9223372036854775808
  pub f21h_wide : AreUnitsOf (with_literal 0x19 (few (5 ∷ [])) (negsuc 9223372036854775807)) (0x0519 ∷ 0x8000 ∷ [])
  -- const-string v5, string 65535
  pub f21c : AreUnitsOf (with_index 0x1a (few (5 ∷ [])) 65535) (0x051a ∷ 0xffff ∷ [])
  -- add-int v0, v1, v2
  pub f23x : AreUnitsOf (plain 0x90 (few (0 ∷ 1 ∷ 2 ∷ []))) (0x0090 ∷ 0x0201 ∷ [])
  -- add-int/lit8 v5, v6, -128
  pub f22b : AreUnitsOf (with_literal 0xd8 (few (5 ∷ 6 ∷ [])) (negsuc 127)) (0x05d8 ∷ 0x8006 ∷ [])
  -- if-eq v1, v2, -32768
  pub f22t : AreUnitsOf (with_offset 0x32 (few (1 ∷ 2 ∷ [])) (negsuc 32767)) (0x2132 ∷ 0x8000 ∷ [])
  -- add-int/lit16 v1, v2, 32767
  pub f22s : AreUnitsOf (with_literal 0xd0 (few (1 ∷ 2 ∷ [])) (pos 32767)) (0x21d0 ∷ 0x7fff ∷ [])
  -- iget v1, v2, field 3
  pub f22c : AreUnitsOf (with_index 0x52 (few (1 ∷ 2 ∷ [])) 3) (0x2152 ∷ 0x0003 ∷ [])
  -- goto/32 -2147483648
  pub f30t : AreUnitsOf (with_offset 0x2a (few []) (negsuc 2147483647)) (0x002a ∷ 0x0000 ∷ 0x8000 ∷ [])
  -- move/16 v4660, v22136
  pub f32x : AreUnitsOf (plain 0x03 (few (4660 ∷ 22136 ∷ []))) (0x0003 ∷ 0x1234 ∷ 0x5678 ∷ [])
  -- const v5, -2147483647
  pub f31i : AreUnitsOf (with_literal 0x14 (few (5 ∷ [])) (negsuc 2147483646)) (0x0514 ∷ 0x0001 ∷ 0x8000 ∷ [])
  -- packed-switch v5, 4
  pub f31t : AreUnitsOf (with_offset 0x2b (few (5 ∷ [])) (pos 4)) (0x052b ∷ 0x0004 ∷ 0x0000 ∷ [])
  -- const-string/jumbo v5, string 65536
  pub f31c : AreUnitsOf (with_index 0x1b (few (5 ∷ [])) 65536) (0x051b ∷ 0x0000 ∷ 0x0001 ∷ [])
  -- invoke-static {v1, v2, v3, v4, v5}, method 6
  pub f35c : AreUnitsOf (with_index 0x71 (few (1 ∷ 2 ∷ 3 ∷ 4 ∷ 5 ∷ [])) 6) (0x5571 ∷ 0x0006 ∷ 0x4321 ∷ [])
  -- invoke-static {v0}, method 5
  pub f35c_one : AreUnitsOf (with_index 0x71 (few (0 ∷ [])) 5) (0x1071 ∷ 0x0005 ∷ 0x0000 ∷ [])
  -- invoke-static/range {v16 .. v18}, method 6
  pub f3rc : AreUnitsOf (with_index 0x77 (neighbours 16 3) 6) (0x0377 ∷ 0x0006 ∷ 0x0010 ∷ [])
  -- const-wide v5, -9223372036854775808
  pub f51l : AreUnitsOf (with_literal 0x18 (few (5 ∷ [])) (negsuc 9223372036854775807)) (0x0518 ∷ 0x0000 ∷ 0x0000 ∷ 0x0000 ∷ 0x8000 ∷ [])
  -- a high byte that has to be 0
  pub ragged : insn_here (0x010e ∷ []) ≡ None
  -- a nibble of no word
  pub unused_nibble : insn_here (0x1071 ∷ 0x0005 ∷ 0x0010 ∷ []) ≡ None
  -- six words
  pub six : insn_here (0x6071 ∷ 0x0005 ∷ 0x0000 ∷ []) ≡ None
  -- no words, but a first one
  pub empty_range : insn_here (0x0077 ∷ 0x0005 ∷ 0x0001 ∷ []) ≡ None
  -- the units end inside it
  pub cut : insn_here (0x0090 ∷ []) ≡ None
  -- an unused opcode
  pub unused : insn_here (0x003e ∷ []) ≡ None
  -- a float opcode
  pub float : insn_here (0x00a6 ∷ 0x0000 ∷ []) ≡ None
