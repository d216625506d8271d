-- Examples: numbers and branches.
use Rattle.std.specs.Prelude.{◌≡◌, [], ◌∷◌, codes}
use Rattle.dv_defs.specs.Images.{Image}
use Rattle.dv_typing.specs.Accepting.{Accepts}
use Rattle.test_machine.specs.Images.{body, naming, println_ref}
use Rattle.test_machine.specs.BootImage.{with_main}
use Rattle.test_machine.specs.Outcomes.{lines, outcome}

--   .registers 2
--   const v0, 0x7fffffff
--   const/4 v1, 0x1
--   add-int v0, v0, v1
--   invoke-static {v0}, Ldvm/Console;->println(I)V
--   return-void
abbrev pub adding : Image
adding = with_main (naming [] (println_ref ∷ [])
    (body 2 (0x0014 ∷ 0xffff ∷ 0x7fff ∷ 0x1112 ∷ 0x0090 ∷ 0x0100 ∷ 0x1071 ∷ 0x0000 ∷ 0x0000 ∷ 0x000e ∷ []))) [] [] (40 ∷ [])

--   .registers 2
--   const v0, -0x80000000
--   const/4 v1, -0x1
--   div-int v1, v0, v1
--   invoke-static {v1}, Ldvm/Console;->println(I)V
--   const/4 v1, 0x0
--   div-int v0, v0, v1
--   return-void
abbrev pub dividing : Image
dividing =
    with_main
    (naming [] (println_ref ∷ [])
    (body 2
    (0x0014 ∷ 0x0000 ∷ 0x8000 ∷ 0xf112 ∷ 0x0193 ∷ 0x0100 ∷ 0x1071 ∷ 0x0000 ∷ 0x0001 ∷ 0x0112 ∷ 0x0093 ∷
    0x0100 ∷ 0x000e ∷ [])))
    [] [] (40 ∷ [])

--   .registers 3
--   const-wide/16 v0, 0x7
--   const/4 v1, 0x1
--   const-wide/16 v0, 0x9
--   long-to-int v2, v0
--   invoke-static {v2}, Ldvm/Console;->println(I)V
--   return-void
abbrev pub long_kept : Image
long_kept =
    with_main (naming [] (println_ref ∷ [])
    (body 3 (0x0016 ∷ 0x0007 ∷ 0x1112 ∷ 0x0016 ∷ 0x0009 ∷ 0x0284 ∷ 0x1071 ∷ 0x0000 ∷ 0x0002 ∷ 0x000e ∷ [])))
    [] [] (40 ∷ [])

--   .registers 6
--   const-wide v0, 0x123456789abcdef0
--   const/16 v2, 0x24
--   shr-long v4, v0, v2
--   long-to-int v3, v4
--   invoke-static {v3}, Ldvm/Console;->println(I)V
--   const-wide/16 v4, -0x1
--   cmp-long v3, v4, v0
--   invoke-static {v3}, Ldvm/Console;->println(I)V
--   const/4 v2, 0x4
--   ushr-long v4, v4, v2
--   const-wide/16 v0, 0x0
--   cmp-long v3, v4, v0
--   invoke-static {v3}, Ldvm/Console;->println(I)V
--   return-void
abbrev pub longs : Image
longs =
    with_main
    (naming [] (println_ref ∷ [])
    (body 6
    (0x0018 ∷ 0xdef0 ∷ 0x9abc ∷ 0x5678 ∷ 0x1234 ∷ 0x0213 ∷ 0x0024 ∷ 0x04a4 ∷ 0x0200 ∷ 0x4384 ∷ 0x1071 ∷
    0x0000 ∷ 0x0003 ∷ 0x0416 ∷ 0xffff ∷ 0x0331 ∷ 0x0004 ∷ 0x1071 ∷ 0x0000 ∷ 0x0003 ∷ 0x4212 ∷ 0x04a5 ∷
    0x0204 ∷ 0x0016 ∷ 0x0000 ∷ 0x0331 ∷ 0x0004 ∷ 0x1071 ∷ 0x0000 ∷ 0x0003 ∷ 0x000e ∷ [])))
    [] [] (40 ∷ [])

--   .registers 3
--   const/4 v0, 0x1
--   const/16 v1, 0x21
--   shl-int v2, v0, v1
--   invoke-static {v2}, Ldvm/Console;->println(I)V
--   const/4 v0, -0x8
--   shr-int/lit8 v2, v0, 0x1
--   invoke-static {v2}, Ldvm/Console;->println(I)V
--   ushr-int/lit8 v2, v0, 0x1f
--   invoke-static {v2}, Ldvm/Console;->println(I)V
--   rsub-int v2, v0, 0x1
--   invoke-static {v2}, Ldvm/Console;->println(I)V
--   rem-int/lit8 v2, v0, 0x3
--   invoke-static {v2}, Ldvm/Console;->println(I)V
--   return-void
abbrev pub shifting : Image
shifting =
    with_main
    (naming [] (println_ref ∷ [])
    (body 3
    (0x1012 ∷ 0x0113 ∷ 0x0021 ∷ 0x0298 ∷ 0x0100 ∷ 0x1071 ∷ 0x0000 ∷ 0x0002 ∷ 0x8012 ∷ 0x02e1 ∷ 0x0100 ∷
    0x1071 ∷ 0x0000 ∷ 0x0002 ∷ 0x02e2 ∷ 0x1f00 ∷ 0x1071 ∷ 0x0000 ∷ 0x0002 ∷ 0x02d1 ∷ 0x0001 ∷ 0x1071 ∷
    0x0000 ∷ 0x0002 ∷ 0x02dc ∷ 0x0300 ∷ 0x1071 ∷ 0x0000 ∷ 0x0002 ∷ 0x000e ∷ [])))
    [] [] (40 ∷ [])

--   .registers 2
--   const v0, 0x12345
--   int-to-byte v1, v0
--   invoke-static {v1}, Ldvm/Console;->println(I)V
--   int-to-char v1, v0
--   invoke-static {v1}, Ldvm/Console;->println(I)V
--   const v0, 0x18000
--   int-to-short v1, v0
--   invoke-static {v1}, Ldvm/Console;->println(I)V
--   return-void
abbrev pub narrowing : Image
narrowing =
    with_main
    (naming [] (println_ref ∷ [])
    (body 2
    (0x0014 ∷ 0x2345 ∷ 0x0001 ∷ 0x018d ∷ 0x1071 ∷ 0x0000 ∷ 0x0001 ∷ 0x018e ∷ 0x1071 ∷ 0x0000 ∷ 0x0001 ∷
    0x0014 ∷ 0x8000 ∷ 0x0001 ∷ 0x018f ∷ 0x1071 ∷ 0x0000 ∷ 0x0001 ∷ 0x000e ∷ [])))
    [] [] (40 ∷ [])

--   .registers 2
--   const/4 v0, 0x1
--   packed-switch v0, :d
--   const/4 v1, 0x5
--   goto :e
--   :p
--   const/4 v1, 0x7
--   :e
--   invoke-static {v1}, Ldvm/Console;->println(I)V
--   return-void
--   :d
--   .packed-switch 0x1
--   :p
--   .end packed-switch
abbrev pub switching : Image
switching =
    with_main
    (naming [] (println_ref ∷ [])
    (body 2
    (0x1012 ∷ 0x002b ∷ 0x000b ∷ 0x0000 ∷ 0x5112 ∷ 0x0228 ∷ 0x7112 ∷ 0x1071 ∷ 0x0000 ∷ 0x0001 ∷ 0x000e ∷
    0x0000 ∷ 0x0100 ∷ 0x0001 ∷ 0x0001 ∷ 0x0000 ∷ 0x0005 ∷ 0x0000 ∷ [])))
    [] [] (40 ∷ [])

--   .registers 2
--   const/4 v0, -0x3
--   sparse-switch v0, :d
--   const/4 v1, 0x5
--   goto :e
--   :p
--   const/4 v1, 0x7
--   goto :e
--   :q
--   const/4 v1, 0x6
--   :e
--   invoke-static {v1}, Ldvm/Console;->println(I)V
--   return-void
--   :d
--   .sparse-switch
--   -3 -> :q
--   9 -> :p
--   .end sparse-switch
abbrev pub choosing : Image
choosing =
    with_main
    (naming [] (println_ref ∷ [])
    (body 2
    (0xd012 ∷ 0x002c ∷ 0x000d ∷ 0x0000 ∷ 0x5112 ∷ 0x0428 ∷ 0x7112 ∷ 0x0228 ∷ 0x6112 ∷ 0x1071 ∷ 0x0000 ∷
    0x0001 ∷ 0x000e ∷ 0x0000 ∷ 0x0200 ∷ 0x0002 ∷ 0xfffd ∷ 0xffff ∷ 0x0009 ∷ 0x0000 ∷ 0x0007 ∷ 0x0000 ∷
    0x0005 ∷ 0x0000 ∷ [])))
    [] [] (40 ∷ [])

-- numbers and branches
pub record Numbers : Type 0 where
  -- an addition wraps around
  pub sum_wraps : outcome adding 98 ≡ lines (codes "-2147483648" ∷ codes "#end done" ∷ [])
  -- the program is accepted
  pub sum_is_accepted : Accepts adding
  -- the least int by -1 wraps, a division by zero throws
  pub division_throws :
      outcome dividing 98 ≡ lines
      (codes "-2147483648" ∷ codes "#uncaught 0 java.lang.ArithmeticException" ∷ codes "#end done" ∷ [])
  -- a long written whole again
  pub long_is_whole : outcome long_kept 98 ≡ lines (codes "9" ∷ codes "#end done" ∷ [])
  -- 0x123456789abcdef0 shifted right by 36 is 0x1234567; -1 is below it; ushr makes -1 positive
  pub longs_are_computed : outcome longs 98 ≡ lines (codes "19088743" ∷ codes "-1" ∷ codes "1" ∷ codes "#end done" ∷ [])
  -- a distance of 33 is one of 1; rsub is the literal less the register; a remainder has the sign of the first
  pub shifts_keep_low_bits :
      outcome shifting 98 ≡ lines
      (codes "2" ∷ codes "-4" ∷ codes "1" ∷ codes "9" ∷ codes "-2" ∷ codes "#end done" ∷ [])
  -- 0x45, 0x2345, and 0x8000 as a short
  pub narrow_conversions : outcome narrowing 98 ≡ lines (codes "69" ∷ codes "9029" ∷ codes "-32768" ∷ codes "#end done" ∷ [])
  -- a packed switch
  pub switch_takes_its_case : outcome switching 98 ≡ lines (codes "7" ∷ codes "#end done" ∷ [])
  -- the program is accepted
  pub switch_is_accepted : Accepts switching
  -- a sparse switch
  pub sparse_switch_takes_its_case : outcome choosing 98 ≡ lines (codes "6" ∷ codes "#end done" ∷ [])
