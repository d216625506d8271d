-- Examples: objects, calls and strings.
use Rattle.std.specs.Prelude.{◌≡◌, ◌++◌, [], ◌∷◌, Some, None, negsuc, codes}
use Rattle.dv_defs.specs.Images.{Image}
use Rattle.dv_defs.specs.declared.class.Init.TheVariants as init
use Rattle.dv_defs.specs.declared.image.Select.TheVariants as select
use Rattle.dv_defs.specs.Types.{of_class}
use Rattle.dv_defs.specs.Common.{array_of}
use Rattle.dv_typing.specs.Accepting.{Accepts}
use Rattle.test_machine.specs.Images.{of_int, of_long, of_boolean, of_byte, body, body_with, method, field, with_init, class, info, field_info, of_char, naming, method_ref, field_ref, println_ref, object_init_ref, found, linked_selecting, linked}
use Rattle.test_machine.specs.BootImage.{with_boot}
use Rattle.test_machine.specs.Outcomes.{lines, outcome}

--   .class LMain;
--   .super Ljava/lang/Object;
--   .method static main()V
--   .registers 4
--   new-instance v0, LLower;
--   move-object v1, v0
--   invoke-direct {v0}, LLower;-><init>()V
--   invoke-interface {v1}, Ljava/lang/Runnable;->run()V
--   invoke-virtual {v1}, LUpper;->name()I
--   move-result v2
--   invoke-static {v2}, Ldvm/Console;->println(I)V
--   const-wide/16 v2, 0x14
--   const/4 v1, 0x1
--   invoke-virtual {v0, v2, v3, v1}, LUpper;->twice(JI)J
--   move-result-wide v2
--   long-to-int v1, v2
--   invoke-static {v1}, Ldvm/Console;->println(I)V
--   return-void
--   .end method
--   .method static wrong()V
--   .registers 1
--   new-instance v0, Ljava/lang/Object;
--   invoke-direct {v0}, Ljava/lang/Object;-><init>()V
--   invoke-interface {v0}, Ljava/lang/Runnable;->run()V
--   return-void
--   .end method
--   .method static none()V
--   .registers 1
--   new-instance v0, LEmpty;
--   invoke-direct {v0}, LEmpty;-><init>()V
--   invoke-interface {v0}, Ljava/lang/Runnable;->run()V
--   return-void
--   .end method
--   .method static nobody()V
--   .registers 1
--   const/4 v0, 0x0
--   invoke-interface {v0}, Ljava/lang/Runnable;->run()V
--   return-void
--   .end method
--   .method static cells()V
--   .registers 3
--   new-instance v0, LUpper;
--   invoke-direct {v0}, LUpper;-><init>()V
--   const/16 v1, 0x1ff
--   iput-byte v1, v0, LUpper;->b:B
--   iget-byte v1, v0, LUpper;->b:B
--   invoke-static {v1}, Ldvm/Console;->println(I)V
--   const-wide/16 v1, 0x8
--   iput-wide v1, v0, LUpper;->w:J
--   iget-wide v1, v0, LUpper;->w:J
--   long-to-int v1, v1
--   invoke-static {v1}, Ldvm/Console;->println(I)V
--   iget-byte v1, v0, LUpper;->b:B
--   invoke-static {v1}, Ldvm/Console;->println(I)V
--   return-void
--   .end method
--   .method static cast()V
--   .registers 1
--   new-instance v0, LUpper;
--   invoke-direct {v0}, LUpper;-><init>()V
--   check-cast v0, Ljava/lang/Runnable;
--   check-cast v0, LLower;
--   return-void
--   .end method
--   .class LUpper;
--   .super Ljava/lang/Object;
--   .implements Ljava/lang/Runnable;
--   .field b:B
--   .field w:J
--   .method constructor <init>()V
--   .registers 1
--   invoke-direct {p0}, Ljava/lang/Object;-><init>()V
--   return-void
--   .end method
--   .method run()V
--   .registers 2
--   const/4 v0, 0x1
--   invoke-static {v0}, Ldvm/Console;->println(I)V
--   return-void
--   .end method
--   .method name()I
--   .registers 2
--   const/4 v0, 0x3
--   return v0
--   .end method
--   .method private sum(JI)J
--   .registers 6
--   int-to-long v0, p3
--   add-long v0, v0, p1
--   return-wide v0
--   .end method
--   .method twice(JI)J
--   .registers 4
--   invoke-direct {p0, p1, p2, p3}, LUpper;->sum(JI)J
--   move-result-wide p1
--   invoke-direct {p0, p1, p2, p3}, LUpper;->sum(JI)J
--   move-result-wide p1
--   return-wide p1
--   .end method
--   .class LLower;
--   .super LUpper;
--   .method constructor <init>()V
--   .registers 1
--   invoke-direct {p0}, LUpper;-><init>()V
--   return-void
--   .end method
--   .method run()V
--   .registers 2
--   invoke-super {p0}, LUpper;->run()V
--   const/4 v0, 0x2
--   invoke-static {v0}, Ldvm/Console;->println(I)V
--   return-void
--   .end method
--   .class abstract LBare;
--   .super Ljava/lang/Object;
--   .implements Ljava/lang/Runnable;
--   .method constructor <init>()V
--   .registers 1
--   invoke-direct {p0}, Ljava/lang/Object;-><init>()V
--   return-void
--   .end method
--   .class LEmpty;
--   .super LBare;
--   .method constructor <init>()V
--   .registers 1
--   invoke-direct {p0}, LBare;-><init>()V
--   return-void
--   .end method
abbrev pub calling : Image
calling = with_boot
    (linked (Some 0) [] [] (1 ∷ 2 ∷ 3 ∷ 4 ∷ [])
    (class (codes "LMain;") (Some (codes "Ljava/lang/Object;")) [] 0 []
    (method (codes "main") [] None 8
    (Some (naming []
    (method_ref (codes "LLower;") (codes "<init>") [] None ∷
    method_ref (codes "Ljava/lang/Runnable;") (codes "run") [] None ∷
    method_ref (codes "LUpper;") (codes "name") [] (Some of_int) ∷
    println_ref ∷
    method_ref (codes "LUpper;") (codes "twice") (of_long ∷ of_int ∷ []) (Some of_long) ∷ [])
    (body_with 4
    (0x0022 ∷ 0x0000 ∷ 0x0107 ∷ 0x1070 ∷ 0x0000 ∷ 0x0000 ∷ 0x1072 ∷ 0x0001 ∷ 0x0001 ∷ 0x106e ∷ 0x0002 ∷
    0x0001 ∷ 0x020a ∷ 0x1071 ∷ 0x0003 ∷ 0x0002 ∷ 0x0216 ∷ 0x0014 ∷ 0x1112 ∷ 0x406e ∷ 0x0004 ∷ 0x1320 ∷
    0x020b ∷ 0x2184 ∷ 0x1071 ∷ 0x0003 ∷ 0x0001 ∷ 0x000e ∷ [])
    [] [] (of_class (codes "LLower;") ∷ []))))
    ∷ method (codes "wrong") [] None 8
    (Some (naming [] (object_init_ref ∷ method_ref (codes "Ljava/lang/Runnable;") (codes "run") [] None ∷ [])
    (body_with 1 (0x0022 ∷ 0x0000 ∷ 0x1070 ∷ 0x0000 ∷ 0x0000 ∷ 0x1072 ∷ 0x0001 ∷ 0x0000 ∷ 0x000e ∷ [])
    [] [] (of_class (codes "Ljava/lang/Object;") ∷ []))))
    ∷ method (codes "none") [] None 8
    (Some (naming []
    (method_ref (codes "LEmpty;") (codes "<init>") [] None ∷
    method_ref (codes "Ljava/lang/Runnable;") (codes "run") [] None ∷ [])
    (body_with 1 (0x0022 ∷ 0x0000 ∷ 0x1070 ∷ 0x0000 ∷ 0x0000 ∷ 0x1072 ∷ 0x0001 ∷ 0x0000 ∷ 0x000e ∷ [])
    [] [] (of_class (codes "LEmpty;") ∷ []))))
    ∷ method (codes "nobody") [] None 8
    (Some (naming [] (method_ref (codes "Ljava/lang/Runnable;") (codes "run") [] None ∷ [])
    (body 1 (0x0012 ∷ 0x1072 ∷ 0x0000 ∷ 0x0000 ∷ 0x000e ∷ []))))
    ∷ method (codes "cells") [] None 8
    (Some (naming
    (field_ref (codes "LUpper;") (codes "b") of_byte ∷ field_ref (codes "LUpper;") (codes "w") of_long ∷ [])
    (method_ref (codes "LUpper;") (codes "<init>") [] None ∷ println_ref ∷ [])
    (body_with 3
    (0x0022 ∷ 0x0000 ∷ 0x1070 ∷ 0x0000 ∷ 0x0000 ∷ 0x0113 ∷ 0x01ff ∷ 0x015d ∷ 0x0000 ∷ 0x0156 ∷ 0x0000 ∷
    0x1071 ∷ 0x0001 ∷ 0x0001 ∷ 0x0116 ∷ 0x0008 ∷ 0x015a ∷ 0x0001 ∷ 0x0153 ∷ 0x0001 ∷ 0x1184 ∷ 0x1071 ∷
    0x0001 ∷ 0x0001 ∷ 0x0156 ∷ 0x0000 ∷ 0x1071 ∷ 0x0001 ∷ 0x0001 ∷ 0x000e ∷ [])
    [] [] (of_class (codes "LUpper;") ∷ []))))
    ∷ method (codes "cast") [] None 8
    (Some (naming [] (method_ref (codes "LUpper;") (codes "<init>") [] None ∷ [])
    (body_with 1 (0x0022 ∷ 0x0000 ∷ 0x1070 ∷ 0x0000 ∷ 0x0000 ∷ 0x001f ∷ 0x0001 ∷ 0x001f ∷ 0x0002 ∷ 0x000e ∷ [])
    [] []
    (of_class (codes "LUpper;") ∷ of_class (codes "Ljava/lang/Runnable;") ∷ of_class (codes "LLower;") ∷ [])))) ∷ [])) ∷
    linked (Some 0) (1 ∷ []) (5 ∷ 6 ∷ []) (1 ∷ 2 ∷ 3 ∷ 4 ∷ 105 ∷ 106 ∷ 108 ∷ [])
    (class (codes "LUpper;") (Some (codes "Ljava/lang/Object;")) (codes "Ljava/lang/Runnable;" ∷ []) 0
    (field (codes "b") of_byte 0 ∷ field (codes "w") of_long 0 ∷ [])
    (method (codes "<init>") [] None 0 (Some (naming [] (object_init_ref ∷ [])
    (body 1 (0x1070 ∷ 0x0000 ∷ 0x0000 ∷ 0x000e ∷ []))))
    ∷ method (codes "run") [] None 0 (Some (naming [] (println_ref ∷ [])
    (body 2 (0x1012 ∷ 0x1071 ∷ 0x0000 ∷ 0x0000 ∷ 0x000e ∷ []))))
    ∷ method (codes "name") [] (Some of_int) 0 (Some (body 2 (0x3012 ∷ 0x000f ∷ [])))
    ∷ method (codes "sum") (of_long ∷ of_int ∷ []) (Some of_long) 2 (Some (body 6 (0x5081 ∷ 0x009b ∷ 0x0300 ∷ 0x0010 ∷ [])))
    ∷ method (codes "twice") (of_long ∷ of_int ∷ []) (Some of_long) 0
    (Some (naming [] (method_ref (codes "LUpper;") (codes "sum") (of_long ∷ of_int ∷ []) (Some of_long) ∷ [])
    (body 4 (0x4070 ∷ 0x0000 ∷ 0x3210 ∷ 0x010b ∷ 0x4070 ∷ 0x0000 ∷ 0x3210 ∷ 0x010b ∷ 0x0110 ∷ [])))) ∷ [])) ∷
    linked (Some 34) [] (5 ∷ 6 ∷ []) (1 ∷ 2 ∷ 3 ∷ 4 ∷ 110 ∷ 106 ∷ 108 ∷ [])
    (class (codes "LLower;") (Some (codes "LUpper;")) [] 0 []
    (method (codes "<init>") [] None 0 (Some (naming [] (method_ref (codes "LUpper;") (codes "<init>") [] None ∷ [])
    (body 1 (0x1070 ∷ 0x0000 ∷ 0x0000 ∷ 0x000e ∷ []))))
    ∷ method (codes "run") [] None 0
    (Some (naming [] (method_ref (codes "LUpper;") (codes "run") [] None ∷ println_ref ∷ [])
    (body 2 (0x106f ∷ 0x0000 ∷ 0x0001 ∷ 0x2012 ∷ 0x1071 ∷ 0x0001 ∷ 0x0000 ∷ 0x000e ∷ [])))) ∷ [])) ∷
    linked_selecting (Some 0) (1 ∷ []) [] (found (1 ∷ 2 ∷ 3 ∷ 4 ∷ []) ++ select.Abstract ∷ [])
    (class (codes "LBare;") (Some (codes "Ljava/lang/Object;")) (codes "Ljava/lang/Runnable;" ∷ []) 0x1000 []
    (method (codes "<init>") [] None 0 (Some (naming [] (object_init_ref ∷ [])
    (body 1 (0x1070 ∷ 0x0000 ∷ 0x0000 ∷ 0x000e ∷ [])))) ∷ [])) ∷
    linked_selecting (Some 36) [] [] (found (1 ∷ 2 ∷ 3 ∷ 4 ∷ []) ++ select.Abstract ∷ [])
    (class (codes "LEmpty;") (Some (codes "LBare;")) [] 0 []
    (method (codes "<init>") [] None 0 (Some (naming [] (method_ref (codes "LBare;") (codes "<init>") [] None ∷ [])
    (body 1 (0x1070 ∷ 0x0000 ∷ 0x0000 ∷ 0x000e ∷ [])))) ∷ [])) ∷ [])
    (info 33 0 (of_class (codes "LLower;") ∷ []) [] (109 ∷ 5 ∷ 106 ∷ 40 ∷ 108 ∷ []) ∷
    info 33 1 (of_class (codes "Ljava/lang/Object;") ∷ []) [] (0 ∷ 5 ∷ []) ∷
    info 33 2 (of_class (codes "LEmpty;") ∷ []) [] (112 ∷ 5 ∷ []) ∷
    info 33 3 [] [] (5 ∷ []) ∷
    info 33 4 (of_class (codes "LUpper;") ∷ []) (5 ∷ 6 ∷ []) (104 ∷ 40 ∷ []) ∷
    info 33 5 (of_class (codes "LUpper;") ∷ of_class (codes "Ljava/lang/Runnable;") ∷ of_class (codes "LLower;") ∷ []) [] (104 ∷ []) ∷
    info 34 0 [] [] (0 ∷ []) ∷
    info 34 1 [] [] (40 ∷ []) ∷
    info 34 2 [] [] [] ∷
    info 34 3 [] [] [] ∷
    info 34 4 [] [] (107 ∷ []) ∷
    info 35 0 [] [] (104 ∷ []) ∷
    info 35 1 [] [] (105 ∷ 40 ∷ []) ∷
    info 36 0 [] [] (0 ∷ []) ∷
    info 37 0 [] [] (111 ∷ []) ∷ [])
    (field_info 34 0 0 ∷ field_info 34 1 1 ∷ [])

--   .class LMain;
--   .super Ljava/lang/Object;
--   .method static main()V
--   .registers 4
--   const/4 v0, 0x3
--   new-array v1, v0, [I
--   fill-array-data v1, :d
--   const/4 v0, 0x1
--   aget v2, v1, v0
--   invoke-static {v2}, Ldvm/Console;->println(I)V
--   filled-new-array {v2, v0}, [I
--   move-result-object v1
--   array-length v2, v1
--   invoke-static {v2}, Ldvm/Console;->println(I)V
--   const/4 v2, 0x2
--   aget v2, v1, v2
--   return-void
--   :d
--   .array-data 4
--   5
--   -6
--   .end array-data
--   .end method
--   .method static short()V
--   .registers 3
--   const/4 v0, 0x1
--   new-array v1, v0, [I
--   fill-array-data v1, :d
--   return-void
--   :d
--   .array-data 4
--   5
--   -6
--   .end array-data
--   .end method
--   .method static stores()V
--   .registers 4
--   const/4 v0, 0x1
--   new-array v1, v0, [Ljava/lang/String;
--   const/4 v2, 0x0
--   aput-object v2, v1, v2
--   new-instance v3, Ljava/lang/Object;
--   invoke-direct {v3}, Ljava/lang/Object;-><init>()V
--   aput-object v3, v1, v2
--   return-void
--   .end method
--   .method static negative()V
--   .registers 2
--   const/4 v0, -0x1
--   new-array v1, v0, [I
--   return-void
--   .end method
--   .method static null()V
--   .registers 3
--   const/4 v0, 0x0
--   const/4 v1, -0x1
--   aget v2, v0, v1
--   return-void
--   .end method
--   .method static narrow()V
--   .registers 4
--   const/4 v0, 0x2
--   new-array v1, v0, [Z
--   const/4 v2, 0x0
--   const/4 v3, 0x3
--   aput-boolean v3, v1, v2
--   aget-boolean v3, v1, v2
--   invoke-static {v3}, Ldvm/Console;->println(I)V
--   const/4 v3, 0x2
--   aput-boolean v3, v1, v2
--   aget-boolean v3, v1, v2
--   invoke-static {v3}, Ldvm/Console;->println(I)V
--   return-void
--   .end method
abbrev pub arrays : Image
arrays = with_boot
    (linked (Some 0) [] [] (1 ∷ 2 ∷ 3 ∷ 4 ∷ [])
    (class (codes "LMain;") (Some (codes "Ljava/lang/Object;")) [] 0 []
    (method (codes "main") [] None 8
    (Some (naming [] (println_ref ∷ [])
    (body_with 4
    (0x3012 ∷ 0x0123 ∷ 0x0000 ∷ 0x0126 ∷ 0x0015 ∷ 0x0000 ∷ 0x1012 ∷ 0x0244 ∷ 0x0001 ∷ 0x1071 ∷ 0x0000 ∷
    0x0002 ∷ 0x2024 ∷ 0x0000 ∷ 0x0002 ∷ 0x010c ∷ 0x1221 ∷ 0x1071 ∷ 0x0000 ∷ 0x0002 ∷ 0x2212 ∷ 0x0244 ∷
    0x0201 ∷ 0x000e ∷ 0x0300 ∷ 0x0004 ∷ 0x0002 ∷ 0x0000 ∷ 0x0005 ∷ 0x0000 ∷ 0xfffa ∷ 0xffff ∷ [])
    [] [] (array_of of_int ∷ []))))
    ∷ method (codes "short") [] None 8
    (Some (body_with 3
    (0x1012 ∷ 0x0123 ∷ 0x0000 ∷ 0x0126 ∷ 0x0005 ∷ 0x0000 ∷ 0x000e ∷ 0x0000 ∷ 0x0300 ∷ 0x0004 ∷ 0x0002 ∷
    0x0000 ∷ 0x0005 ∷ 0x0000 ∷ 0xfffa ∷ 0xffff ∷ [])
    [] [] (array_of of_int ∷ [])))
    ∷ method (codes "stores") [] None 8
    (Some (naming [] (object_init_ref ∷ [])
    (body_with 4
    (0x1012 ∷ 0x0123 ∷ 0x0000 ∷ 0x0212 ∷ 0x024d ∷ 0x0201 ∷ 0x0322 ∷ 0x0001 ∷ 0x1070 ∷ 0x0000 ∷ 0x0003 ∷
    0x034d ∷ 0x0201 ∷ 0x000e ∷ [])
    [] [] (array_of (of_class (codes "Ljava/lang/String;")) ∷ of_class (codes "Ljava/lang/Object;") ∷ []))))
    ∷ method (codes "negative") [] None 8 (Some (body_with 2 (0xf012 ∷ 0x0123 ∷ 0x0000 ∷ 0x000e ∷ []) [] [] (array_of of_int ∷ [])))
    ∷ method (codes "null") [] None 8 (Some (body 3 (0x0012 ∷ 0xf112 ∷ 0x0244 ∷ 0x0100 ∷ 0x000e ∷ [])))
    ∷ method (codes "narrow") [] None 8
    (Some (naming [] (println_ref ∷ [])
    (body_with 4
    (0x2012 ∷ 0x0123 ∷ 0x0000 ∷ 0x0212 ∷ 0x3312 ∷ 0x034e ∷ 0x0201 ∷ 0x0347 ∷ 0x0201 ∷ 0x1071 ∷ 0x0000 ∷
    0x0003 ∷ 0x2312 ∷ 0x034e ∷ 0x0201 ∷ 0x0347 ∷ 0x0201 ∷ 0x1071 ∷ 0x0000 ∷ 0x0003 ∷ 0x000e ∷ [])
    [] [] (array_of of_boolean ∷ [])))) ∷ [])) ∷ [])
    (info 33 0 (array_of of_int ∷ []) [] (40 ∷ []) ∷
    info 33 1 (array_of of_int ∷ []) [] [] ∷
    info 33 2 (array_of (of_class (codes "Ljava/lang/String;")) ∷ of_class (codes "Ljava/lang/Object;") ∷ []) [] (0 ∷ []) ∷
    info 33 3 (array_of of_int ∷ []) [] [] ∷
    info 33 4 [] [] [] ∷
    info 33 5 (array_of of_boolean ∷ []) [] (40 ∷ []) ∷ [])
    []

--   .class LMain;
--   .super Ljava/lang/Object;
--   .field static greeting:Ljava/lang/String; = "hi"
--   .field static big:J = -2
--   .field static nothing:Ljava/lang/String; = null
--   .method static main()V
--   .registers 4
--   sget-object v0, Ljava/lang/System;->out:Ljava/io/PrintStream;
--   new-instance v1, Ljava/lang/StringBuilder;
--   invoke-direct {v1}, Ljava/lang/StringBuilder;-><init>()V
--   sget-object v2, LMain;->greeting:Ljava/lang/String;
--   invoke-virtual {v1, v2}, Ljava/lang/StringBuilder;->append(Ljava/lang/String;)Ljava/lang/StringBuilder;
--   const/4 v2, -0x7
--   invoke-virtual {v1, v2}, Ljava/lang/StringBuilder;->append(I)Ljava/lang/StringBuilder;
--   sget-wide v2, LMain;->big:J
--   invoke-virtual {v1, v2, v3}, Ljava/lang/StringBuilder;->append(J)Ljava/lang/StringBuilder;
--   const/16 v2, 0x21
--   invoke-virtual {v1, v2}, Ljava/lang/StringBuilder;->append(C)Ljava/lang/StringBuilder;
--   invoke-virtual {v1}, Ljava/lang/StringBuilder;->toString()Ljava/lang/String;
--   move-result-object v2
--   invoke-virtual {v0, v2}, Ljava/io/PrintStream;->println(Ljava/lang/String;)V
--   sget-object v2, LMain;->nothing:Ljava/lang/String;
--   invoke-virtual {v0, v2}, Ljava/io/PrintStream;->println(Ljava/lang/String;)V
--   const/4 v2, 0x1
--   invoke-virtual {v0, v2}, Ljava/io/PrintStream;->println(Z)V
--   return-void
--   .end method
--   .method static same()V
--   .registers 3
--   const-string v0, "hi"
--   sget-object v1, LMain;->greeting:Ljava/lang/String;
--   if-ne v0, v1, :a
--   const/4 v2, 0x1
--   invoke-static {v2}, Ldvm/Console;->println(I)V
--   :a
--   const-class v0, [I
--   const-class v1, [I
--   if-ne v0, v1, :b
--   const/4 v2, 0x2
--   invoke-static {v2}, Ldvm/Console;->println(I)V
--   :b
--   const-string v0, "h"
--   const-string v1, "i"
--   invoke-virtual {v0, v1}, Ljava/lang/String;->concat(Ljava/lang/String;)Ljava/lang/String;
--   move-result-object v0
--   const-string v1, "hi"
--   invoke-virtual {v0, v1}, Ljava/lang/String;->equals(Ljava/lang/Object;)Z
--   move-result v2
--   invoke-static {v2}, Ldvm/Console;->println(I)V
--   if-ne v0, v1, :c
--   return-void
--   :c
--   const/4 v2, 0x2
--   invoke-virtual {v0, v2}, Ljava/lang/String;->charAt(I)C
--   return-void
--   .end method
--   .method static units()V
--   .registers 1
--   const-string v0, "\u00e9\u20ac\ud83d\ude00\ud83d"
--   invoke-static {v0}, Ldvm/Console;->print(Ljava/lang/String;)V
--   return-void
--   .end method
abbrev pub texts : Image
texts = with_boot
    (linked (Some 0) [] [] (1 ∷ 2 ∷ 3 ∷ 4 ∷ [])
    (class (codes "LMain;") (Some (codes "Ljava/lang/Object;")) [] 0
    (with_init (init.Str (codes "hi")) (field (codes "greeting") (of_class (codes "Ljava/lang/String;")) 8) ∷
    with_init (init.Num (negsuc 1)) (field (codes "big") of_long 8) ∷
    with_init init.Null (field (codes "nothing") (of_class (codes "Ljava/lang/String;")) 8) ∷ [])
    (method (codes "main") [] None 8
    (Some (naming
    (field_ref (codes "Ljava/lang/System;") (codes "out") (of_class (codes "Ljava/io/PrintStream;")) ∷
    field_ref (codes "LMain;") (codes "greeting") (of_class (codes "Ljava/lang/String;")) ∷
    field_ref (codes "LMain;") (codes "big") of_long ∷
    field_ref (codes "LMain;") (codes "nothing") (of_class (codes "Ljava/lang/String;")) ∷ [])
    (method_ref (codes "Ljava/lang/StringBuilder;") (codes "<init>") [] None ∷
    method_ref (codes "Ljava/lang/StringBuilder;") (codes "append") (of_class (codes "Ljava/lang/String;") ∷ [])
    (Some (of_class (codes "Ljava/lang/StringBuilder;"))) ∷
    method_ref (codes "Ljava/lang/StringBuilder;") (codes "append") (of_int ∷ [])
    (Some (of_class (codes "Ljava/lang/StringBuilder;"))) ∷
    method_ref (codes "Ljava/lang/StringBuilder;") (codes "append") (of_long ∷ [])
    (Some (of_class (codes "Ljava/lang/StringBuilder;"))) ∷
    method_ref (codes "Ljava/lang/StringBuilder;") (codes "append") (of_char ∷ [])
    (Some (of_class (codes "Ljava/lang/StringBuilder;"))) ∷
    method_ref (codes "Ljava/lang/StringBuilder;") (codes "toString") []
    (Some (of_class (codes "Ljava/lang/String;"))) ∷
    method_ref (codes "Ljava/io/PrintStream;") (codes "println") (of_class (codes "Ljava/lang/String;") ∷ []) None ∷
    method_ref (codes "Ljava/io/PrintStream;") (codes "println") (of_boolean ∷ []) None ∷ [])
    (body_with 4
    (0x0062 ∷ 0x0000 ∷ 0x0122 ∷ 0x0000 ∷ 0x1070 ∷ 0x0000 ∷ 0x0001 ∷ 0x0262 ∷ 0x0001 ∷ 0x206e ∷ 0x0001 ∷
    0x0021 ∷ 0x9212 ∷ 0x206e ∷ 0x0002 ∷ 0x0021 ∷ 0x0261 ∷ 0x0002 ∷ 0x306e ∷ 0x0003 ∷ 0x0321 ∷ 0x0213 ∷
    0x0021 ∷ 0x206e ∷ 0x0004 ∷ 0x0021 ∷ 0x106e ∷ 0x0005 ∷ 0x0001 ∷ 0x020c ∷ 0x206e ∷ 0x0006 ∷ 0x0020 ∷
    0x0262 ∷ 0x0003 ∷ 0x206e ∷ 0x0006 ∷ 0x0020 ∷ 0x1212 ∷ 0x206e ∷ 0x0007 ∷ 0x0020 ∷ 0x000e ∷ [])
    [] [] (of_class (codes "Ljava/lang/StringBuilder;") ∷ []))))
    ∷ method (codes "same") [] None 8
    (Some (naming
    (field_ref (codes "LMain;") (codes "greeting") (of_class (codes "Ljava/lang/String;")) ∷ [])
    (println_ref ∷
    method_ref (codes "Ljava/lang/String;") (codes "concat") (of_class (codes "Ljava/lang/String;") ∷ [])
    (Some (of_class (codes "Ljava/lang/String;"))) ∷
    method_ref (codes "Ljava/lang/String;") (codes "equals") (of_class (codes "Ljava/lang/Object;") ∷ [])
    (Some of_boolean) ∷
    method_ref (codes "Ljava/lang/String;") (codes "charAt") (of_int ∷ []) (Some of_char) ∷ [])
    (body_with 3
    (0x001a ∷ 0x0000 ∷ 0x0162 ∷ 0x0000 ∷ 0x1033 ∷ 0x0006 ∷ 0x1212 ∷ 0x1071 ∷ 0x0000 ∷ 0x0002 ∷ 0x001c ∷
    0x0000 ∷ 0x011c ∷ 0x0000 ∷ 0x1033 ∷ 0x0006 ∷ 0x2212 ∷ 0x1071 ∷ 0x0000 ∷ 0x0002 ∷ 0x001a ∷ 0x0001 ∷
    0x011a ∷ 0x0002 ∷ 0x206e ∷ 0x0001 ∷ 0x0010 ∷ 0x000c ∷ 0x011a ∷ 0x0000 ∷ 0x206e ∷ 0x0002 ∷ 0x0010 ∷
    0x020a ∷ 0x1071 ∷ 0x0000 ∷ 0x0002 ∷ 0x1033 ∷ 0x0003 ∷ 0x000e ∷ 0x2212 ∷ 0x206e ∷ 0x0003 ∷ 0x0020 ∷
    0x000e ∷ [])
    [] (codes "hi" ∷ codes "h" ∷ codes "i" ∷ []) (array_of of_int ∷ []))))
    ∷ method (codes "units") [] None 8
    (Some (naming []
    (method_ref (codes "Ldvm/Console;") (codes "print") (of_class (codes "Ljava/lang/String;") ∷ []) None ∷ [])
    (body_with 1 (0x001a ∷ 0x0000 ∷ 0x1071 ∷ 0x0000 ∷ 0x0000 ∷ 0x000e ∷ [])
    [] ((233 ∷ 8364 ∷ 55357 ∷ 56832 ∷ 55357 ∷ []) ∷ []) []))) ∷ [])) ∷ [])
    (info 33 0 (of_class (codes "Ljava/lang/StringBuilder;") ∷ []) (2 ∷ 5 ∷ 6 ∷ 7 ∷ []) (17 ∷ 19 ∷ 20 ∷ 21 ∷ 22 ∷ 24 ∷ 32 ∷ 36 ∷ []) ∷
    info 33 1 (array_of of_int ∷ []) (5 ∷ []) (40 ∷ 15 ∷ 14 ∷ 13 ∷ []) ∷
    info 33 2 [] [] (39 ∷ []) ∷ [])
    (field_info 33 0 0 ∷ field_info 33 1 0 ∷ field_info 33 2 0 ∷ [])

-- objects, calls and strings
pub record Objects : Type 0 where
  -- an override by invoke-interface, which calls its superclass's; an inherited method; private calls with a long
  pub calls_find_the_nearest : outcome calling 98 ≡ lines (codes "1" ∷ codes "2" ∷ codes "3" ∷ codes "22" ∷ codes "#end done" ∷ [])
  -- an object whose class lacks the interface
  pub interface_is_lacking :
      outcome calling 99 ≡ lines (codes "#uncaught 0 java.lang.IncompatibleClassChangeError" ∷ codes "#end done" ∷ [])
  -- an object whose class lacks the method
  pub method_is_lacking : outcome calling 100 ≡ lines (codes "#uncaught 0 java.lang.AbstractMethodError" ∷ codes "#end done" ∷ [])
  -- no object
  pub receiver_is_null : outcome calling 101 ≡ lines (codes "#uncaught 0 java.lang.NullPointerException" ∷ codes "#end done" ∷ [])
  -- a byte keeps eight bits, and a long beside it is another field
  pub fields_keep_low_bits : outcome calling 102 ≡ lines (codes "-1" ∷ codes "8" ∷ codes "-1" ∷ codes "#end done" ∷ [])
  -- a cast to an interface, then one to a class that the object is not of
  pub cast_fails : outcome calling 103 ≡ lines (codes "#uncaught 0 java.lang.ClassCastException" ∷ codes "#end done" ∷ [])
  -- the program is accepted
  pub calling_is_accepted : Accepts calling
  -- the program is accepted
  pub arrays_are_accepted : Accepts arrays
  -- elements of a payload, a filled array, an index out of range
  pub elements_and_index :
      outcome arrays 98 ≡ lines
      (codes "-6" ∷ codes "2" ∷ codes "#uncaught 0 java.lang.ArrayIndexOutOfBoundsException" ∷ codes "#end done" ∷
      [])
  -- more elements than the array has
  pub fill_is_too_long : outcome arrays 99 ≡ lines (codes "#uncaught 0 java.lang.ArrayIndexOutOfBoundsException" ∷ codes "#end done" ∷ [])
  -- null may be stored, an object of another class not
  pub store_is_tested : outcome arrays 100 ≡ lines (codes "#uncaught 0 java.lang.ArrayStoreException" ∷ codes "#end done" ∷ [])
  -- a negative size
  pub size_is_negative : outcome arrays 101 ≡ lines (codes "#uncaught 0 java.lang.NegativeArraySizeException" ∷ codes "#end done" ∷ [])
  -- null is told before the index
  pub null_goes_first : outcome arrays 102 ≡ lines (codes "#uncaught 0 java.lang.NullPointerException" ∷ codes "#end done" ∷ [])
  -- 3 and 2 as booleans
  pub booleans_keep_one_bit : outcome arrays 103 ≡ lines (codes "1" ∷ codes "0" ∷ codes "#end done" ∷ [])
  -- the program is accepted
  pub texts_are_accepted : Accepts texts
  -- a text builder, System.out, values of static fields
  pub builder_and_stream : outcome texts 98 ≡ lines (codes "hi-7-2!" ∷ codes "null" ∷ codes "true" ∷ codes "#end done" ∷ [])
  -- equal literals are one object, as are Class objects; a new string is another, but equal; its character 2 is out of range
  pub literals_are_one :
      outcome texts 99 ≡ lines
      (codes "1" ∷ codes "2" ∷ codes "1" ∷ codes "#uncaught 0 java.lang.IndexOutOfBoundsException" ∷
      codes "#end done" ∷ [])
  -- characters of two, three and four bytes; a lone surrogate is a question mark; a newline closes the last line
  pub units_as_bytes :
      outcome texts 100 ≡ 0xc3 ∷ 0xa9 ∷ 0xe2 ∷ 0x82 ∷ 0xac ∷ 0xf0 ∷ 0x9f ∷ 0x98 ∷ 0x80 ∷ 0x3f ∷ 10 ∷
      lines (codes "#end done" ∷ [])
