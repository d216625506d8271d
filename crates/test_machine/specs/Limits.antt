-- Examples: runs at limits.
use Rattle.std.specs.Prelude.{◌≡◌, [], ◌∷◌, Some, None, codes}
use Rattle.dv_defs.specs.Images.{Image}
use Rattle.dv_defs.specs.Types.{of_class}
use Rattle.dv_defs.specs.Common.{array_of}
use Rattle.test_machine.specs.Images.{of_int, body, body_with, method, class, info, naming, method_ref, println_ref, linked}
use Rattle.test_machine.specs.BootImage.{with_boot, with_main}
use Rattle.dv_machine.specs.Opening.{usual}
use Rattle.test_machine.specs.Outcomes.{lines, outcome, outcome_within}

--   .registers 1
--   const/16 v0, 0x3e
--   new-array v0, v0, [I
--   array-length v0, v0
--   invoke-static {v0}, Ldvm/Console;->println(I)V
--   return-void
abbrev pub fitting : Image
fitting =
    with_main
    (naming [] (println_ref ∷ [])
    (body_with 1 (0x0013 ∷ 0x003e ∷ 0x0023 ∷ 0x0000 ∷ 0x0021 ∷ 0x1071 ∷ 0x0000 ∷ 0x0000 ∷ 0x000e ∷ []) [] []
    (array_of of_int ∷ [])))
    (array_of of_int ∷ []) [] (40 ∷ [])

--   .registers 1
--   const/16 v0, 0x3f
--   new-array v0, v0, [I
--   array-length v0, v0
--   invoke-static {v0}, Ldvm/Console;->println(I)V
--   return-void
abbrev pub filling : Image
filling =
    with_main
    (naming [] (println_ref ∷ [])
    (body_with 1 (0x0013 ∷ 0x003f ∷ 0x0023 ∷ 0x0000 ∷ 0x0021 ∷ 0x1071 ∷ 0x0000 ∷ 0x0000 ∷ 0x000e ∷ []) [] []
    (array_of of_int ∷ [])))
    (array_of of_int ∷ []) [] (40 ∷ [])

--   .class LMain;
--   .super Ljava/lang/Object;
--   .method static f(I)V
--   .registers 1
--   if-eqz p0, :a
--   add-int/lit8 p0, p0, -0x1
--   invoke-static {p0}, LMain;->f(I)V
--   :a
--   return-void
--   .end method
--   .method static main()V
--   .registers 1
--   const/16 v0, 0x3fe
--   invoke-static {v0}, LMain;->f(I)V
--   return-void
--   .end method
abbrev pub deep : Image
deep = with_boot
    (linked (Some 0) [] [] (1 ∷ 2 ∷ 3 ∷ 4 ∷ [])
    (class (codes "LMain;") (Some (codes "Ljava/lang/Object;")) [] 0 []
    (method (codes "f") (of_int ∷ []) None 8
    (Some (naming [] (method_ref (codes "LMain;") (codes "f") (of_int ∷ []) None ∷ [])
    (body 1 (0x0038 ∷ 0x0007 ∷ 0x00d8 ∷ 0xff00 ∷ 0x1071 ∷ 0x0000 ∷ 0x0000 ∷ 0x000e ∷ []))))
    ∷ method (codes "main") [] None 8
    (Some (naming [] (method_ref (codes "LMain;") (codes "f") (of_int ∷ []) None ∷ [])
    (body 1 (0x0013 ∷ 0x03fe ∷ 0x1071 ∷ 0x0000 ∷ 0x0000 ∷ 0x000e ∷ [])))) ∷ [])) ∷ [])
    (info 33 0 [] [] (98 ∷ []) ∷
    info 33 1 [] [] (98 ∷ []) ∷ [])
    []

--   .class LMain;
--   .super Ljava/lang/Object;
--   .method static f(I)V
--   .registers 1
--   if-eqz p0, :a
--   add-int/lit8 p0, p0, -0x1
--   invoke-static {p0}, LMain;->f(I)V
--   :a
--   return-void
--   .end method
--   .method static main()V
--   .registers 1
--   const/16 v0, 0x3ff
--   invoke-static {v0}, LMain;->f(I)V
--   return-void
--   .end method
abbrev pub deeper : Image
deeper = with_boot
    (linked (Some 0) [] [] (1 ∷ 2 ∷ 3 ∷ 4 ∷ [])
    (class (codes "LMain;") (Some (codes "Ljava/lang/Object;")) [] 0 []
    (method (codes "f") (of_int ∷ []) None 8
    (Some (naming [] (method_ref (codes "LMain;") (codes "f") (of_int ∷ []) None ∷ [])
    (body 1 (0x0038 ∷ 0x0007 ∷ 0x00d8 ∷ 0xff00 ∷ 0x1071 ∷ 0x0000 ∷ 0x0000 ∷ 0x000e ∷ []))))
    ∷ method (codes "main") [] None 8
    (Some (naming [] (method_ref (codes "LMain;") (codes "f") (of_int ∷ []) None ∷ [])
    (body 1 (0x0013 ∷ 0x03ff ∷ 0x1071 ∷ 0x0000 ∷ 0x0000 ∷ 0x000e ∷ [])))) ∷ [])) ∷ [])
    (info 33 0 [] [] (98 ∷ []) ∷
    info 33 1 [] [] (98 ∷ []) ∷ [])
    []

--   .class LMain;
--   .super Ljava/lang/Object;
--   .method static f(I)V
--   .registers 1
--   if-eqz p0, :a
--   add-int/lit8 p0, p0, -0x1
--   invoke-static {p0}, LMain;->f(I)V
--   :a
--   return-void
--   .end method
--   .method static main()V
--   .registers 1
--   const/16 v0, 0x3e
--   invoke-static {v0}, LMain;->f(I)V
--   return-void
--   .end method
abbrev pub wide : Image
wide = with_boot
    (linked (Some 0) [] [] (1 ∷ 2 ∷ 3 ∷ 4 ∷ [])
    (class (codes "LMain;") (Some (codes "Ljava/lang/Object;")) [] 0 []
    (method (codes "f") (of_int ∷ []) None 8
    (Some (naming [] (method_ref (codes "LMain;") (codes "f") (of_int ∷ []) None ∷ [])
    (body 1 (0x0038 ∷ 0x0007 ∷ 0x00d8 ∷ 0xff00 ∷ 0x1071 ∷ 0x0000 ∷ 0x0000 ∷ 0x000e ∷ []))))
    ∷ method (codes "main") [] None 8
    (Some (naming [] (method_ref (codes "LMain;") (codes "f") (of_int ∷ []) None ∷ [])
    (body 1 (0x0013 ∷ 0x003e ∷ 0x1071 ∷ 0x0000 ∷ 0x0000 ∷ 0x000e ∷ [])))) ∷ [])) ∷ [])
    (info 33 0 [] [] (98 ∷ []) ∷
    info 33 1 [] [] (98 ∷ []) ∷ [])
    []

--   .class LMain;
--   .super Ljava/lang/Object;
--   .method static f(I)V
--   .registers 1
--   if-eqz p0, :a
--   add-int/lit8 p0, p0, -0x1
--   invoke-static {p0}, LMain;->f(I)V
--   :a
--   return-void
--   .end method
--   .method static main()V
--   .registers 1
--   const/16 v0, 0x3f
--   invoke-static {v0}, LMain;->f(I)V
--   return-void
--   .end method
abbrev pub wider : Image
wider = with_boot
    (linked (Some 0) [] [] (1 ∷ 2 ∷ 3 ∷ 4 ∷ [])
    (class (codes "LMain;") (Some (codes "Ljava/lang/Object;")) [] 0 []
    (method (codes "f") (of_int ∷ []) None 8
    (Some (naming [] (method_ref (codes "LMain;") (codes "f") (of_int ∷ []) None ∷ [])
    (body 1 (0x0038 ∷ 0x0007 ∷ 0x00d8 ∷ 0xff00 ∷ 0x1071 ∷ 0x0000 ∷ 0x0000 ∷ 0x000e ∷ []))))
    ∷ method (codes "main") [] None 8
    (Some (naming [] (method_ref (codes "LMain;") (codes "f") (of_int ∷ []) None ∷ [])
    (body 1 (0x0013 ∷ 0x003f ∷ 0x1071 ∷ 0x0000 ∷ 0x0000 ∷ 0x000e ∷ [])))) ∷ [])) ∷ [])
    (info 33 0 [] [] (98 ∷ []) ∷
    info 33 1 [] [] (98 ∷ []) ∷ [])
    []

--   .registers 0
--   :a
--   nop
--   goto :a
abbrev pub looping : Image
looping = with_main (body 0 (0x0000 ∷ 0xff28 ∷ [])) [] [] []

--   .registers 1
--   const/16 v0, 0x7b
--   invoke-static {v0}, Ldvm/Console;->println(I)V
--   invoke-static {v0}, Ldvm/Console;->println(I)V
--   return-void
abbrev pub printing : Image
printing = with_main (naming [] (println_ref ∷ [])
    (body 1 (0x0013 ∷ 0x007b ∷ 0x1071 ∷ 0x0000 ∷ 0x0000 ∷ 0x1071 ∷ 0x0000 ∷ 0x0000 ∷ 0x000e ∷ []))) [] [] (40 ∷ [])

--   .class LMain;
--   .super Ljava/lang/Object;
--   .method static main()V
--   .registers 1
--   :a
--   new-instance v0, LT;
--   invoke-direct {v0}, LT;-><init>()V
--   invoke-virtual {v0}, LT;->start()V
--   goto :a
--   .end method
--   .class LT;
--   .super Ljava/lang/Thread;
--   .method constructor <init>()V
--   .registers 1
--   invoke-direct {p0}, Ljava/lang/Thread;-><init>()V
--   return-void
--   .end method
abbrev pub starting : Image
starting = with_boot
    (linked (Some 0) [] [] (1 ∷ 2 ∷ 3 ∷ 4 ∷ [])
    (class (codes "LMain;") (Some (codes "Ljava/lang/Object;")) [] 0 []
    (method (codes "main") [] None 8
    (Some (naming []
    (method_ref (codes "LT;") (codes "<init>") [] None ∷ method_ref (codes "LT;") (codes "start") [] None ∷ [])
    (body_with 1 (0x0022 ∷ 0x0000 ∷ 0x1070 ∷ 0x0000 ∷ 0x0000 ∷ 0x106e ∷ 0x0001 ∷ 0x0000 ∷ 0xf828 ∷ [])
    [] [] (of_class (codes "LT;") ∷ [])))) ∷ [])) ∷
    linked (Some 3) [] (0 ∷ []) (1 ∷ 2 ∷ 3 ∷ 4 ∷ 8 ∷ 9 ∷ 10 ∷ [])
    (class (codes "LT;") (Some (codes "Ljava/lang/Thread;")) [] 0 []
    (method (codes "<init>") [] None 0
    (Some (naming [] (method_ref (codes "Ljava/lang/Thread;") (codes "<init>") [] None ∷ [])
    (body 1 (0x1070 ∷ 0x0000 ∷ 0x0000 ∷ 0x000e ∷ [])))) ∷ [])) ∷ [])
    (info 33 0 (of_class (codes "LT;") ∷ []) [] (99 ∷ 9 ∷ []) ∷
    info 34 0 [] [] (6 ∷ []) ∷ [])
    []

-- runs at limits
pub record Stops : Type 0 where
  -- an array that just fits
  pub heap_suffices : outcome_within (record usual { heap = 64 }) fitting 98 ≡ lines (codes "62" ∷ codes "#end done" ∷ [])
  -- one word more
  pub heap_is_full :
      outcome_within (record usual { heap = 64 }) filling 98 ≡ lines
      (codes "#uncaught 0 java.lang.OutOfMemoryError" ∷ codes "#end done" ∷ [])
  -- 1,024 levels
  pub stack_suffices : outcome deep 99 ≡ lines (codes "#end done" ∷ [])
  -- one level more
  pub stack_is_full : outcome deeper 99 ≡ lines (codes "#uncaught 0 java.lang.StackOverflowError" ∷ codes "#end done" ∷ [])
  -- as many register words as there may be
  pub words_suffice : outcome_within (record usual { words = 64 }) wide 99 ≡ lines (codes "#end done" ∷ [])
  -- one word more
  pub words_are_full :
      outcome_within (record usual { words = 64 }) wider 99 ≡ lines
      (codes "#uncaught 0 java.lang.StackOverflowError" ∷ codes "#end done" ∷ [])
  -- one step
  pub budget_is_spent : outcome_within (record usual { budget = 1 }) looping 98 ≡ lines (codes "#end steps" ∷ [])
  -- the second line of four bytes doesn't fit into seven
  pub output_is_full : outcome_within (record usual { output = 7 }) printing 98 ≡ lines (codes "123" ∷ codes "#end output" ∷ [])
  -- but into eight
  pub output_suffices :
      outcome_within (record usual { output = 8 }) printing 98 ≡ lines
      (codes "123" ∷ codes "123" ∷ codes "#end done" ∷ [])
  -- a fourth thread where three may be
  pub threads_are_few :
      outcome_within (record usual { threads = 3 }) starting 98 ≡ lines
      (codes "#uncaught 0 java.lang.OutOfMemoryError" ∷ codes "#end done" ∷ [])
