-- Examples: class initialisation.
use Rattle.std.specs.Prelude.{◌≡◌, [], ◌∷◌, Some, None, pos, codes}
use Rattle.dv_defs.specs.Images.{Image}
use Rattle.dv_defs.specs.declared.class.Init.TheVariants as init
use Rattle.dv_defs.specs.Types.{of_class}
use Rattle.dv_typing.specs.Accepting.{Accepts}
use Rattle.test_machine.specs.Images.{of_int, catch_type, catch_all, entry_over, body, body_with, method, field, with_init, class, info, field_info, naming, method_ref, field_ref, println_ref, linked}
use Rattle.test_machine.specs.BootImage.{with_boot}
use Rattle.test_machine.specs.Outcomes.{lines, outcome, replay_text, steps}

--   .class LMain;
--   .super Ljava/lang/Object;
--   .method static main()V
--   .registers 1
--   new-instance v0, LT;
--   invoke-direct {v0}, LT;-><init>()V
--   invoke-virtual {v0}, LT;->start()V
--   invoke-static {}, LB;->touch()V
--   return-void
--   .end method
--   .class LA;
--   .super Ljava/lang/Object;
--   .method static touch()V
--   .registers 0
--   return-void
--   .end method
--   .method static <clinit>()V
--   .registers 0
--   invoke-static {}, LB;->touch()V
--   return-void
--   .end method
--   .class LB;
--   .super Ljava/lang/Object;
--   .method static touch()V
--   .registers 0
--   return-void
--   .end method
--   .method static <clinit>()V
--   .registers 0
--   invoke-static {}, LA;->touch()V
--   return-void
--   .end method
--   .class LT;
--   .super Ljava/lang/Thread;
--   .method constructor <init>()V
--   .registers 1
--   invoke-direct {p0}, Ljava/lang/Thread;-><init>()V
--   return-void
--   .end method
--   .method run()V
--   .registers 1
--   invoke-static {}, LA;->touch()V
--   return-void
--   .end method
abbrev pub crossing : Image
crossing = with_boot
    (linked (Some 0) [] [] (1 ∷ 2 ∷ 3 ∷ 4 ∷ [])
    (class (codes "LMain;") (Some (codes "Ljava/lang/Object;")) [] 0 []
    (method (codes "main") [] None 8
    (Some (naming []
    (method_ref (codes "LT;") (codes "<init>") [] None ∷
    method_ref (codes "LT;") (codes "start") [] None ∷
    method_ref (codes "LB;") (codes "touch") [] None ∷ [])
    (body_with 1
    (0x0022 ∷ 0x0000 ∷ 0x1070 ∷ 0x0000 ∷ 0x0000 ∷ 0x106e ∷ 0x0001 ∷ 0x0000 ∷ 0x0071 ∷ 0x0002 ∷ 0x0000 ∷
    0x000e ∷ [])
    [] [] (of_class (codes "LT;") ∷ [])))) ∷ [])) ∷
    linked (Some 0) [] [] (1 ∷ 2 ∷ 3 ∷ 4 ∷ [])
    (class (codes "LA;") (Some (codes "Ljava/lang/Object;")) [] 0 []
    (method (codes "touch") [] None 8 (Some (body 0 (0x000e ∷ [])))
    ∷ method (codes "<clinit>") [] None 8 (Some (naming [] (method_ref (codes "LB;") (codes "touch") [] None ∷ [])
    (body 0 (0x0071 ∷ 0x0000 ∷ 0x0000 ∷ 0x000e ∷ [])))) ∷ [])) ∷
    linked (Some 0) [] [] (1 ∷ 2 ∷ 3 ∷ 4 ∷ [])
    (class (codes "LB;") (Some (codes "Ljava/lang/Object;")) [] 0 []
    (method (codes "touch") [] None 8 (Some (body 0 (0x000e ∷ [])))
    ∷ method (codes "<clinit>") [] None 8 (Some (naming [] (method_ref (codes "LA;") (codes "touch") [] None ∷ [])
    (body 0 (0x0071 ∷ 0x0000 ∷ 0x0000 ∷ 0x000e ∷ [])))) ∷ [])) ∷
    linked (Some 3) [] (0 ∷ []) (1 ∷ 2 ∷ 3 ∷ 4 ∷ 104 ∷ 9 ∷ 10 ∷ [])
    (class (codes "LT;") (Some (codes "Ljava/lang/Thread;")) [] 0 []
    (method (codes "<init>") [] None 0
    (Some (naming [] (method_ref (codes "Ljava/lang/Thread;") (codes "<init>") [] None ∷ [])
    (body 1 (0x1070 ∷ 0x0000 ∷ 0x0000 ∷ 0x000e ∷ []))))
    ∷ method (codes "run") [] None 0 (Some (naming [] (method_ref (codes "LA;") (codes "touch") [] None ∷ [])
    (body 1 (0x0071 ∷ 0x0000 ∷ 0x0000 ∷ 0x000e ∷ [])))) ∷ [])) ∷ [])
    (info 33 0 (of_class (codes "LT;") ∷ []) [] (103 ∷ 9 ∷ 101 ∷ []) ∷
    info 34 0 [] [] [] ∷
    info 34 1 [] [] (101 ∷ []) ∷
    info 35 0 [] [] [] ∷
    info 35 1 [] [] (99 ∷ []) ∷
    info 36 0 [] [] (6 ∷ []) ∷
    info 36 1 [] [] (99 ∷ []) ∷ [])
    []

--   .class LMain;
--   .super Ljava/lang/Object;
--   .method static main()V
--   .registers 1
--   :a
--   invoke-static {}, LX;->t()V
--   :b
--   return-void
--   :h
--   const/4 v0, 0x1
--   invoke-static {v0}, Ldvm/Console;->println(I)V
--   invoke-static {}, LX;->t()V
--   return-void
--   .catch Ljava/lang/ExceptionInInitializerError; {:a .. :b} :h
--   .end method
--   .class LX;
--   .super Ljava/lang/Object;
--   .method static <clinit>()V
--   .registers 1
--   new-instance v0, Ljava/lang/RuntimeException;
--   invoke-direct {v0}, Ljava/lang/RuntimeException;-><init>()V
--   throw v0
--   .end method
--   .method static t()V
--   .registers 0
--   return-void
--   .end method
abbrev pub failing : Image
failing = with_boot
    (linked (Some 0) [] [] (1 ∷ 2 ∷ 3 ∷ 4 ∷ [])
    (class (codes "LMain;") (Some (codes "Ljava/lang/Object;")) [] 0 []
    (method (codes "main") [] None 8
    (Some (naming [] (method_ref (codes "LX;") (codes "t") [] None ∷ println_ref ∷ [])
    (body_with 1
    (0x0071 ∷ 0x0000 ∷ 0x0000 ∷ 0x000e ∷ 0x1012 ∷ 0x1071 ∷ 0x0001 ∷ 0x0000 ∷ 0x0071 ∷ 0x0000 ∷ 0x0000 ∷
    0x000e ∷ [])
    (entry_over 0 3 (catch_type 0 4 ∷ []) ∷ [])
    [] (of_class (codes "Ljava/lang/ExceptionInInitializerError;") ∷ [])))) ∷ [])) ∷
    linked (Some 0) [] [] (1 ∷ 2 ∷ 3 ∷ 4 ∷ [])
    (class (codes "LX;") (Some (codes "Ljava/lang/Object;")) [] 0 []
    (method (codes "<clinit>") [] None 8
    (Some (naming [] (method_ref (codes "Ljava/lang/RuntimeException;") (codes "<init>") [] None ∷ [])
    (body_with 1 (0x0022 ∷ 0x0000 ∷ 0x1070 ∷ 0x0000 ∷ 0x0000 ∷ 0x0027 ∷ [])
    [] [] (of_class (codes "Ljava/lang/RuntimeException;") ∷ []))))
    ∷ method (codes "t") [] None 8 (Some (body 0 (0x000e ∷ []))) ∷ [])) ∷ [])
    (info 33 0 (of_class (codes "Ljava/lang/ExceptionInInitializerError;") ∷ []) [] (100 ∷ 40 ∷ []) ∷
    info 34 0 (of_class (codes "Ljava/lang/RuntimeException;") ∷ []) [] (55 ∷ []) ∷
    info 34 1 [] [] [] ∷ [])
    []

--   .class LMain;
--   .super Ljava/lang/Object;
--   .method static <clinit>()V
--   .registers 1
--   const/4 v0, 0x1
--   invoke-static {v0}, Ldvm/Console;->println(I)V
--   return-void
--   .end method
--   .method static main()V
--   .registers 1
--   invoke-static {}, LLower;->f()V
--   sget v0, LUpper;->x:I
--   invoke-static {v0}, Ldvm/Console;->println(I)V
--   return-void
--   .end method
--   .class LUpper;
--   .super Ljava/lang/Object;
--   .field static x:I = 7
--   .method static <clinit>()V
--   .registers 1
--   const/4 v0, 0x2
--   invoke-static {v0}, Ldvm/Console;->println(I)V
--   return-void
--   .end method
--   .class LLower;
--   .super LUpper;
--   .method static <clinit>()V
--   .registers 1
--   const/4 v0, 0x3
--   invoke-static {v0}, Ldvm/Console;->println(I)V
--   return-void
--   .end method
--   .method static f()V
--   .registers 1
--   const/4 v0, 0x4
--   invoke-static {v0}, Ldvm/Console;->println(I)V
--   return-void
--   .end method
abbrev pub ordering : Image
ordering = with_boot
    (linked (Some 0) [] [] (1 ∷ 2 ∷ 3 ∷ 4 ∷ [])
    (class (codes "LMain;") (Some (codes "Ljava/lang/Object;")) [] 0 []
    (method (codes "<clinit>") [] None 8 (Some (naming [] (println_ref ∷ [])
    (body 1 (0x1012 ∷ 0x1071 ∷ 0x0000 ∷ 0x0000 ∷ 0x000e ∷ []))))
    ∷ method (codes "main") [] None 8
    (Some (naming
    (field_ref (codes "LUpper;") (codes "x") of_int ∷ [])
    (method_ref (codes "LLower;") (codes "f") [] None ∷ println_ref ∷ [])
    (body 1 (0x0071 ∷ 0x0000 ∷ 0x0000 ∷ 0x0060 ∷ 0x0000 ∷ 0x1071 ∷ 0x0001 ∷ 0x0000 ∷ 0x000e ∷ [])))) ∷ [])) ∷
    linked (Some 0) [] [] (1 ∷ 2 ∷ 3 ∷ 4 ∷ [])
    (class (codes "LUpper;") (Some (codes "Ljava/lang/Object;")) [] 0
    (with_init (init.Num (pos 7)) (field (codes "x") of_int 8) ∷ [])
    (method (codes "<clinit>") [] None 8 (Some (naming [] (println_ref ∷ [])
    (body 1 (0x2012 ∷ 0x1071 ∷ 0x0000 ∷ 0x0000 ∷ 0x000e ∷ [])))) ∷ [])) ∷
    linked (Some 34) [] [] (1 ∷ 2 ∷ 3 ∷ 4 ∷ [])
    (class (codes "LLower;") (Some (codes "LUpper;")) [] 0 []
    (method (codes "<clinit>") [] None 8 (Some (naming [] (println_ref ∷ [])
    (body 1 (0x3012 ∷ 0x1071 ∷ 0x0000 ∷ 0x0000 ∷ 0x000e ∷ []))))
    ∷ method (codes "f") [] None 8 (Some (naming [] (println_ref ∷ [])
    (body 1 (0x4012 ∷ 0x1071 ∷ 0x0000 ∷ 0x0000 ∷ 0x000e ∷ [])))) ∷ [])) ∷ [])
    (info 33 0 [] [] (40 ∷ []) ∷
    info 33 1 [] (5 ∷ []) (102 ∷ 40 ∷ []) ∷
    info 34 0 [] [] (40 ∷ []) ∷
    info 35 0 [] [] (40 ∷ []) ∷
    info 35 1 [] [] (40 ∷ []) ∷ [])
    (field_info 34 0 0 ∷ [])

--   .class LMain;
--   .super Ljava/lang/Object;
--   .method static <clinit>()V
--   .registers 1
--   new-instance v0, Ljava/lang/OutOfMemoryError;
--   invoke-direct {v0}, Ljava/lang/OutOfMemoryError;-><init>()V
--   throw v0
--   .end method
--   .method static main()V
--   .registers 1
--   :a
--   nop
--   return-void
--   :b
--   :h
--   const/4 v0, 0x1
--   invoke-static {v0}, Ldvm/Console;->println(I)V
--   return-void
--   .catchall {:a .. :b} :h
--   .end method
abbrev pub failing_main : Image
failing_main = with_boot
    (linked (Some 0) [] [] (1 ∷ 2 ∷ 3 ∷ 4 ∷ [])
    (class (codes "LMain;") (Some (codes "Ljava/lang/Object;")) [] 0 []
    (method (codes "<clinit>") [] None 8
    (Some (naming [] (method_ref (codes "Ljava/lang/OutOfMemoryError;") (codes "<init>") [] None ∷ [])
    (body_with 1 (0x0022 ∷ 0x0000 ∷ 0x1070 ∷ 0x0000 ∷ 0x0000 ∷ 0x0027 ∷ [])
    [] [] (of_class (codes "Ljava/lang/OutOfMemoryError;") ∷ []))))
    ∷ method (codes "main") [] None 8
    (Some (naming [] (println_ref ∷ [])
    (body_with 1 (0x0000 ∷ 0x000e ∷ 0x1012 ∷ 0x1071 ∷ 0x0000 ∷ 0x0000 ∷ 0x000e ∷ [])
    (entry_over 0 2 (catch_all 2 ∷ []) ∷ []) [] []))) ∷ [])) ∷ [])
    (info 33 0 (of_class (codes "Ljava/lang/OutOfMemoryError;") ∷ []) [] (94 ∷ []) ∷
    info 33 1 [] [] (40 ∷ []) ∷ [])
    []

-- class initialisation
pub record Initialising : Type 0 where
  -- two threads initialise two classes that need each other
  pub each_waits_for_the_other :
      replay_text crossing 98 (steps 0 10 ∷ steps 1 2 ∷ []) ≡ lines
      (codes "#blocked 0 class LA;" ∷ codes "#blocked 1 class LB;" ∷ codes "#end blocked" ∷ [])
  -- one thread goes first
  pub one_goes_first : replay_text crossing 98 (steps 0 23 ∷ steps 1 3 ∷ []) ≡ lines (codes "#end done" ∷ [])
  -- a schedule that stops early
  pub stops_early : replay_text crossing 98 (steps 0 23 ∷ []) ≡ codes "#schedule entry 1: stops early"
  -- a schedule that goes past the end
  pub past_the_end : replay_text crossing 98 (steps 0 23 ∷ steps 1 4 ∷ []) ≡ codes "#schedule entry 1: past the end"
  -- a thread that waits for a class
  pub not_runnable : replay_text crossing 98 (steps 0 10 ∷ steps 1 1 ∷ steps 0 1 ∷ []) ≡ codes "#schedule entry 2: not runnable"
  -- a thread that isn't there
  pub not_there : replay_text crossing 98 (steps 1 1 ∷ []) ≡ codes "#schedule entry 0: not runnable"
  -- the program is accepted
  pub crossing_is_accepted : Accepts crossing
  -- an initialiser that throws, and a second use of its class
  pub initialiser_throws :
      outcome failing 98 ≡ lines
      (codes "1" ∷ codes "#uncaught 0 java.lang.NoClassDefFoundError" ∷ codes "#end done" ∷ [])
  -- the program is accepted
  pub failing_is_accepted : Accepts failing
  -- main's class first, then a superclass, its class, the method; a class is initialised once
  pub superclass_goes_first :
      outcome ordering 99 ≡ lines (codes "1" ∷ codes "2" ∷ codes "3" ∷ codes "4" ∷ codes "7" ∷ codes "#end done" ∷ [])
  -- where the initialiser of main's class throws, main is dropped without a search; an Error isn't wrapped
  pub main_never_runs : outcome failing_main 99 ≡ lines (codes "#uncaught 0 java.lang.OutOfMemoryError" ∷ codes "#end done" ∷ [])
