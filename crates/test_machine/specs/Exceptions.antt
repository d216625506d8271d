-- Examples: exceptions.
use Rattle.std.specs.Prelude.{◌≡◌, [], ◌∷◌, Some, None, codes}
use Rattle.dv_defs.specs.Images.{Image}
use Rattle.dv_defs.specs.Types.{of_class}
use Rattle.dv_typing.specs.Accepting.{Accepts}
use Rattle.test_machine.specs.Images.{catch_type, catch_all, entry_over, body, body_with, method, class, info, naming, method_ref, println_ref, object_init_ref, linked}
use Rattle.test_machine.specs.BootImage.{with_boot, with_main}
use Rattle.test_machine.specs.Outcomes.{lines, outcome}

--   .registers 2
--   new-instance v0, Ljava/lang/Object;
--   invoke-direct {v0}, Ljava/lang/Object;-><init>()V
--   :a
--   monitor-exit v0
--   :b
--   const/4 v1, 0x0
--   :c
--   return-void
--   :h
--   const/4 v1, 0x1
--   invoke-static {v1}, Ldvm/Console;->println(I)V
--   return-void
--   :i
--   const/4 v1, 0x2
--   invoke-static {v1}, Ldvm/Console;->println(I)V
--   return-void
--   .catchall {:a .. :b} :h
--   .catchall {:b .. :c} :i
abbrev pub exiting : Image
exiting =
    with_main
    (naming [] (object_init_ref ∷ println_ref ∷ [])
    (body_with 2
    (0x0022 ∷ 0x0000 ∷ 0x1070 ∷ 0x0000 ∷ 0x0000 ∷ 0x001e ∷ 0x0112 ∷ 0x000e ∷ 0x1112 ∷ 0x1071 ∷ 0x0001 ∷
    0x0001 ∷ 0x000e ∷ 0x2112 ∷ 0x1071 ∷ 0x0001 ∷ 0x0001 ∷ 0x000e ∷ [])
    (entry_over 5 6 (catch_all 8 ∷ []) ∷ entry_over 6 7 (catch_all 13 ∷ []) ∷ []) []
    (of_class (codes "Ljava/lang/Object;") ∷ [])))
    (of_class (codes "Ljava/lang/Object;") ∷ []) [] (0 ∷ 40 ∷ [])

--   .class LMain;
--   .super Ljava/lang/Object;
--   .method static main()V
--   .registers 2
--   const-string v1, "no"
--   new-instance v0, Ljava/lang/RuntimeException;
--   invoke-direct {v0, v1}, Ljava/lang/RuntimeException;-><init>(Ljava/lang/String;)V
--   throw v0
--   .end method
--   .method static deep()V
--   .registers 1
--   const/4 v0, 0x0
--   div-int v0, v0, v0
--   return-void
--   .end method
--   .method static catches()V
--   .registers 2
--   :a
--   invoke-static {}, LMain;->deep()V
--   :b
--   return-void
--   :g
--   const/4 v1, 0x1
--   invoke-static {v1}, Ldvm/Console;->println(I)V
--   return-void
--   :h
--   move-exception v0
--   const/4 v1, 0x2
--   invoke-static {v1}, Ldvm/Console;->println(I)V
--   throw v0
--   :i
--   const/4 v1, 0x3
--   invoke-static {v1}, Ldvm/Console;->println(I)V
--   return-void
--   .catch Ljava/lang/NullPointerException; {:a .. :b} :g
--   .catch Ljava/lang/RuntimeException; {:a .. :b} :h
--   .catchall {:a .. :b} :i
--   .end method
--   .method static nothing()V
--   .registers 1
--   const/4 v0, 0x0
--   throw v0
--   .end method
abbrev pub throwing : Image
throwing = with_boot
    (linked (Some 0) [] [] (1 ∷ 2 ∷ 3 ∷ 4 ∷ [])
    (class (codes "LMain;") (Some (codes "Ljava/lang/Object;")) [] 0 []
    (method (codes "main") [] None 8
    (Some (naming []
    (method_ref (codes "Ljava/lang/RuntimeException;") (codes "<init>") (of_class (codes "Ljava/lang/String;") ∷ []) None ∷ [])
    (body_with 2 (0x011a ∷ 0x0000 ∷ 0x0022 ∷ 0x0000 ∷ 0x2070 ∷ 0x0000 ∷ 0x0010 ∷ 0x0027 ∷ [])
    [] (codes "no" ∷ []) (of_class (codes "Ljava/lang/RuntimeException;") ∷ []))))
    ∷ method (codes "deep") [] None 8 (Some (body 1 (0x0012 ∷ 0x0093 ∷ 0x0000 ∷ 0x000e ∷ [])))
    ∷ method (codes "catches") [] None 8
    (Some (naming [] (method_ref (codes "LMain;") (codes "deep") [] None ∷ println_ref ∷ [])
    (body_with 2
    (0x0071 ∷ 0x0000 ∷ 0x0000 ∷ 0x000e ∷ 0x1112 ∷ 0x1071 ∷ 0x0001 ∷ 0x0001 ∷ 0x000e ∷ 0x000d ∷ 0x2112 ∷
    0x1071 ∷ 0x0001 ∷ 0x0001 ∷ 0x0027 ∷ 0x3112 ∷ 0x1071 ∷ 0x0001 ∷ 0x0001 ∷ 0x000e ∷ [])
    (entry_over 0 3 (catch_type 0 4 ∷ catch_type 1 9 ∷ catch_all 15 ∷ []) ∷ [])
    []
    (of_class (codes "Ljava/lang/NullPointerException;") ∷ of_class (codes "Ljava/lang/RuntimeException;") ∷ []))))
    ∷ method (codes "nothing") [] None 8 (Some (body 1 (0x0012 ∷ 0x0027 ∷ []))) ∷ [])) ∷ [])
    (info 33 0 (of_class (codes "Ljava/lang/RuntimeException;") ∷ []) [] (56 ∷ []) ∷
    info 33 1 [] [] [] ∷
    info 33 2
    (of_class (codes "Ljava/lang/NullPointerException;") ∷ of_class (codes "Ljava/lang/RuntimeException;") ∷ [])
    [] (99 ∷ 40 ∷ []) ∷
    info 33 3 [] [] [] ∷ [])
    []

-- exceptions and handlers
pub record Exceptions : Type 0 where
  -- an exception of monitor-exit is searched at the next address
  pub exit_is_searched_at_the_next : outcome exiting 98 ≡ lines (codes "2" ∷ codes "#end done" ∷ [])
  -- the program is accepted
  pub exiting_is_accepted : Accepts exiting
  -- an uncaught exception with a message
  pub message_is_told : outcome throwing 98 ≡ lines (codes "#uncaught 0 java.lang.RuntimeException: no" ∷ codes "#end done" ∷ [])
  -- the first handler whose type fits, and the exception thrown anew
  pub first_fitting_handler :
      outcome throwing 100 ≡ lines
      (codes "2" ∷ codes "#uncaught 0 java.lang.ArithmeticException" ∷ codes "#end done" ∷ [])
  -- throw of null
  pub throw_of_null : outcome throwing 101 ≡ lines (codes "#uncaught 0 java.lang.NullPointerException" ∷ codes "#end done" ∷ [])
  -- the program is accepted
  pub throwing_is_accepted : Accepts throwing
