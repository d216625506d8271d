-- Examples: the typing rules, each by a method that breaks it.
use Rattle.std.specs.Prelude.{◌≡◌, [], ◌∷◌, Some, None, codes}
use Rattle.dv_defs.specs.Images.{Image}
use Rattle.dv_defs.specs.Types.{of_class}
use Rattle.test_machine.specs.Images.{of_int, body, body_with, method, field, class, info, field_info, naming, method_ref, field_ref, object_init_ref, linked}
use Rattle.test_machine.specs.BootImage.{with_boot, with_main}
use Rattle.test_machine.specs.Passes.{faults_of, V}

--   .registers 1
--   const/4 v0, 0x0
abbrev pub falling : Image
falling = with_main (body 1 (0x0012 ∷ [])) [] [] []

--   .registers 1
--   new-instance v0, Ljava/lang/Object;
--   invoke-direct {v0}, Ljava/lang/Object;-><init>()V
--   throw v0
abbrev pub wrong_class : Image
wrong_class =
    with_main
    (naming [] (object_init_ref ∷ [])
    (body_with 1 (0x0022 ∷ 0x0000 ∷ 0x1070 ∷ 0x0000 ∷ 0x0000 ∷ 0x0027 ∷ []) [] []
    (of_class (codes "Ljava/lang/Object;") ∷ [])))
    (of_class (codes "Ljava/lang/Object;") ∷ []) [] (0 ∷ [])

--   .registers 2
--   const/4 v0, 0x1
--   move-object v1, v0
--   return-void
abbrev pub moved_int : Image
moved_int = with_main (body 2 (0x1012 ∷ 0x0107 ∷ 0x000e ∷ [])) [] [] []

--   .registers 1
--   invoke-static {}, Ljava/lang/Thread;->currentThread()Ljava/lang/Thread;
--   nop
--   move-result-object v0
--   return-void
abbrev pub no_result_left : Image
no_result_left = with_main (naming []
    (method_ref (codes "Ljava/lang/Thread;") (codes "currentThread") []
    (Some (of_class (codes "Ljava/lang/Thread;"))) ∷ [])
    (body 1 (0x0071 ∷ 0x0000 ∷ 0x0000 ∷ 0x0000 ∷ 0x000c ∷ 0x000e ∷ []))) [] [] (11 ∷ [])

--   .registers 1
--   move-exception v0
--   return-void
abbrev pub nothing_caught : Image
nothing_caught = with_main (body 1 (0x000d ∷ 0x000e ∷ [])) [] [] []

--   .registers 2
--   const/4 v0, 0x1
--   new-instance v1, Ljava/lang/Object;
--   invoke-direct {v1}, Ljava/lang/Object;-><init>()V
--   if-eq v0, v1, :a
--   nop
--   :a
--   return-void
abbrev pub mixed : Image
mixed =
    with_main
    (naming [] (object_init_ref ∷ [])
    (body_with 2 (0x1012 ∷ 0x0122 ∷ 0x0000 ∷ 0x1070 ∷ 0x0000 ∷ 0x0001 ∷ 0x1032 ∷ 0x0003 ∷ 0x0000 ∷ 0x000e ∷ []) []
    [] (of_class (codes "Ljava/lang/Object;") ∷ [])))
    (of_class (codes "Ljava/lang/Object;") ∷ []) [] (0 ∷ [])

--   .registers 1
--   invoke-static {}, Ljava/lang/Thread;->currentThread()Ljava/lang/Thread;
--   move-result-object v0
--   array-length v0, v0
--   return-void
abbrev pub no_array : Image
no_array = with_main (naming []
    (method_ref (codes "Ljava/lang/Thread;") (codes "currentThread") []
    (Some (of_class (codes "Ljava/lang/Thread;"))) ∷ [])
    (body 1 (0x0071 ∷ 0x0000 ∷ 0x0000 ∷ 0x000c ∷ 0x0021 ∷ 0x000e ∷ []))) [] [] (11 ∷ [])

--   .registers 1
--   new-instance v0, Ljava/lang/Object;
--   invoke-direct {v0}, Ljava/lang/Object;-><init>()V
--   invoke-direct {v0}, Ljava/lang/Object;-><init>()V
--   return-void
abbrev pub constructed_twice : Image
constructed_twice =
    with_main
    (naming [] (object_init_ref ∷ [])
    (body_with 1 (0x0022 ∷ 0x0000 ∷ 0x1070 ∷ 0x0000 ∷ 0x0000 ∷ 0x1070 ∷ 0x0000 ∷ 0x0000 ∷ 0x000e ∷ []) [] []
    (of_class (codes "Ljava/lang/Object;") ∷ [])))
    (of_class (codes "Ljava/lang/Object;") ∷ []) [] (0 ∷ [])

--   .class LMain;
--   .super Ljava/lang/Object;
--   .method static main()V
--   .registers 0
--   return-void
--   .end method
--   .class LEarly;
--   .super Ljava/lang/Object;
--   .method constructor <init>()V
--   .registers 1
--   return-void
--   .end method
abbrev pub early : Image
early = with_boot
    (linked (Some 0) [] [] (1 ∷ 2 ∷ 3 ∷ 4 ∷ [])
    (class (codes "LMain;") (Some (codes "Ljava/lang/Object;")) [] 0 []
    (method (codes "main") [] None 8 (Some (body 0 (0x000e ∷ []))) ∷ [])) ∷
    linked (Some 0) [] [] (1 ∷ 2 ∷ 3 ∷ 4 ∷ [])
    (class (codes "LEarly;") (Some (codes "Ljava/lang/Object;")) [] 0 []
    (method (codes "<init>") [] None 0 (Some (body 1 (0x000e ∷ []))) ∷ [])) ∷ [])
    (info 33 0 [] [] [] ∷
    info 34 0 [] [] [] ∷ [])
    []

--   .registers 1
--   const/4 v0, 0x0
--   return v0
abbrev pub wrong_form : Image
wrong_form = with_main (body 1 (0x0012 ∷ 0x000f ∷ [])) [] [] []

--   .class LMain;
--   .super Ljava/lang/Object;
--   .method static main()V
--   .registers 0
--   return-void
--   .end method
--   .class LUpper;
--   .super Ljava/lang/Object;
--   .field x:I
--   .method constructor <init>()V
--   .registers 1
--   invoke-direct {p0}, Ljava/lang/Object;-><init>()V
--   return-void
--   .end method
--   .class LLower;
--   .super LUpper;
--   .method constructor <init>()V
--   .registers 2
--   const/4 v0, 0x1
--   iput v0, p0, LUpper;->x:I
--   invoke-direct {p0}, LUpper;-><init>()V
--   return-void
--   .end method
abbrev pub puts_upper : Image
puts_upper = with_boot
    (linked (Some 0) [] [] (1 ∷ 2 ∷ 3 ∷ 4 ∷ [])
    (class (codes "LMain;") (Some (codes "Ljava/lang/Object;")) [] 0 []
    (method (codes "main") [] None 8 (Some (body 0 (0x000e ∷ []))) ∷ [])) ∷
    linked (Some 0) [] (5 ∷ []) (1 ∷ 2 ∷ 3 ∷ 4 ∷ [])
    (class (codes "LUpper;") (Some (codes "Ljava/lang/Object;")) [] 0
    (field (codes "x") of_int 0 ∷ [])
    (method (codes "<init>") [] None 0 (Some (naming [] (object_init_ref ∷ [])
    (body 1 (0x1070 ∷ 0x0000 ∷ 0x0000 ∷ 0x000e ∷ [])))) ∷ [])) ∷
    linked (Some 34) [] (5 ∷ []) (1 ∷ 2 ∷ 3 ∷ 4 ∷ [])
    (class (codes "LLower;") (Some (codes "LUpper;")) [] 0 []
    (method (codes "<init>") [] None 0
    (Some (naming
    (field_ref (codes "LUpper;") (codes "x") of_int ∷ [])
    (method_ref (codes "LUpper;") (codes "<init>") [] None ∷ [])
    (body 2 (0x1012 ∷ 0x1059 ∷ 0x0000 ∷ 0x1070 ∷ 0x0000 ∷ 0x0001 ∷ 0x000e ∷ [])))) ∷ [])) ∷ [])
    (info 33 0 [] [] [] ∷
    info 34 0 [] [] (0 ∷ []) ∷
    info 35 0 [] (5 ∷ []) (99 ∷ []) ∷ [])
    (field_info 34 0 0 ∷ [])

-- each typing rule, where it is broken
pub record TypingRules : Type 0 where
  -- V1: control falls off the end
  pub falling_tells : faults_of falling 98 ≡ V 1 0x0 ∷ []
  -- V5: throw of an object that is no Throwable
  pub wrong_class_tells : faults_of wrong_class 98 ≡ V 5 0x5 ∷ []
  -- V6: move-object of an int
  pub moved_int_tells : faults_of moved_int 98 ≡ V 6 0x1 ∷ []
  -- V7: a result is pending for the next instruction alone
  pub no_result_left_tells : faults_of no_result_left 98 ≡ V 7 0x4 ∷ []
  -- V8: nothing was caught
  pub nothing_caught_tells : faults_of nothing_caught 98 ≡ V 8 0x0 ∷ []
  -- V9: an int is not compared with a reference
  pub mixed_tells : faults_of mixed 98 ≡ V 9 0x6 ∷ []
  -- V10: no array
  pub no_array_tells : faults_of no_array 98 ≡ V 10 0x4 ∷ []
  -- V11: a constructor is called once
  pub constructed_twice_tells : faults_of constructed_twice 98 ≡ V 11 0x5 ∷ []
  -- V12: a constructor returns only after the superclass's was called
  pub returns_too_early : faults_of early 99 ≡ V 12 0x0 ∷ []
  -- V13: a void method returns no value
  pub wrong_form_tells : faults_of wrong_form 98 ≡ V 13 0x1 ∷ []
  -- V14: before that, a field of another class may not be put
  pub puts_a_field_of_another : faults_of puts_upper 100 ≡ V 14 0x1 ∷ []
