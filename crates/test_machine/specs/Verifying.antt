-- Examples: what the verifier accepts and refuses, with address and rule.
use Rattle.std.specs.Prelude.{◌≡◌, [], ◌∷◌, Some, None, codes}
use Rattle.dv_defs.specs.Images.{Image}
use Rattle.dv_defs.specs.Types.{of_class}
use Rattle.dv_typing.specs.Accepting.{Accepts}
use Rattle.test_machine.specs.Images.{body, body_with, method, field, class, info, field_info, naming, method_ref, field_ref, println_ref, object_init_ref, linked}
use Rattle.test_machine.specs.BootImage.{with_boot, with_main}
use Rattle.test_machine.specs.Outcomes.{lines, outcome}
use Rattle.test_machine.specs.Passes.{faults_of, V}

-- the boot classes alone
abbrev pub boot_alone : Image
boot_alone = with_boot [] [] []

--   .registers 2
--   const/4 v0, 0x1
--   if-eqz v0, :a
--   const/4 v1, 0x5
--   :a
--   invoke-static {v1}, Ldvm/Console;->println(I)V
--   return-void
abbrev pub unwritten : Image
unwritten = with_main (naming [] (println_ref ∷ [])
    (body 2 (0x1012 ∷ 0x0038 ∷ 0x0003 ∷ 0x5112 ∷ 0x1071 ∷ 0x0000 ∷ 0x0001 ∷ 0x000e ∷ []))) [] [] (40 ∷ [])

--   .registers 2
--   const/4 v1, 0x6
--   const/4 v0, 0x1
--   if-eqz v0, :a
--   const/4 v1, 0x5
--   :a
--   invoke-static {v1}, Ldvm/Console;->println(I)V
--   return-void
abbrev pub written : Image
written = with_main (naming [] (println_ref ∷ [])
    (body 2 (0x6112 ∷ 0x1012 ∷ 0x0038 ∷ 0x0003 ∷ 0x5112 ∷ 0x1071 ∷ 0x0000 ∷ 0x0001 ∷ 0x000e ∷ []))) [] [] (40 ∷ [])

--   .registers 3
--   const-wide/16 v0, 0x7
--   const/4 v1, 0x1
--   long-to-int v2, v0
--   invoke-static {v2}, Ldvm/Console;->println(I)V
--   return-void
abbrev pub half_written : Image
half_written = with_main (naming [] (println_ref ∷ [])
    (body 3 (0x0016 ∷ 0x0007 ∷ 0x1112 ∷ 0x0284 ∷ 0x1071 ∷ 0x0000 ∷ 0x0002 ∷ 0x000e ∷ []))) [] [] (40 ∷ [])

--   .registers 2
--   const/4 v0, 0x0
--   invoke-static {v0}, Ldvm/Console;->println(I)V
--   instance-of v1, v0, Ljava/lang/String;
--   invoke-static {v1}, Ldvm/Console;->println(I)V
--   return-void
abbrev pub null_and_zero : Image
null_and_zero =
    with_main
    (naming [] (println_ref ∷ [])
    (body_with 2 (0x0012 ∷ 0x1071 ∷ 0x0000 ∷ 0x0000 ∷ 0x0120 ∷ 0x0000 ∷ 0x1071 ∷ 0x0000 ∷ 0x0001 ∷ 0x000e ∷ []) []
    [] (of_class (codes "Ljava/lang/String;") ∷ [])))
    (of_class (codes "Ljava/lang/String;") ∷ []) [] (40 ∷ [])

--   .registers 2
--   const/4 v0, 0x1
--   add-int/lit8 v0, v0, -0x1
--   instance-of v1, v0, Ljava/lang/String;
--   return-void
abbrev pub computed_zero : Image
computed_zero =
    with_main
    (body_with 2 (0x1012 ∷ 0x00d8 ∷ 0xff00 ∷ 0x0120 ∷ 0x0000 ∷ 0x000e ∷ []) [] []
    (of_class (codes "Ljava/lang/String;") ∷ []))
    (of_class (codes "Ljava/lang/String;") ∷ []) [] []

--   .registers 3
--   const/4 v1, 0x0
--   const/4 v2, 0x0
--   :a
--   new-instance v0, Ljava/lang/Object;
--   if-nez v2, :b
--   move-object v1, v0
--   const/4 v2, 0x1
--   goto :a
--   :b
--   invoke-direct {v0}, Ljava/lang/Object;-><init>()V
--   instance-of v2, v1, Ljava/lang/Object;
--   return-void
abbrev pub two_of_one : Image
two_of_one =
    with_main
    (naming [] (object_init_ref ∷ [])
    (body_with 3
    (0x0112 ∷ 0x0212 ∷ 0x0022 ∷ 0x0000 ∷ 0x0239 ∷ 0x0005 ∷ 0x0107 ∷ 0x1212 ∷ 0xfa28 ∷ 0x1070 ∷ 0x0000 ∷
    0x0000 ∷ 0x1220 ∷ 0x0000 ∷ 0x000e ∷ [])
    [] [] (of_class (codes "Ljava/lang/Object;") ∷ [])))
    (of_class (codes "Ljava/lang/Object;") ∷ []) [] (0 ∷ [])

--   .registers 2
--   const/4 v0, 0x0
--   :a
--   new-instance v1, Ljava/lang/Object;
--   invoke-direct {v1}, Ljava/lang/Object;-><init>()V
--   add-int/lit8 v0, v0, 0x1
--   const/4 v1, 0x3
--   if-lt v0, v1, :a
--   invoke-static {v0}, Ldvm/Console;->println(I)V
--   return-void
abbrev pub one_a_turn : Image
one_a_turn =
    with_main
    (naming [] (object_init_ref ∷ println_ref ∷ [])
    (body_with 2
    (0x0012 ∷ 0x0122 ∷ 0x0000 ∷ 0x1070 ∷ 0x0000 ∷ 0x0001 ∷ 0x00d8 ∷ 0x0100 ∷ 0x3112 ∷ 0x1034 ∷ 0xfff8 ∷
    0x1071 ∷ 0x0001 ∷ 0x0000 ∷ 0x000e ∷ [])
    [] [] (of_class (codes "Ljava/lang/Object;") ∷ [])))
    (of_class (codes "Ljava/lang/Object;") ∷ []) [] (0 ∷ 40 ∷ [])

--   .class LMain;
--   .super Ljava/lang/Object;
--   .method static main()V
--   .registers 0
--   return-void
--   .end method
--   .class LMain$I;
--   .super Ljava/lang/Object;
--   .field final synthetic this$0:LMain;
--   .method constructor <init>(LMain;)V
--   .registers 2
--   iput-object p1, p0, LMain$I;->this$0:LMain;
--   invoke-direct {p0}, Ljava/lang/Object;-><init>()V
--   return-void
--   .end method
abbrev pub inner : Image
inner = with_boot
    (linked (Some 0) [] [] (1 ∷ 2 ∷ 3 ∷ 4 ∷ [])
    (class (codes "LMain;") (Some (codes "Ljava/lang/Object;")) [] 0 []
    (method (codes "main") [] None 8 (Some (body 0 (0x000e ∷ []))) ∷ [])) ∷
    linked (Some 0) [] (5 ∷ []) (1 ∷ 2 ∷ 3 ∷ 4 ∷ [])
    (class (codes "LMain$I;") (Some (codes "Ljava/lang/Object;")) [] 0
    (field (codes "this$0") (of_class (codes "LMain;")) 0x4010 ∷ [])
    (method (codes "<init>") (of_class (codes "LMain;") ∷ []) None 0
    (Some (naming
    (field_ref (codes "LMain$I;") (codes "this$0") (of_class (codes "LMain;")) ∷ [])
    (object_init_ref ∷ [])
    (body 2 (0x015b ∷ 0x0000 ∷ 0x1070 ∷ 0x0000 ∷ 0x0000 ∷ 0x000e ∷ [])))) ∷ [])) ∷ [])
    (info 33 0 [] [] [] ∷
    info 34 0 [] (5 ∷ []) (0 ∷ []) ∷ [])
    (field_info 34 0 0 ∷ [])

--   .class LMain;
--   .super Ljava/lang/Object;
--   .method static main()V
--   .registers 0
--   return-void
--   .end method
--   .class LMain$I;
--   .super Ljava/lang/Object;
--   .field final synthetic this$0:LMain;
--   .method constructor <init>(LMain;)V
--   .registers 2
--   invoke-virtual {p0}, Ljava/lang/Object;->notify()V
--   iput-object p1, p0, LMain$I;->this$0:LMain;
--   invoke-direct {p0}, Ljava/lang/Object;-><init>()V
--   return-void
--   .end method
abbrev pub inner_call : Image
inner_call = with_boot
    (linked (Some 0) [] [] (1 ∷ 2 ∷ 3 ∷ 4 ∷ [])
    (class (codes "LMain;") (Some (codes "Ljava/lang/Object;")) [] 0 []
    (method (codes "main") [] None 8 (Some (body 0 (0x000e ∷ []))) ∷ [])) ∷
    linked (Some 0) [] (5 ∷ []) (1 ∷ 2 ∷ 3 ∷ 4 ∷ [])
    (class (codes "LMain$I;") (Some (codes "Ljava/lang/Object;")) [] 0
    (field (codes "this$0") (of_class (codes "LMain;")) 0x4010 ∷ [])
    (method (codes "<init>") (of_class (codes "LMain;") ∷ []) None 0
    (Some (naming
    (field_ref (codes "LMain$I;") (codes "this$0") (of_class (codes "LMain;")) ∷ [])
    (method_ref (codes "Ljava/lang/Object;") (codes "notify") [] None ∷ object_init_ref ∷ [])
    (body 2 (0x106e ∷ 0x0000 ∷ 0x0000 ∷ 0x015b ∷ 0x0000 ∷ 0x1070 ∷ 0x0001 ∷ 0x0000 ∷ 0x000e ∷ [])))) ∷ [])) ∷ [])
    (info 33 0 [] [] [] ∷
    info 34 0 [] (5 ∷ []) (3 ∷ 0 ∷ []) ∷ [])
    (field_info 34 0 0 ∷ [])

-- methods that are accepted, and methods that are refused
pub record Verifying : Type 0 where
  -- each body of the boot classes is accepted
  pub boot_bodies : Accepts boot_alone
  -- a register that one way leaves unwritten is no int
  pub merge_of_unwritten : faults_of unwritten 98 ≡ V 2 0x4 ∷ []
  -- written before both ways, it is one
  pub merge_of_written : Accepts written
  -- and runs
  pub written_runs : outcome written 98 ≡ lines (codes "5" ∷ codes "#end done" ∷ [])
  -- a long whose high half was overwritten is none
  pub half_overwritten : faults_of half_written 98 ≡ V 3 0x3 ∷ []
  -- the constant 0 is an int and null
  pub zero_is_both : Accepts null_and_zero
  -- null is an instance of nothing
  pub null_is_no_instance : outcome null_and_zero 98 ≡ lines (codes "0" ∷ codes "0" ∷ codes "#end done" ∷ [])
  -- a computed 0 is no reference
  pub computed_zero_is_an_int : faults_of computed_zero 98 ≡ V 4 0x3 ∷ []
  -- an object that is not initialised is lost when its new-instance makes another
  pub two_of_one_new_instance : faults_of two_of_one 98 ≡ V 4 0xc ∷ []
  -- one object a turn of a loop
  pub one_object_a_turn : Accepts one_a_turn
  -- and it runs
  pub one_object_a_turn_runs : outcome one_a_turn 98 ≡ lines (codes "3" ∷ codes "#end done" ∷ [])
  -- a constructor may put its own field before it calls the superclass's
  pub own_field_before_super : Accepts inner
  -- but no other method may be called on it
  pub no_call_before_super : faults_of inner_call 99 ≡ V 4 0x0 ∷ []
