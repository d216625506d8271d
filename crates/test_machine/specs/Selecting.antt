-- Examples: which method a call selects, where interfaces have default methods.
use Rattle.std.specs.Prelude.{◌≡◌, ℕ, ◌++◌, [], ◌∷◌, Some, None, codes}
use Rattle.dv_defs.specs.declared.image.Select.{Select}
use Rattle.dv_defs.specs.declared.image.Select.TheVariants as select
use Rattle.dv_defs.specs.Images.{Image}
use Rattle.dv_defs.specs.Types.{of_class}
use Rattle.dv_defs.specs.Pools.{no_arguments}
use Rattle.dv_defs.specs.Selecting.{selected}
use Rattle.dv_typing.specs.Accepting.{Accepts}
use Rattle.test_machine.specs.Images.{of_int, body, body_with, method, class, info, bare, naming, method_ref, println_ref, object_init_ref, found, initialised_after, linked_selecting, linked}
use Rattle.test_machine.specs.BootImage.{with_boot}
use Rattle.test_machine.specs.Outcomes.{lines, outcome}

--   .class LMain;
--   .super Ljava/lang/Object;
--   .method static main()V
--   .registers 1
--   new-instance v0, LPlain;
--   invoke-direct {v0}, LPlain;-><init>()V
--   invoke-interface {v0}, LTop;->name()I
--   move-result v0
--   invoke-static {v0}, Ldvm/Console;->println(I)V
--   new-instance v0, LKept;
--   invoke-direct {v0}, LKept;-><init>()V
--   invoke-virtual {v0}, LKept;->name()I
--   move-result v0
--   invoke-static {v0}, Ldvm/Console;->println(I)V
--   new-instance v0, LLower;
--   invoke-direct {v0}, LLower;-><init>()V
--   invoke-virtual {v0}, LLower;->name()I
--   move-result v0
--   invoke-static {v0}, Ldvm/Console;->println(I)V
--   new-instance v0, LUnder;
--   invoke-direct {v0}, LUnder;-><init>()V
--   invoke-virtual {v0}, LUnder;->name()I
--   move-result v0
--   invoke-static {v0}, Ldvm/Console;->println(I)V
--   return-void
--   .end method
--   .method static clash()V
--   .registers 1
--   new-instance v0, LBoth;
--   invoke-direct {v0}, LBoth;-><init>()V
--   invoke-interface {v0}, LTop;->name()I
--   return-void
--   .end method
--   .method static hidden()V
--   .registers 1
--   new-instance v0, LBare;
--   invoke-direct {v0}, LBare;-><init>()V
--   invoke-interface {v0}, LTop;->name()I
--   return-void
--   .end method
--   .class interface abstract LTop;
--   .super Ljava/lang/Object;
--   .method name()I
--   .registers 2
--   const/4 v0, 0x1
--   return v0
--   .end method
--   .class interface abstract LMiddle;
--   .super Ljava/lang/Object;
--   .implements LTop;
--   .method name()I
--   .registers 2
--   const/4 v0, 0x2
--   return v0
--   .end method
--   .class interface abstract LOther;
--   .super Ljava/lang/Object;
--   .method name()I
--   .registers 2
--   const/4 v0, 0x3
--   return v0
--   .end method
--   .class interface abstract LHidden;
--   .super Ljava/lang/Object;
--   .implements LTop;
--   .method abstract name()I
--   .end method
--   .class LPlain;
--   .super Ljava/lang/Object;
--   .implements LTop;
--   .method constructor <init>()V
--   .registers 1
--   invoke-direct {p0}, Ljava/lang/Object;-><init>()V
--   return-void
--   .end method
--   .class LBase;
--   .super Ljava/lang/Object;
--   .method constructor <init>()V
--   .registers 1
--   invoke-direct {p0}, Ljava/lang/Object;-><init>()V
--   return-void
--   .end method
--   .method name()I
--   .registers 2
--   const/4 v0, 0x4
--   return v0
--   .end method
--   .class LKept;
--   .super LBase;
--   .implements LTop;
--   .method constructor <init>()V
--   .registers 1
--   invoke-direct {p0}, LBase;-><init>()V
--   return-void
--   .end method
--   .class LLower;
--   .super Ljava/lang/Object;
--   .implements LTop;
--   .implements LMiddle;
--   .method constructor <init>()V
--   .registers 1
--   invoke-direct {p0}, Ljava/lang/Object;-><init>()V
--   return-void
--   .end method
--   .class LBoth;
--   .super Ljava/lang/Object;
--   .implements LMiddle;
--   .implements LOther;
--   .method constructor <init>()V
--   .registers 1
--   invoke-direct {p0}, Ljava/lang/Object;-><init>()V
--   return-void
--   .end method
--   .class LBare;
--   .super Ljava/lang/Object;
--   .implements LHidden;
--   .method constructor <init>()V
--   .registers 1
--   invoke-direct {p0}, Ljava/lang/Object;-><init>()V
--   return-void
--   .end method
--   .class LUnder;
--   .super LPlain;
--   .method constructor <init>()V
--   .registers 1
--   invoke-direct {p0}, LPlain;-><init>()V
--   return-void
--   .end method
--   .method name()I
--   .registers 2
--   invoke-super {p0}, LPlain;->name()I
--   move-result v0
--   add-int/lit8 v0, v0, 0x4
--   return v0
--   .end method
abbrev pub defaults : Image
defaults = with_boot
    (linked (Some 0) [] [] (1 ∷ 2 ∷ 3 ∷ 4 ∷ [])
    (class (codes "LMain;") (Some (codes "Ljava/lang/Object;")) [] 0 []
    (method (codes "main") [] None 8
    (Some (naming []
    (method_ref (codes "LPlain;") (codes "<init>") [] None ∷
    method_ref (codes "LTop;") (codes "name") [] (Some of_int) ∷
    println_ref ∷
    method_ref (codes "LKept;") (codes "<init>") [] None ∷
    method_ref (codes "LKept;") (codes "name") [] (Some of_int) ∷
    method_ref (codes "LLower;") (codes "<init>") [] None ∷
    method_ref (codes "LLower;") (codes "name") [] (Some of_int) ∷
    method_ref (codes "LUnder;") (codes "<init>") [] None ∷
    method_ref (codes "LUnder;") (codes "name") [] (Some of_int) ∷ [])
    (body_with 1
    (0x0022 ∷ 0x0000 ∷ 0x1070 ∷ 0x0000 ∷ 0x0000 ∷ 0x1072 ∷ 0x0001 ∷ 0x0000 ∷ 0x000a ∷ 0x1071 ∷ 0x0002 ∷
    0x0000 ∷ 0x0022 ∷ 0x0001 ∷ 0x1070 ∷ 0x0003 ∷ 0x0000 ∷ 0x106e ∷ 0x0004 ∷ 0x0000 ∷ 0x000a ∷ 0x1071 ∷
    0x0002 ∷ 0x0000 ∷ 0x0022 ∷ 0x0002 ∷ 0x1070 ∷ 0x0005 ∷ 0x0000 ∷ 0x106e ∷ 0x0006 ∷ 0x0000 ∷ 0x000a ∷
    0x1071 ∷ 0x0002 ∷ 0x0000 ∷ 0x0022 ∷ 0x0003 ∷ 0x1070 ∷ 0x0007 ∷ 0x0000 ∷ 0x106e ∷ 0x0008 ∷ 0x0000 ∷
    0x000a ∷ 0x1071 ∷ 0x0002 ∷ 0x0000 ∷ 0x000e ∷ [])
    [] []
    (of_class (codes "LPlain;") ∷ of_class (codes "LKept;") ∷ of_class (codes "LLower;") ∷
    of_class (codes "LUnder;") ∷ []))))
    ∷ method (codes "clash") [] None 8
    (Some (naming []
    (method_ref (codes "LBoth;") (codes "<init>") [] None ∷
    method_ref (codes "LTop;") (codes "name") [] (Some of_int) ∷ [])
    (body_with 1 (0x0022 ∷ 0x0000 ∷ 0x1070 ∷ 0x0000 ∷ 0x0000 ∷ 0x1072 ∷ 0x0001 ∷ 0x0000 ∷ 0x000e ∷ [])
    [] [] (of_class (codes "LBoth;") ∷ []))))
    ∷ method (codes "hidden") [] None 8
    (Some (naming []
    (method_ref (codes "LBare;") (codes "<init>") [] None ∷
    method_ref (codes "LTop;") (codes "name") [] (Some of_int) ∷ [])
    (body_with 1 (0x0022 ∷ 0x0000 ∷ 0x1070 ∷ 0x0000 ∷ 0x0000 ∷ 0x1072 ∷ 0x0001 ∷ 0x0000 ∷ 0x000e ∷ [])
    [] [] (of_class (codes "LBare;") ∷ [])))) ∷ [])) ∷
    linked (Some 0) [] [] (1 ∷ 2 ∷ 3 ∷ 4 ∷ 101 ∷ [])
    (class (codes "LTop;") (Some (codes "Ljava/lang/Object;")) [] 0x1800 []
    (method (codes "name") [] (Some of_int) 0 (Some (body 2 (0x1012 ∷ 0x000f ∷ []))) ∷ [])) ∷
    linked (Some 0) (34 ∷ []) [] (1 ∷ 2 ∷ 3 ∷ 4 ∷ 102 ∷ [])
    (class (codes "LMiddle;") (Some (codes "Ljava/lang/Object;")) (codes "LTop;" ∷ []) 0x1800 []
    (method (codes "name") [] (Some of_int) 0 (Some (body 2 (0x2012 ∷ 0x000f ∷ []))) ∷ [])) ∷
    linked (Some 0) [] [] (1 ∷ 2 ∷ 3 ∷ 4 ∷ 103 ∷ [])
    (class (codes "LOther;") (Some (codes "Ljava/lang/Object;")) [] 0x1800 []
    (method (codes "name") [] (Some of_int) 0 (Some (body 2 (0x3012 ∷ 0x000f ∷ []))) ∷ [])) ∷
    linked_selecting (Some 0) (34 ∷ []) [] (found (1 ∷ 2 ∷ 3 ∷ 4 ∷ []) ++ select.Abstract ∷ [])
    (class (codes "LHidden;") (Some (codes "Ljava/lang/Object;")) (codes "LTop;" ∷ []) 0x1800 []
    (method (codes "name") [] (Some of_int) 0x1000 None ∷ [])) ∷
    initialised_after (0 ∷ 34 ∷ [])
    (linked (Some 0) (34 ∷ []) [] (1 ∷ 2 ∷ 3 ∷ 4 ∷ 101 ∷ [])
    (class (codes "LPlain;") (Some (codes "Ljava/lang/Object;")) (codes "LTop;" ∷ []) 0 []
    (method (codes "<init>") [] None 0 (Some (naming [] (object_init_ref ∷ [])
    (body 1 (0x1070 ∷ 0x0000 ∷ 0x0000 ∷ 0x000e ∷ [])))) ∷ []))) ∷
    linked (Some 0) [] [] (1 ∷ 2 ∷ 3 ∷ 4 ∷ 107 ∷ [])
    (class (codes "LBase;") (Some (codes "Ljava/lang/Object;")) [] 0 []
    (method (codes "<init>") [] None 0 (Some (naming [] (object_init_ref ∷ [])
    (body 1 (0x1070 ∷ 0x0000 ∷ 0x0000 ∷ 0x000e ∷ []))))
    ∷ method (codes "name") [] (Some of_int) 0 (Some (body 2 (0x4012 ∷ 0x000f ∷ []))) ∷ [])) ∷
    initialised_after (39 ∷ 34 ∷ [])
    (linked (Some 39) (34 ∷ []) [] (1 ∷ 2 ∷ 3 ∷ 4 ∷ 107 ∷ [])
    (class (codes "LKept;") (Some (codes "LBase;")) (codes "LTop;" ∷ []) 0 []
    (method (codes "<init>") [] None 0 (Some (naming [] (method_ref (codes "LBase;") (codes "<init>") [] None ∷ [])
    (body 1 (0x1070 ∷ 0x0000 ∷ 0x0000 ∷ 0x000e ∷ [])))) ∷ []))) ∷
    initialised_after (0 ∷ 34 ∷ 35 ∷ [])
    (linked (Some 0) (34 ∷ 35 ∷ []) [] (1 ∷ 2 ∷ 3 ∷ 4 ∷ 102 ∷ [])
    (class (codes "LLower;") (Some (codes "Ljava/lang/Object;")) (codes "LTop;" ∷ codes "LMiddle;" ∷ []) 0 []
    (method (codes "<init>") [] None 0 (Some (naming [] (object_init_ref ∷ [])
    (body 1 (0x1070 ∷ 0x0000 ∷ 0x0000 ∷ 0x000e ∷ [])))) ∷ []))) ∷
    initialised_after (0 ∷ 34 ∷ 35 ∷ 36 ∷ [])
    (linked_selecting (Some 0) (35 ∷ 36 ∷ []) [] (found (1 ∷ 2 ∷ 3 ∷ 4 ∷ []) ++ select.Clash ∷ [])
    (class (codes "LBoth;") (Some (codes "Ljava/lang/Object;")) (codes "LMiddle;" ∷ codes "LOther;" ∷ []) 0 []
    (method (codes "<init>") [] None 0 (Some (naming [] (object_init_ref ∷ [])
    (body 1 (0x1070 ∷ 0x0000 ∷ 0x0000 ∷ 0x000e ∷ [])))) ∷ []))) ∷
    initialised_after (0 ∷ 34 ∷ [])
    (linked_selecting (Some 0) (37 ∷ []) [] (found (1 ∷ 2 ∷ 3 ∷ 4 ∷ []) ++ select.Abstract ∷ [])
    (class (codes "LBare;") (Some (codes "Ljava/lang/Object;")) (codes "LHidden;" ∷ []) 0 []
    (method (codes "<init>") [] None 0 (Some (naming [] (object_init_ref ∷ [])
    (body 1 (0x1070 ∷ 0x0000 ∷ 0x0000 ∷ 0x000e ∷ [])))) ∷ []))) ∷
    linked (Some 38) [] [] (1 ∷ 2 ∷ 3 ∷ 4 ∷ 113 ∷ [])
    (class (codes "LUnder;") (Some (codes "LPlain;")) [] 0 []
    (method (codes "<init>") [] None 0 (Some (naming [] (method_ref (codes "LPlain;") (codes "<init>") [] None ∷ [])
    (body 1 (0x1070 ∷ 0x0000 ∷ 0x0000 ∷ 0x000e ∷ []))))
    ∷ method (codes "name") [] (Some of_int) 0
    (Some (naming [] (method_ref (codes "LPlain;") (codes "name") [] (Some of_int) ∷ [])
    (body 2 (0x106f ∷ 0x0000 ∷ 0x0001 ∷ 0x000a ∷ 0x00d8 ∷ 0x0400 ∷ 0x000f ∷ [])))) ∷ [])) ∷ [])
    (info 33 0
    (of_class (codes "LPlain;") ∷ of_class (codes "LKept;") ∷ of_class (codes "LLower;") ∷
    of_class (codes "LUnder;") ∷ [])
    [] (105 ∷ 101 ∷ 40 ∷ 108 ∷ 107 ∷ 109 ∷ 101 ∷ 112 ∷ 113 ∷ []) ∷
    info 33 1 (of_class (codes "LBoth;") ∷ []) [] (110 ∷ 101 ∷ []) ∷
    info 33 2 (of_class (codes "LBare;") ∷ []) [] (111 ∷ 101 ∷ []) ∷
    bare 34 0 ∷
    bare 35 0 ∷
    bare 36 0 ∷
    bare 37 0 ∷
    info 38 0 [] [] (0 ∷ []) ∷
    info 39 0 [] [] (0 ∷ []) ∷
    bare 39 1 ∷
    info 40 0 [] [] (106 ∷ []) ∷
    info 41 0 [] [] (0 ∷ []) ∷
    info 42 0 [] [] (0 ∷ []) ∷
    info 43 0 [] [] (0 ∷ []) ∷
    info 44 0 [] [] (105 ∷ []) ∷
    info 44 1 [] [] (101 ∷ []) ∷ [])
    []

-- what a call of name()I on an object of the class of this number selects
abbrev pub named_by : ℕ → Select
named_by c = selected defaults c (codes "name") (record { params = []; ret = Some of_int })

-- selection
pub record Selecting : Type 0 where
  -- a default method, where the class has none
  pub default_is_found : named_by 38 ≡ select.Found (record { 0 = 101 })
  -- a superclass's method goes before an interface's
  pub superclass_goes_first : named_by 40 ≡ select.Found (record { 0 = 107 })
  -- of two defaults, that of the interface which extends the other's
  pub lower_is_found : named_by 41 ≡ select.Found (record { 0 = 102 })
  -- of two interfaces of which none extends the other
  pub two_clash : named_by 42 ≡ select.Clash
  -- an abstract method hides the default above it
  pub abstract_hides : named_by 43 ≡ select.Abstract
  -- a constructor is never selected
  pub no_constructor : selected defaults 38 (codes "<init>") no_arguments ≡ select.Abstract
  -- calls by an interface, by a class whose superclass has the method, by a class that inherits it, and by invoke-super
  pub calls_run_them : outcome defaults 98 ≡ lines (codes "1" ∷ codes "4" ∷ codes "2" ∷ codes "5" ∷ codes "#end done" ∷ [])
  -- a call that finds two
  pub clash_throws : outcome defaults 99 ≡ lines (codes "#uncaught 0 java.lang.IncompatibleClassChangeError" ∷ codes "#end done" ∷ [])
  -- a call that finds none
  pub abstract_throws : outcome defaults 100 ≡ lines (codes "#uncaught 0 java.lang.AbstractMethodError" ∷ codes "#end done" ∷ [])
  -- the program is accepted
  pub defaults_are_accepted : Accepts defaults
