-- The image of the boot classes and a program, as linking makes it: the boot classes' methods and fields by number.
use Rattle.std.specs.Prelude.{ℕ, ◌++◌, List, [], ◌∷◌, Some, None, codes}
use Rattle.dv_defs.specs.declared.names.Ty.{Ty}
use Rattle.dv_defs.specs.declared.code.Body.{Body}
use Rattle.dv_defs.specs.Images.{Image}
use Rattle.dv_defs.specs.declared.image.ClassInfo.{ClassInfo}
use Rattle.dv_defs.specs.declared.image.FieldInfo.{FieldInfo}
use Rattle.dv_defs.specs.declared.image.MethodInfo.{MethodInfo}
use Rattle.dv_defs.specs.Common.{array_of}
use Rattle.test_machine.specs.Images.{of_char, method, class, linked, info, bare, field_info}
use Rattle.test_machine.specs.BootClasses.{boot_classes}

-- by number, from 0
abbrev pub boot_methods : List MethodInfo
boot_methods =
    info 0 0 [] [] [] ∷
    info 0 1 [] [] [] ∷
    bare 0 2 ∷
    bare 0 3 ∷
    bare 0 4 ∷
    bare 1 0 ∷
    info 3 0 [] [] (0 ∷ []) ∷
    info 3 1 [] (0 ∷ []) (0 ∷ []) ∷
    info 3 2 [] (0 ∷ []) (5 ∷ []) ∷
    bare 3 3 ∷
    bare 3 4 ∷
    bare 3 5 ∷
    bare 4 0 ∷
    bare 4 1 ∷
    bare 4 2 ∷
    bare 4 3 ∷
    info 4 4 [] [] [] ∷
    info 5 0 [] (1 ∷ []) (0 ∷ []) ∷
    info 5 1 [] (1 ∷ []) (0 ∷ 12 ∷ []) ∷
    info 5 2 [] (1 ∷ []) (15 ∷ []) ∷
    info 5 3 [] [] (37 ∷ 19 ∷ []) ∷
    info 5 4 [] [] (37 ∷ 19 ∷ []) ∷
    info 5 5 (array_of of_char ∷ []) [] (38 ∷ 19 ∷ []) ∷
    info 5 6 [] [] (19 ∷ []) ∷
    info 5 7 [] (1 ∷ []) [] ∷
    info 5 8 [] (1 ∷ []) (12 ∷ []) ∷
    info 7 0 [] [] (39 ∷ []) ∷
    info 7 1 [] [] (39 ∷ []) ∷
    info 7 2 [] [] (37 ∷ 39 ∷ []) ∷
    info 7 3 [] [] (37 ∷ 39 ∷ []) ∷
    info 7 4 (array_of of_char ∷ []) [] (38 ∷ 39 ∷ []) ∷
    info 7 5 [] [] (39 ∷ []) ∷
    info 7 6 [] [] (15 ∷ 39 ∷ []) ∷
    info 7 7 [] [] (37 ∷ 15 ∷ 39 ∷ []) ∷
    info 7 8 [] [] (37 ∷ 15 ∷ 39 ∷ []) ∷
    info 7 9 (array_of of_char ∷ []) [] (38 ∷ 15 ∷ 39 ∷ []) ∷
    info 7 10 [] [] (15 ∷ 39 ∷ []) ∷
    bare 8 0 ∷
    bare 8 1 ∷
    bare 9 0 ∷
    bare 9 1 ∷
    info 10 0 [] [] (0 ∷ []) ∷
    info 10 1 [] (3 ∷ []) (0 ∷ []) ∷
    info 10 2 [] (3 ∷ 4 ∷ []) (0 ∷ []) ∷
    info 10 3 [] (4 ∷ []) (0 ∷ []) ∷
    info 10 4 [] (3 ∷ []) [] ∷
    info 10 5 [] (4 ∷ []) [] ∷
    info 11 0 [] [] (41 ∷ []) ∷
    info 11 1 [] [] (42 ∷ []) ∷
    info 11 2 [] [] (43 ∷ []) ∷
    info 11 3 [] [] (44 ∷ []) ∷
    info 12 0 [] [] (41 ∷ []) ∷
    info 12 1 [] [] (42 ∷ []) ∷
    info 12 2 [] [] (43 ∷ []) ∷
    info 12 3 [] [] (44 ∷ []) ∷
    info 13 0 [] [] (47 ∷ []) ∷
    info 13 1 [] [] (48 ∷ []) ∷
    info 13 2 [] [] (49 ∷ []) ∷
    info 13 3 [] [] (50 ∷ []) ∷
    info 14 0 [] [] (47 ∷ []) ∷
    info 14 1 [] [] (48 ∷ []) ∷
    info 15 0 [] [] (55 ∷ []) ∷
    info 15 1 [] [] (56 ∷ []) ∷
    info 16 0 [] [] (55 ∷ []) ∷
    info 16 1 [] [] (56 ∷ []) ∷
    info 17 0 [] [] (55 ∷ []) ∷
    info 17 1 [] [] (56 ∷ []) ∷
    info 18 0 [] [] (55 ∷ []) ∷
    info 18 1 [] [] (56 ∷ []) ∷
    info 19 0 [] [] (55 ∷ []) ∷
    info 19 1 [] [] (56 ∷ []) ∷
    info 20 0 [] [] (55 ∷ []) ∷
    info 20 1 [] [] (56 ∷ []) ∷
    info 21 0 [] [] (55 ∷ []) ∷
    info 21 1 [] [] (56 ∷ []) ∷
    info 22 0 [] [] (55 ∷ []) ∷
    info 22 1 [] [] (56 ∷ []) ∷
    info 23 0 [] [] (73 ∷ []) ∷
    info 23 1 [] [] (74 ∷ []) ∷
    info 24 0 [] [] (75 ∷ []) ∷
    info 24 1 [] [] (76 ∷ []) ∷
    info 25 0 [] [] (51 ∷ []) ∷
    info 25 1 [] [] (52 ∷ []) ∷
    info 26 0 [] [] (51 ∷ []) ∷
    info 26 1 [] [] (52 ∷ []) ∷
    info 27 0 [] [] (81 ∷ []) ∷
    info 27 1 [] [] (82 ∷ []) ∷
    info 28 0 [] [] (81 ∷ []) ∷
    info 28 1 [] [] (82 ∷ []) ∷
    info 28 2 [] (4 ∷ []) (81 ∷ []) ∷
    info 29 0 [] [] (81 ∷ []) ∷
    info 29 1 [] [] (82 ∷ []) ∷
    info 30 0 [] [] (90 ∷ []) ∷
    info 30 1 [] [] (91 ∷ []) ∷
    info 31 0 [] [] (83 ∷ []) ∷
    info 31 1 [] [] (84 ∷ []) ∷
    info 32 0 [] [] (83 ∷ []) ∷
    info 32 1 [] [] (84 ∷ []) ∷ []

-- likewise
abbrev pub boot_fields : List FieldInfo
boot_fields = field_info 3 0 0 ∷ field_info 5 0 0 ∷ field_info 6 0 0 ∷ field_info 10 0 0 ∷ field_info 10 1 1 ∷ []

-- a program's classes, methods and fields after the boot classes
abbrev pub with_boot : List ClassInfo → List MethodInfo → List FieldInfo → Image
with_boot classes methods fields =
    record {
      classes = boot_classes ++ classes;
      methods = boot_methods ++ methods;
      fields = boot_fields ++ fields;
      boot = 33;
    }

-- with a class Main whose only member is a static main()V of this body, which names these types, fields and methods
abbrev pub with_main : Body → List Ty → List ℕ → List ℕ → Image
with_main b types fields methods =
    with_boot (linked (Some 0) [] [] (1 ∷ 2 ∷ 3 ∷ 4 ∷ [])
    (class (codes "LMain;") (Some (codes "Ljava/lang/Object;")) [] 0 [] (method (codes "main") [] None 8 (Some b) ∷ [])) ∷ [])
    (info 33 0 types fields methods ∷ []) []
