-- Examples: the static rules, each by a raw body that breaks it.
use Rattle.std.specs.Prelude.{◌≡◌, [], ◌∷◌, Some, None, codes}
use Rattle.dv_defs.specs.Images.{Image}
use Rattle.dv_defs.specs.Types.{of_class}
use Rattle.dv_defs.specs.Pools.{no_arguments}
use Rattle.dv_defs.specs.Common.{array_of}
use Rattle.test_machine.specs.Images.{of_int, of_char, catch_type, catch_all, entry_over, body, body_with, method, field, class, info, field_info, naming, method_ref, field_ref, linked}
use Rattle.test_machine.specs.BootImage.{with_boot}
use Rattle.test_machine.specs.Passes.{faults_of, S, V}

--   .class LMain;
--   .super Ljava/lang/Object;
--   .field x:I
--   .field static y:I
--   .method static <clinit>()V
--   .registers 0
--   return-void
--   .end method
--   .method static middle()V
--   .registers 1
--   .units 0228 0013 0005 000e
--   .end method
--   .method static payload_flow()V
--   .registers 1
--   .units 0000 0000 0100 0000 0000 0000
--   .end method
--   .method static unused()V
--   .registers 0
--   .units 0000 003e
--   .end method
--   .method static cut()V
--   .registers 1
--   .units 0000 0013
--   .end method
--   .method static short_payload()V
--   .registers 1
--   .units 000e 0000 0100 0001 0000 0000
--   .end method
--   .method static ragged_nop()V
--   .registers 0
--   .units 0400
--   .end method
--   .method static float()V
--   .registers 0
--   .units 0000 00a6 0000
--   .end method
--   .method static begins_payload()V
--   .registers 0
--   .units 0100 0000 0000 0000 000e
--   .end method
--   .method static stays()V
--   .registers 0
--   .units 0028
--   .end method
--   .method static stays_far()V
--   .registers 0
--   .units 002a 0000 0000
--   .end method
--   .method static no_payload()V
--   .registers 1
--   .units 0000 002b 0003 0000 000e
--   .end method
--   .method static other_payload()V
--   .registers 1
--   .units 002b 0004 0000 000e 0300 0001 0000 0000
--   .end method
--   .method static odd_payload()V
--   .registers 0
--   .units 000e 0100 0000 0000 0000
--   .end method
--   .method static switch_middle()V
--   .registers 1
--   .units 002b 0004 0000 000e 0100 0001 0000 0000 0001 0000
--   .end method
--   .method static equal_keys()V
--   .registers 1
--   .units 002c 0004 0000 000e 0200 0002 0005 0000 0005 0000 0003 0000 0003 0000
--   .end method
--   .method static falling_keys()V
--   .registers 1
--   .units 002c 0004 0000 000e 0200 0002 0005 0000 fffb ffff 0003 0000 0003 0000
--   .end method
--   .method static last_key()V
--   .registers 1
--   .units 002b 0004 0000 000e 0100 0002 ffff 7fff 0003 0000 0003 0000
--   .end method
--   .method static register()V
--   .registers 1
--   .units 0112 000e
--   .end method
--   .method static half_outside()V
--   .registers 1
--   .units 0016 0000 000e
--   .end method
--   .method static few(II)V
--   .registers 1
--   .units 000e
--   .end method
--   .method static no_string()V
--   .registers 1
--   .units 001a 0000 000e
--   .end method
--   .method static no_long_field()V
--   .registers 1
--   .units 0061 0000 000e
--   .end method
--   .method static instance_form()V
--   .registers 1
--   .rawref LMain;->x:I
--   .units 0060 0000 000e
--   .end method
--   .method static suffix()V
--   .registers 1
--   .rawref LMain;->y:I
--   .units 0063 0000 000e
--   .end method
--   .method static not_virtual()V
--   .registers 0
--   .rawref LMain;->float()V
--   .units 006e 0000 0000 000e
--   .end method
--   .method static initialiser()V
--   .registers 0
--   .rawref LMain;-><clinit>()V
--   .units 0071 0000 0000 000e
--   .end method
--   .method static words()V
--   .registers 1
--   .rawref LMain;->float()V
--   .units 1071 0000 0000 000e
--   .end method
--   .method static interface()V
--   .registers 1
--   .rawref Ljava/lang/Runnable;
--   .units 0022 0000 000e
--   .end method
--   .method static array()V
--   .registers 1
--   .rawref [I
--   .units 0022 0000 000e
--   .end method
--   .method static primitive()V
--   .registers 1
--   .rawref I
--   .units 0022 0000 000e
--   .end method
--   .method static no_array()V
--   .registers 1
--   .rawref Ljava/lang/Object;
--   .units 0023 0000 000e
--   .end method
--   .method static chars()V
--   .registers 1
--   .rawref [C
--   .units 1024 0000 0000 000e
--   .end method
--   .method static cast()V
--   .registers 1
--   .rawref I
--   .units 001f 0000 000e
--   .end method
--   .method static empty_try()V
--   .registers 0
--   .units 0000 000e
--   .rawtry 0 0 0 all
--   .end method
--   .method static overlap()V
--   .registers 0
--   .units 0000 0000 000e
--   .rawtry 0 2 0 all
--   .rawtry 1 3 0 all
--   .end method
--   .method static ends_inside()V
--   .registers 1
--   .units 0013 0005 000e
--   .rawtry 0 1 2 all
--   .end method
--   .method static no_handler_there()V
--   .registers 0
--   .units 0000 000e
--   .rawtry 0 1 5 all
--   .end method
--   .method static no_throwable()V
--   .registers 0
--   .units 0000 000e
--   .rawtry 0 1 1 Ljava/lang/Object;
--   .end method
--   .method static all_not_last()V
--   .registers 0
--   .units 0000 000e
--   .rawtry 0 1 1 all
--   .rawtry 0 1 1 Ljava/lang/Error;
--   .end method
--   .method static several()V
--   .registers 1
--   .units 0228 0112 001a 0000 000e
--   .end method
--   .method static virtual_interface()V
--   .registers 1
--   .rawref Ljava/lang/Runnable;->run()V
--   .units 106e 0000 0000 000e
--   .end method
--   .method static super_interface()V
--   .registers 1
--   .rawref Ljava/lang/Runnable;->run()V
--   .units 106f 0000 0000 000e
--   .end method
--   .method static super_array()V
--   .registers 1
--   .rawref [I->notify()V
--   .units 106f 0000 0000 000e
--   .end method
abbrev pub raw_bodies : Image
raw_bodies = with_boot
    (linked (Some 0) [] (5 ∷ []) (1 ∷ 2 ∷ 3 ∷ 4 ∷ [])
    (class (codes "LMain;") (Some (codes "Ljava/lang/Object;")) [] 0
    (field (codes "x") of_int 0 ∷ field (codes "y") of_int 8 ∷ [])
    (method (codes "<clinit>") [] None 8 (Some (body 0 (0x000e ∷ [])))
    ∷ method (codes "middle") [] None 8 (Some (body 1 (0x0228 ∷ 0x0013 ∷ 0x0005 ∷ 0x000e ∷ [])))
    ∷ method (codes "payload_flow") [] None 8 (Some (body 1 (0x0000 ∷ 0x0000 ∷ 0x0100 ∷ 0x0000 ∷ 0x0000 ∷ 0x0000 ∷ [])))
    ∷ method (codes "unused") [] None 8 (Some (body 0 (0x0000 ∷ 0x003e ∷ [])))
    ∷ method (codes "cut") [] None 8 (Some (body 1 (0x0000 ∷ 0x0013 ∷ [])))
    ∷ method (codes "short_payload") [] None 8 (Some (body 1 (0x000e ∷ 0x0000 ∷ 0x0100 ∷ 0x0001 ∷ 0x0000 ∷ 0x0000 ∷ [])))
    ∷ method (codes "ragged_nop") [] None 8 (Some (body 0 (0x0400 ∷ [])))
    ∷ method (codes "float") [] None 8 (Some (body 0 (0x0000 ∷ 0x00a6 ∷ 0x0000 ∷ [])))
    ∷ method (codes "begins_payload") [] None 8 (Some (body 0 (0x0100 ∷ 0x0000 ∷ 0x0000 ∷ 0x0000 ∷ 0x000e ∷ [])))
    ∷ method (codes "stays") [] None 8 (Some (body 0 (0x0028 ∷ [])))
    ∷ method (codes "stays_far") [] None 8 (Some (body 0 (0x002a ∷ 0x0000 ∷ 0x0000 ∷ [])))
    ∷ method (codes "no_payload") [] None 8 (Some (body 1 (0x0000 ∷ 0x002b ∷ 0x0003 ∷ 0x0000 ∷ 0x000e ∷ [])))
    ∷ method (codes "other_payload") [] None 8 (Some (body 1 (0x002b ∷ 0x0004 ∷ 0x0000 ∷ 0x000e ∷ 0x0300 ∷ 0x0001 ∷ 0x0000 ∷ 0x0000 ∷ [])))
    ∷ method (codes "odd_payload") [] None 8 (Some (body 0 (0x000e ∷ 0x0100 ∷ 0x0000 ∷ 0x0000 ∷ 0x0000 ∷ [])))
    ∷ method (codes "switch_middle") [] None 8
    (Some (body 1 (0x002b ∷ 0x0004 ∷ 0x0000 ∷ 0x000e ∷ 0x0100 ∷ 0x0001 ∷ 0x0000 ∷ 0x0000 ∷ 0x0001 ∷ 0x0000 ∷ [])))
    ∷ method (codes "equal_keys") [] None 8
    (Some (body 1
    (0x002c ∷ 0x0004 ∷ 0x0000 ∷ 0x000e ∷ 0x0200 ∷ 0x0002 ∷ 0x0005 ∷ 0x0000 ∷ 0x0005 ∷ 0x0000 ∷ 0x0003 ∷
    0x0000 ∷ 0x0003 ∷ 0x0000 ∷ [])))
    ∷ method (codes "falling_keys") [] None 8
    (Some (body 1
    (0x002c ∷ 0x0004 ∷ 0x0000 ∷ 0x000e ∷ 0x0200 ∷ 0x0002 ∷ 0x0005 ∷ 0x0000 ∷ 0xfffb ∷ 0xffff ∷ 0x0003 ∷
    0x0000 ∷ 0x0003 ∷ 0x0000 ∷ [])))
    ∷ method (codes "last_key") [] None 8
    (Some (body 1
    (0x002b ∷ 0x0004 ∷ 0x0000 ∷ 0x000e ∷ 0x0100 ∷ 0x0002 ∷ 0xffff ∷ 0x7fff ∷ 0x0003 ∷ 0x0000 ∷ 0x0003 ∷
    0x0000 ∷ [])))
    ∷ method (codes "register") [] None 8 (Some (body 1 (0x0112 ∷ 0x000e ∷ [])))
    ∷ method (codes "half_outside") [] None 8 (Some (body 1 (0x0016 ∷ 0x0000 ∷ 0x000e ∷ [])))
    ∷ method (codes "few") (of_int ∷ of_int ∷ []) None 8 (Some (body 1 (0x000e ∷ [])))
    ∷ method (codes "no_string") [] None 8 (Some (body 1 (0x001a ∷ 0x0000 ∷ 0x000e ∷ [])))
    ∷ method (codes "no_long_field") [] None 8 (Some (body 1 (0x0061 ∷ 0x0000 ∷ 0x000e ∷ [])))
    ∷ method (codes "instance_form") [] None 8 (Some (naming (field_ref (codes "LMain;") (codes "x") of_int ∷ []) []
    (body 1 (0x0060 ∷ 0x0000 ∷ 0x000e ∷ []))))
    ∷ method (codes "suffix") [] None 8 (Some (naming (field_ref (codes "LMain;") (codes "y") of_int ∷ []) []
    (body 1 (0x0063 ∷ 0x0000 ∷ 0x000e ∷ []))))
    ∷ method (codes "not_virtual") [] None 8
    (Some (naming [] (method_ref (codes "LMain;") (codes "float") [] None ∷ [])
    (body 0 (0x006e ∷ 0x0000 ∷ 0x0000 ∷ 0x000e ∷ []))))
    ∷ method (codes "initialiser") [] None 8
    (Some (naming [] (method_ref (codes "LMain;") (codes "<clinit>") [] None ∷ [])
    (body 0 (0x0071 ∷ 0x0000 ∷ 0x0000 ∷ 0x000e ∷ []))))
    ∷ method (codes "words") [] None 8 (Some (naming [] (method_ref (codes "LMain;") (codes "float") [] None ∷ [])
    (body 1 (0x1071 ∷ 0x0000 ∷ 0x0000 ∷ 0x000e ∷ []))))
    ∷ method (codes "interface") [] None 8
    (Some (body_with 1 (0x0022 ∷ 0x0000 ∷ 0x000e ∷ []) [] [] (of_class (codes "Ljava/lang/Runnable;") ∷ [])))
    ∷ method (codes "array") [] None 8 (Some (body_with 1 (0x0022 ∷ 0x0000 ∷ 0x000e ∷ []) [] [] (array_of of_int ∷ [])))
    ∷ method (codes "primitive") [] None 8 (Some (body_with 1 (0x0022 ∷ 0x0000 ∷ 0x000e ∷ []) [] [] (of_int ∷ [])))
    ∷ method (codes "no_array") [] None 8
    (Some (body_with 1 (0x0023 ∷ 0x0000 ∷ 0x000e ∷ []) [] [] (of_class (codes "Ljava/lang/Object;") ∷ [])))
    ∷ method (codes "chars") [] None 8 (Some (body_with 1 (0x1024 ∷ 0x0000 ∷ 0x0000 ∷ 0x000e ∷ []) [] [] (array_of of_char ∷ [])))
    ∷ method (codes "cast") [] None 8 (Some (body_with 1 (0x001f ∷ 0x0000 ∷ 0x000e ∷ []) [] [] (of_int ∷ [])))
    ∷ method (codes "empty_try") [] None 8 (Some (body_with 0 (0x0000 ∷ 0x000e ∷ []) (entry_over 0 0 (catch_all 0 ∷ []) ∷ []) [] []))
    ∷ method (codes "overlap") [] None 8
    (Some (body_with 0 (0x0000 ∷ 0x0000 ∷ 0x000e ∷ [])
    (entry_over 0 2 (catch_all 0 ∷ []) ∷ entry_over 1 3 (catch_all 0 ∷ []) ∷ []) [] []))
    ∷ method (codes "ends_inside") [] None 8
    (Some (body_with 1 (0x0013 ∷ 0x0005 ∷ 0x000e ∷ []) (entry_over 0 1 (catch_all 2 ∷ []) ∷ []) [] []))
    ∷ method (codes "no_handler_there") [] None 8 (Some (body_with 0 (0x0000 ∷ 0x000e ∷ []) (entry_over 0 1 (catch_all 5 ∷ []) ∷ []) [] []))
    ∷ method (codes "no_throwable") [] None 8
    (Some (body_with 0 (0x0000 ∷ 0x000e ∷ []) (entry_over 0 1 (catch_type 0 1 ∷ []) ∷ [])
    [] (of_class (codes "Ljava/lang/Object;") ∷ [])))
    ∷ method (codes "all_not_last") [] None 8
    (Some (body_with 0 (0x0000 ∷ 0x000e ∷ []) (entry_over 0 1 (catch_all 1 ∷ catch_type 0 1 ∷ []) ∷ [])
    [] (of_class (codes "Ljava/lang/Error;") ∷ [])))
    ∷ method (codes "several") [] None 8 (Some (body 1 (0x0228 ∷ 0x0112 ∷ 0x001a ∷ 0x0000 ∷ 0x000e ∷ [])))
    ∷ method (codes "virtual_interface") [] None 8
    (Some (naming [] (method_ref (codes "Ljava/lang/Runnable;") (codes "run") [] None ∷ [])
    (body 1 (0x106e ∷ 0x0000 ∷ 0x0000 ∷ 0x000e ∷ []))))
    ∷ method (codes "super_interface") [] None 8
    (Some (naming [] (method_ref (codes "Ljava/lang/Runnable;") (codes "run") [] None ∷ [])
    (body 1 (0x106f ∷ 0x0000 ∷ 0x0000 ∷ 0x000e ∷ []))))
    ∷ method (codes "super_array") [] None 8
    (Some (naming [] (record { class = array_of of_int; name = codes "notify"; proto = no_arguments } ∷ [])
    (body 1 (0x106f ∷ 0x0000 ∷ 0x0000 ∷ 0x000e ∷ [])))) ∷ [])) ∷ [])
    (info 33 0 [] [] [] ∷
    info 33 1 [] [] [] ∷
    info 33 2 [] [] [] ∷
    info 33 3 [] [] [] ∷
    info 33 4 [] [] [] ∷
    info 33 5 [] [] [] ∷
    info 33 6 [] [] [] ∷
    info 33 7 [] [] [] ∷
    info 33 8 [] [] [] ∷
    info 33 9 [] [] [] ∷
    info 33 10 [] [] [] ∷
    info 33 11 [] [] [] ∷
    info 33 12 [] [] [] ∷
    info 33 13 [] [] [] ∷
    info 33 14 [] [] [] ∷
    info 33 15 [] [] [] ∷
    info 33 16 [] [] [] ∷
    info 33 17 [] [] [] ∷
    info 33 18 [] [] [] ∷
    info 33 19 [] [] [] ∷
    info 33 20 [] [] [] ∷
    info 33 21 [] [] [] ∷
    info 33 22 [] [] [] ∷
    info 33 23 [] (5 ∷ []) [] ∷
    info 33 24 [] (6 ∷ []) [] ∷
    info 33 25 [] [] (105 ∷ []) ∷
    info 33 26 [] [] (98 ∷ []) ∷
    info 33 27 [] [] (105 ∷ []) ∷
    info 33 28 (of_class (codes "Ljava/lang/Runnable;") ∷ []) [] [] ∷
    info 33 29 (array_of of_int ∷ []) [] [] ∷
    info 33 30 (of_int ∷ []) [] [] ∷
    info 33 31 (of_class (codes "Ljava/lang/Object;") ∷ []) [] [] ∷
    info 33 32 (array_of of_char ∷ []) [] [] ∷
    info 33 33 (of_int ∷ []) [] [] ∷
    info 33 34 [] [] [] ∷
    info 33 35 [] [] [] ∷
    info 33 36 [] [] [] ∷
    info 33 37 [] [] [] ∷
    info 33 38 (of_class (codes "Ljava/lang/Object;") ∷ []) [] [] ∷
    info 33 39 (of_class (codes "Ljava/lang/Error;") ∷ []) [] [] ∷
    info 33 40 [] [] [] ∷
    info 33 41 [] [] (5 ∷ []) ∷
    info 33 42 [] [] (5 ∷ []) ∷
    info 33 43 [] [] (3 ∷ []) ∷ [])
    (field_info 33 0 0 ∷ field_info 33 1 0 ∷ [])

-- each static rule, where it is broken
pub record StaticRules : Type 0 where
  -- S4: a goto into the middle of an instruction
  pub static_middle : faults_of raw_bodies 99 ≡ S 4 0x0 ∷ []
  -- V1: control runs into a payload
  pub static_payload_flow : faults_of raw_bodies 100 ≡ V 1 0x1 ∷ []
  -- S1: an unused opcode
  pub static_unused : faults_of raw_bodies 101 ≡ S 1 0x1 ∷ []
  -- S1: the units end inside an instruction
  pub static_cut : faults_of raw_bodies 102 ≡ S 1 0x1 ∷ []
  -- S1: the units end inside a payload
  pub static_short_payload : faults_of raw_bodies 103 ≡ S 1 0x2 ∷ []
  -- S1: the high byte of nop is 0 but in a payload
  pub static_ragged_nop : faults_of raw_bodies 104 ≡ S 1 0x0 ∷ []
  -- S2: a float opcode
  pub static_float : faults_of raw_bodies 105 ≡ S 2 0x1 ∷ []
  -- S3: address 0 holds a payload
  pub static_begins_payload : faults_of raw_bodies 106 ≡ S 3 0x0 ∷ []
  -- S5: a goto that stays where it is
  pub static_stays : faults_of raw_bodies 107 ≡ S 5 0x0 ∷ []
  -- only goto/32 may
  pub static_stays_far : faults_of raw_bodies 108 ≡ []
  -- S6: no payload at the target
  pub static_no_payload : faults_of raw_bodies 109 ≡ S 6 0x1 ∷ []
  -- S6: a payload of another kind
  pub static_other_payload : faults_of raw_bodies 110 ≡ S 6 0x0 ∷ []
  -- S7: a payload at an odd address
  pub static_odd_payload : faults_of raw_bodies 111 ≡ S 7 0x1 ∷ []
  -- S8: a switch into the middle of an instruction
  pub static_switch_middle : faults_of raw_bodies 112 ≡ S 8 0x0 ∷ []
  -- S9: two equal keys
  pub static_equal_keys : faults_of raw_bodies 113 ≡ S 9 0x4 ∷ []
  -- S9: keys rise as signed numbers
  pub static_falling_keys : faults_of raw_bodies 114 ≡ S 9 0x4 ∷ []
  -- S10: the last key passes 2147483647
  pub static_last_key : faults_of raw_bodies 115 ≡ S 10 0x4 ∷ []
  -- S11: register 1 of 1
  pub static_register : faults_of raw_bodies 116 ≡ S 11 0x0 ∷ []
  -- S11: the second of a pair
  pub static_half_outside : faults_of raw_bodies 117 ≡ S 11 0x0 ∷ []
  -- S11: fewer registers than argument words
  pub static_few : faults_of raw_bodies 118 ≡ S 11 0x0 ∷ []
  -- S12: no string in the pool
  pub static_no_string : faults_of raw_bodies 119 ≡ S 12 0x0 ∷ []
  -- S11 and S12: no field in the pool, and the pair is out of range all the same
  pub static_no_long_field : faults_of raw_bodies 120 ≡ S 11 0x0 ∷ S 12 0x0 ∷ []
  -- S13: sget of an instance field
  pub static_instance_form : faults_of raw_bodies 121 ≡ S 13 0x0 ∷ []
  -- S13: sget-boolean of an int
  pub static_suffix : faults_of raw_bodies 122 ≡ S 13 0x0 ∷ []
  -- S14: invoke-virtual of a static method
  pub static_not_virtual : faults_of raw_bodies 123 ≡ S 14 0x0 ∷ []
  -- S14: invoke-static of an initialiser
  pub static_initialiser : faults_of raw_bodies 124 ≡ S 14 0x0 ∷ []
  -- S14: invoke-virtual by the name of an interface
  pub static_virtual_interface : faults_of raw_bodies 139 ≡ S 14 0x0 ∷ []
  -- S14: invoke-super by the name of an interface
  pub static_super_interface : faults_of raw_bodies 140 ≡ S 14 0x0 ∷ []
  -- S14: invoke-super by an array type
  pub static_super_array : faults_of raw_bodies 141 ≡ S 14 0x0 ∷ []
  -- S15: one word for a method that takes none
  pub static_words : faults_of raw_bodies 125 ≡ S 15 0x0 ∷ []
  -- S16: new-instance of an interface
  pub static_interface : faults_of raw_bodies 126 ≡ S 16 0x0 ∷ []
  -- S16: new-instance of an array
  pub static_array : faults_of raw_bodies 127 ≡ S 16 0x0 ∷ []
  -- S16: new-instance of a primitive type
  pub static_primitive : faults_of raw_bodies 128 ≡ S 16 0x0 ∷ []
  -- S16: new-array of no array
  pub static_no_array : faults_of raw_bodies 129 ≡ S 16 0x0 ∷ []
  -- S16: filled-new-array of chars
  pub static_chars : faults_of raw_bodies 130 ≡ S 16 0x0 ∷ []
  -- S16: check-cast to a primitive type
  pub static_cast : faults_of raw_bodies 131 ≡ S 16 0x0 ∷ []
  -- S17: an entry that covers nothing
  pub static_empty_try : faults_of raw_bodies 132 ≡ S 17 0x0 ∷ []
  -- S17: an entry that begins before the one before it ends
  pub static_overlap : faults_of raw_bodies 133 ≡ S 17 0x1 ∷ []
  -- S17: an entry that ends inside an instruction
  pub static_ends_inside : faults_of raw_bodies 134 ≡ S 17 0x0 ∷ []
  -- S18: a handler that is no instruction
  pub static_no_handler_there : faults_of raw_bodies 135 ≡ S 18 0x0 ∷ []
  -- S18: a handler of a type that is no Throwable
  pub static_no_throwable : faults_of raw_bodies 136 ≡ S 18 0x0 ∷ []
  -- S18: a catch-all before another handler
  pub static_all_not_last : faults_of raw_bodies 137 ≡ S 18 0x0 ∷ []
  -- by address, then by rule
  pub static_several : faults_of raw_bodies 138 ≡ S 11 0x1 ∷ S 12 0x2 ∷ []
