-- Examples: where the machine is stuck.
use Rattle.std.specs.Prelude.{◌≡◌, [], ◌∷◌, codes}
use Rattle.dv_defs.specs.Images.{Image}
use Rattle.dv_defs.specs.Types.{of_class}
use Rattle.test_machine.specs.Images.{body, body_with, naming, println_ref, object_init_ref}
use Rattle.test_machine.specs.BootImage.{with_main}
use Rattle.test_machine.specs.Outcomes.{outcome}

--   .registers 1
--   invoke-static {v0}, Ldvm/Console;->println(I)V
--   return-void
abbrev pub undefined : Image
undefined = with_main (naming [] (println_ref ∷ [])
    (body 1 (0x1071 ∷ 0x0000 ∷ 0x0000 ∷ 0x000e ∷ []))) [] [] (40 ∷ [])

--   .registers 3
--   const-wide/16 v0, 0x7
--   const/4 v1, 0x1
--   long-to-int v2, v0
--   return-void
abbrev pub broken : Image
broken = with_main (body 3 (0x0016 ∷ 0x0007 ∷ 0x1112 ∷ 0x0284 ∷ 0x000e ∷ [])) [] [] []

--   .registers 2
--   const-wide/16 v0, 0x7
--   invoke-static {v0}, Ldvm/Console;->println(I)V
--   return-void
abbrev pub half : Image
half = with_main (naming [] (println_ref ∷ [])
    (body 2 (0x0016 ∷ 0x0007 ∷ 0x1071 ∷ 0x0000 ∷ 0x0000 ∷ 0x000e ∷ []))) [] [] (40 ∷ [])

--   .registers 2
--   new-instance v0, Ljava/lang/Object;
--   instance-of v1, v0, Ljava/lang/Object;
--   return-void
abbrev pub uninitialised : Image
uninitialised =
    with_main
    (body_with 2 (0x0022 ∷ 0x0000 ∷ 0x0120 ∷ 0x0000 ∷ 0x000e ∷ []) [] []
    (of_class (codes "Ljava/lang/Object;") ∷ []))
    (of_class (codes "Ljava/lang/Object;") ∷ []) [] []

--   .registers 2
--   const-string v0, ""
--   invoke-static {v0}, Ldvm/Console;->println(I)V
--   return-void
abbrev pub reference : Image
reference = with_main (naming [] (println_ref ∷ [])
    (body_with 2 (0x001a ∷ 0x0000 ∷ 0x1071 ∷ 0x0000 ∷ 0x0000 ∷ 0x000e ∷ []) [] ([] ∷ []) [])) [] [] (40 ∷ [])

--   .registers 2
--   const/4 v0, 0x1
--   instance-of v1, v0, Ljava/lang/Object;
--   return-void
abbrev pub number : Image
number =
    with_main
    (body_with 2 (0x1012 ∷ 0x0120 ∷ 0x0000 ∷ 0x000e ∷ []) [] [] (of_class (codes "Ljava/lang/Object;") ∷ []))
    (of_class (codes "Ljava/lang/Object;") ∷ []) [] []

--   .registers 2
--   const/4 v0, 0x1
--   const-string v1, ""
--   if-eq v0, v1, :a
--   nop
--   :a
--   return-void
abbrev pub mixing : Image
mixing = with_main (body_with 2 (0x1012 ∷ 0x011a ∷ 0x0000 ∷ 0x1032 ∷ 0x0003 ∷ 0x0000 ∷ 0x000e ∷ []) [] ([] ∷ []) []) [] [] []

--   .registers 1
--   move-result v0
--   return-void
abbrev pub resultless : Image
resultless = with_main (body 1 (0x000a ∷ 0x000e ∷ [])) [] [] []

--   .registers 1
--   move-exception v0
--   return-void
abbrev pub uncaught_program : Image
uncaught_program = with_main (body 1 (0x000d ∷ 0x000e ∷ [])) [] [] []

--   .registers 1
--   nop
abbrev pub falls_off : Image
falls_off = with_main (body 1 (0x0000 ∷ [])) [] [] []

--   .registers 1
--   new-instance v0, Ljava/lang/Object;
--   invoke-direct {v0}, Ljava/lang/Object;-><init>()V
--   invoke-direct {v0}, Ljava/lang/Object;-><init>()V
--   return-void
abbrev pub twice : Image
twice =
    with_main
    (naming [] (object_init_ref ∷ [])
    (body_with 1 (0x0022 ∷ 0x0000 ∷ 0x1070 ∷ 0x0000 ∷ 0x0000 ∷ 0x1070 ∷ 0x0000 ∷ 0x0000 ∷ 0x000e ∷ []) [] []
    (of_class (codes "Ljava/lang/Object;") ∷ [])))
    (of_class (codes "Ljava/lang/Object;") ∷ []) [] (0 ∷ [])

-- each reason for which the machine is stuck, on code that the verifier refuses
pub record StuckReasons : Type 0 where
  -- a register that was never written
  pub undefined_is_stuck : outcome undefined 98 ≡ codes "stuck: undefined register"
  -- a long whose high half was overwritten
  pub broken_is_stuck : outcome broken 98 ≡ codes "stuck: broken pair"
  -- half of a long as an int
  pub half_is_stuck : outcome half 98 ≡ codes "stuck: broken pair"
  -- an object that no constructor has initialised
  pub uninitialised_is_stuck : outcome uninitialised 98 ≡ codes "stuck: uninitialised use"
  -- a reference as an int
  pub reference_is_stuck : outcome reference 98 ≡ codes "stuck: wrong reference"
  -- a number as a reference
  pub number_is_stuck : outcome number 98 ≡ codes "stuck: wrong reference"
  -- a number compared with a reference
  pub mixing_is_stuck : outcome mixing 98 ≡ codes "stuck: wrong reference"
  -- no result is pending
  pub resultless_is_stuck : outcome resultless 98 ≡ codes "stuck: no result"
  -- no exception was caught
  pub uncaught_is_stuck : outcome uncaught_program 98 ≡ codes "stuck: no pending exception"
  -- control fell off the end
  pub falls_off_is_stuck : outcome falls_off 98 ≡ codes "stuck: no instruction here"
  -- a constructor is called twice
  pub twice_is_stuck : outcome twice 98 ≡ codes "stuck: uninitialised use"
