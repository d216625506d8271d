-- Examples: turns and seeded runs.
use Rattle.std.specs.Prelude.{◌≡◌, ℕ, ◌+◌, ◌*◌, ◌^◌, List, [], ◌∷◌, Option, Some, None, codes, slice_index_or, Ok}
use Rattle.dv_defs.specs.Images.{Image}
use Rattle.dv_defs.specs.declared.run.Entry.{Entry}
use Rattle.dv_defs.specs.Pools.{Method, method_at}
use Rattle.dv_machine.specs.State.{Reads}
use Rattle.dv_machine.specs.Replaying.{seeded_log}
use Rattle.dv_machine.specs.Seeds.{word_of, log_of_seed}
use Rattle.dv_defs.specs.Types.{of_class}
use Rattle.test_machine.specs.Images.{body, body_with, method, class, info, naming, method_ref, linked}
use Rattle.test_machine.specs.BootImage.{with_boot, with_main}
use Rattle.dv_machine.specs.Opening.{usual}
use Rattle.test_machine.specs.Outcomes.{steps}

--   .registers 0
--   nop
--   nop
--   nop
--   return-void
abbrev pub four_steps : Image
four_steps = with_main (body 0 (0x0000 ∷ 0x0000 ∷ 0x0000 ∷ 0x000e ∷ [])) [] [] []

--   .class LMain;
--   .super Ljava/lang/Object;
--   .method static main()V
--   .registers 1
--   new-instance v0, LT;
--   invoke-direct {v0}, LT;-><init>()V
--   invoke-virtual {v0}, LT;->start()V
--   return-void
--   .end method
--   .class LT;
--   .super Ljava/lang/Thread;
--   .method constructor <init>()V
--   .registers 1
--   invoke-direct {p0}, Ljava/lang/Thread;-><init>()V
--   return-void
--   .end method
--   .method run()V
--   .registers 1
--   return-void
--   .end method
abbrev pub two_threads : Image
two_threads = with_boot
    (linked (Some 0) [] [] (1 ∷ 2 ∷ 3 ∷ 4 ∷ [])
    (class (codes "LMain;") (Some (codes "Ljava/lang/Object;")) [] 0 []
    (method (codes "main") [] None 8
    (Some (naming []
    (method_ref (codes "LT;") (codes "<init>") [] None ∷ method_ref (codes "LT;") (codes "start") [] None ∷ [])
    (body_with 1 (0x0022 ∷ 0x0000 ∷ 0x1070 ∷ 0x0000 ∷ 0x0000 ∷ 0x106e ∷ 0x0001 ∷ 0x0000 ∷ 0x000e ∷ [])
    [] [] (of_class (codes "LT;") ∷ [])))) ∷ [])) ∷
    linked (Some 3) [] (0 ∷ []) (1 ∷ 2 ∷ 3 ∷ 4 ∷ 100 ∷ 9 ∷ 10 ∷ [])
    (class (codes "LT;") (Some (codes "Ljava/lang/Thread;")) [] 0 []
    (method (codes "<init>") [] None 0
    (Some (naming [] (method_ref (codes "Ljava/lang/Thread;") (codes "<init>") [] None ∷ [])
    (body 1 (0x1070 ∷ 0x0000 ∷ 0x0000 ∷ 0x000e ∷ []))))
    ∷ method (codes "run") [] None 0 (Some (body 1 (0x000e ∷ []))) ∷ [])) ∷ [])
    (info 33 0 (of_class (codes "LT;") ∷ []) [] (99 ∷ 9 ∷ []) ∷
    info 34 0 [] [] (6 ∷ []) ∷
    info 34 1 [] [] [] ∷ [])
    []

-- the first words, then 0
abbrev pub words : List ℕ → ℕ → ℕ
words ws k = slice_index_or ws k 0

abbrev pub log_by : Image → List ℕ → Option Method → Reads (List Entry)
log_by image ws None = Ok []
log_by image ws (Some m) = seeded_log (words ws) image m (record usual { budget = 100 })

abbrev pub log_of : Image → ℕ → List ℕ → Reads (List Entry)
log_of image main ws = log_by image ws (method_at image main)

abbrev pub seeded_by : Image → ℕ → Option Method → Reads (List Entry)
seeded_by image seed None = Ok []
seeded_by image seed (Some m) = log_of_seed image m usual seed

-- logs that words of a generator pick
pub record SeededRuns : Type 0 where
  -- at most two steps, one, and six: two local steps, the third, and the return
  pub turns_of_one_thread : log_of four_steps 98 (1 ∷ 0 ∷ 5 ∷ []) ≡ Ok (steps 0 2 ∷ steps 0 1 ∷ steps 0 1 ∷ [])
  -- a turn of at most 256 steps: three local ones and the return
  pub whole_in_one_turn : log_of four_steps 98 (255 ∷ []) ≡ Ok (steps 0 4 ∷ [])
  -- eight steps make and start the thread; then the thread at place 0 of two returns
  pub lowest_first :
      log_of two_threads 98 [] ≡ Ok
      (steps 0 1 ∷ steps 0 1 ∷ steps 0 1 ∷ steps 0 1 ∷ steps 0 1 ∷ steps 0 1 ∷ steps 0 1 ∷ steps 0 1 ∷ steps 0 1 ∷
      steps 1 1 ∷ [])
  -- the first words of the seed 0, as the generator's own tests have them: 18195738587432868099 as one number of 64 bits
  pub words_of_zero : word_of 0 0 + word_of 0 1 * 2 ^ 32 ≡ 18195738587432868099
  -- the first word ends in 03: a turn of at most four steps
  pub seed_zero : seeded_by four_steps 0 (method_at four_steps 98) ≡ Ok (steps 0 4 ∷ [])
  -- place 3 mod 2 of two
  pub second_first :
      log_of two_threads 98 (0 ∷ 0 ∷ 0 ∷ 0 ∷ 0 ∷ 0 ∷ 0 ∷ 0 ∷ 0x300 ∷ []) ≡ Ok
      (steps 0 1 ∷ steps 0 1 ∷ steps 0 1 ∷ steps 0 1 ∷ steps 0 1 ∷ steps 0 1 ∷ steps 0 1 ∷ steps 0 1 ∷ steps 1 1 ∷
      steps 0 1 ∷ [])
