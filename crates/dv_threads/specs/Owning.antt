-- A step that is tried: it is done where nothing holds the thread up; where something does, all is as before.
use Rattle.std.specs.Prelude.{◌≡◌, Bool, true, false, Option, Some, None, Result, Ok, Err}
use Rattle.std.specs.declared.alloc.AllocError.{AllocError}
use Rattle.dv_defs.specs.declared.run.Next.{Next}
use Rattle.dv_machine.specs.State.{Did}
use Rattle.dv_words.specs.Answering.{Leads}
use Rattle.dv_words.specs.Steps.{Left}

-- where the thread is free the answer is that of this step; else there is none, and all stays; so it does where memory was wanting
abbrev pub TriesTo : Result (Option Next) AllocError → Bool → Did Left → (Left → Type 0) → Type 0 → Type 0
TriesTo (Ok (Some answer)) free step leaves stays = (free ≡ true) × Leads {E = AllocError} (Ok answer) step leaves stays
TriesTo (Ok None) free step leaves stays = (free ≡ false) × stays
TriesTo (Err memory) free step leaves stays = stays
