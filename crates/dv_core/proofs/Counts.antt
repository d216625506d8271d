-- No monitor is counted further than the steps done.
use Rattle.std.proofs.Common.{ℕ, ◌≤◌, Bool, true, false, List, [], ◌∷◌, Option, Some, None, All, arith}
use Rattle.std.specs.Prelude.{nat_eq}
use Rattle.std.proofs.lemmas.List.Elements.{All-head, All-tail}
use Rattle.dv_machine.specs.Monitors.{Held, Monitors, held_in}
use Rattle.dv_machine.specs.State.{Thread}
use Rattle.dv_machine.specs.WellTyped.{HeldFine}
use Rattle.dv_monitor.specs.State.{count_of}

abbrev count_in : Option Held → ℕ
count_in q = elim q [ None ↦ 0 | Some h ↦ h.count ]

counts_in : (threads : List Thread) (steps : ℕ) (hs : List Held) (o : ℕ) → All (HeldFine threads steps) hs → count_in (held_in hs o) ≤ steps
counts_in threads steps [] o all = omega arith
counts_in threads steps (h ∷ hs) o all = one (nat_eq h.object o) (counts_in threads steps hs o (All-tail (HeldFine threads steps) h hs all))
  where
    one : (b : Bool) → count_in (held_in hs o) ≤ steps → count_in (elim b as (λ z. Option Held) [ true ↦ Some h | false ↦ held_in hs o ]) ≤ steps
    one true rest = (All-head (HeldFine threads steps) h hs all).high
    one false rest = rest

pub counts : (threads : List Thread) (steps : ℕ) (ms : Monitors) (o : ℕ) → All (HeldFine threads steps) ms.held → count_of ms o ≤ steps
counts threads steps ms o all = counts_in threads steps ms.held o all
