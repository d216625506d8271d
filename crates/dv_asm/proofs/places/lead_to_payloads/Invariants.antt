use Rattle.std.proofs.Common.{◌≡◌, ◌≤◌, ◌<◌, ℕ, false, length, drop, get_or, vec_len}
use Rattle.dv_asm.specs.Places.{leads_to_payload}
use Rattle.dv_asm.proofs.places.lead_to_payloads.Given as goal

abbrev pub invariant-loop-k : goal.invariant-loop-k
invariant-loop-k l =
    (vec_len l.leading ≡ length l.items)
    × (l.leads ≡ leads_to_payload (drop l.k l.items))
    × ((j : ℕ) → l.k ≤ j → j < length l.items → get_or l.leading.items j false ≡ leads_to_payload (drop j l.items))
