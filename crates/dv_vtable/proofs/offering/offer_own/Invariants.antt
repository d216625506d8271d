use Rattle.std.proofs.Common.{◌≡◌, ◌+◌, drop}
use Rattle.dv_vtable.specs.Numbered.{numbers_of}
use Rattle.dv_vtable.specs.Offers.{offered_numbers}
use Rattle.dv_vtable.proofs.offering.offer_own.Given as goal

abbrev pub invariant-loop-place : goal.invariant-loop-place
invariant-loop-place l =
    (l.offers.count ≡ l.initial.offers.count)
    × (offered_numbers (numbers_of l.chain.entries) l.offers.entries (l.first + l.place) (drop l.place l.own)
    ≡ offered_numbers (numbers_of l.chain.entries) l.initial.offers.entries l.first l.own)
