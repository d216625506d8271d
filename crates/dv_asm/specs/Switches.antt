-- What is looked up of switches and payloads by an address.
use Rattle.std.specs.Prelude.{ℕ, ◌≡◌, List}
use Rattle.std.specs.Ordering.{nat_cmp}
use Rattle.std.specs.BTreeMap.{BTreeMap, get}
use Rattle.std.specs.BTreeSet.{BTreeSet, contains}
use Rattle.dv_draft.specs.declared.draft.Item.{Item}
use Rattle.dv_asm.specs.Refusals.{switch_of, stands_payload}

-- the addresses that switches name, each with the place of the first switch that names it
abbrev pub AreFirstSwitches : List Item → BTreeMap ℕ ℕ → Type 0
AreFirstSwitches items switches = (address : ℕ) → get nat_cmp switches address ≡ switch_of items address

-- the addresses at which payloads stand
abbrev pub ArePayloadAddresses : List Item → BTreeSet ℕ → Type 0
ArePayloadAddresses items payloads = (address : ℕ) → contains nat_cmp payloads address ≡ stands_payload items address
