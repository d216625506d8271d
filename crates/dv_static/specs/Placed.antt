-- Broken rules with their addresses as the code has them.
use Rattle.std.specs.Prelude.{ℕ, true, false, List, map}
use Rattle.dv_defs.specs.declared.faults.Rule.{Rule}
use Rattle.dv_defs.specs.declared.faults.Rule.TheVariants as rule
use Rattle.dv_typing.specs.Accepting as accepting
use Rattle.dv_static.specs.declared.places.Place.{Place}
use Rattle.dv_static.specs.declared.places.Order.{Order}

abbrev pub place_of : Place → accepting.Place
place_of p = record { at = p.at; broken = p.rule }

abbrev pub places_of : List Place → List accepting.Place
places_of ps = map place_of ps

-- what a place is ordered by: the address, then whether the rule is one of typing, then its number
abbrev pub order_by : ℕ → Rule → Order
order_by at (rule.S n) = record { address = at; typing = false; number = n }
order_by at (rule.V n) = record { address = at; typing = true; number = n }

abbrev pub order_of : Place → Order
order_of p = order_by p.at p.rule
