-- What is known while the interfaces above classes are gone through, each behind those that it extends.
use Rattle.std.specs.Prelude.{◌≡◌, ℕ, zero, suc, ◌<◌, Bool, true, false, List, length, map}
use Rattle.std.specs.List.{list_all, list_any}
use Rattle.dv_defs.specs.declared.image.ClassInfo.{ClassInfo}
use Rattle.dv_defs.specs.LookUp.{interfaces_at}
use Rattle.dv_defs.specs.Order.{has_number}
use Rattle.dv_defs.specs.Prior.{is_default}
use Rattle.dv_hier.specs.Upwards.{bare}

-- from a class up, itself counted, at most so many stand above one another
abbrev pub ends_in : (ℕ → List ℕ) → ℕ → ℕ → Bool
ends_in above zero c = false
ends_in above (suc n) c = list_all (ends_in above n) (above c)

-- these are classes, and the interfaces that one of them names are among them
pub record IsClosed (infos : List ClassInfo) (cs : List ℕ) : Type 0 where
  pub range : (c : ℕ) → has_number c cs ≡ true → c < length infos
  pub above : (c d : ℕ) → has_number c cs ≡ true → has_number d (interfaces_at (bare infos) c) ≡ true → has_number d cs ≡ true

-- whether each class declares a default method
abbrev pub declarers : List ClassInfo → List Bool
declarers infos = map (λ c. list_any is_default c.def.methods) infos
