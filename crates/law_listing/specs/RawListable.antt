-- Raw bodies that can be printed so that they are read again.
use Rattle.std.specs.Prelude.{◌≡◌, ◌^◌, ◌<◌, not, Bool, true, false, IsTrue, bytes_eq, List, [], ◌∷◌, length, All}
use Rattle.std.specs.List.{list_all}
use Rattle.dv_defs.specs.declared.code.Handler.{Handler}
use Rattle.dv_defs.specs.declared.code.Try.{Try}
use Rattle.dv_defs.specs.Body.{BodyValue, IsBody}
use Rattle.dv_defs.specs.Spelling.{AreUnits}
use Rattle.dv_defs.specs.Types.{ty_eq}
use Rattle.dv_defs.specs.Types.{field_eq, method_eq}
use Rattle.dv_coderead.specs.RawDrafting.{have_same_range}
use Rattle.law_listing.specs.Listable.{AreStringUnits, IsTypeText, IsFieldText, IsMethodText}

-- no entry stands again behind itself
abbrev pub AreApart : {X : Type 0} → (X → X → Bool) → List X → Type 0
AreApart eq [] = Unit {0}
AreApart eq (x ∷ xs) = IsTrue (list_all (λ y. not (eq y x)) xs) × AreApart eq xs

-- an entry with one handler or more, and addresses of 32 bits
pub record IsTryEntry (t : Try) : Type 0 where
  pub start : t.start < 2 ^ 32
  pub end : t.end < 2 ^ 32
  pub some : 0 < length t.handlers
  pub handlers : All (λ (h : Handler). h.at < 2 ^ 32) t.handlers

-- the next entry has another range
abbrev pub IsApartFrom : Try → List Try → Type 0
IsApartFrom t [] = Unit {0}
IsApartFrom t (u ∷ us) = have_same_range t u ≡ false

abbrev pub AreTryEntries : List Try → Type 0
AreTryEntries [] = Unit {0}
AreTryEntries (t ∷ ts) = IsTryEntry t × IsApartFrom t ts × AreTryEntries ts

-- a raw body whose pools have each entry once, and whose neighbouring try entries have different ranges
pub record IsListedRaw (b : BodyValue) : Type 0 where
  pub raw : b.raw ≡ true
  pub body : IsBody b.registers b.units b.tries b.types
  pub units : AreUnits b.units
  pub strings : All AreStringUnits b.strings
  pub types : All IsTypeText b.types
  pub fields : All IsFieldText b.fields
  pub methods : All IsMethodText b.methods
  pub strings_apart : AreApart bytes_eq b.strings
  pub types_apart : AreApart ty_eq b.types
  pub fields_apart : AreApart field_eq b.fields
  pub methods_apart : AreApart method_eq b.methods
  pub tries : AreTryEntries b.tries
