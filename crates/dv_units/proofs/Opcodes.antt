-- What the tables of opcodes say, by computation.
use Rattle.std.proofs.Common.{◌≡◌, ℕ, ◌<◌, Bool, true, false, not, ◌&&◌, ◌||◌, Option, Some, None, is_some, is_none, refl, ◌⊎◌, inl, inr}
use Rattle.std.specs.Prelude.{option_map}
use Rattle.std.proofs.lemmas.Bool.{agree_below_at}
use Rattle.dv_defs.specs.Formats as formats
use Rattle.dv_defs.specs.Formats.{format_at, is_float, is_unused}
use Rattle.dv_defs.specs.Families.{family_at}
use Rattle.dv_optable.specs.Table as table
use Rattle.dv_optable.specs.Table.{entry_at}
use Rattle.dv_optable.proofs.Rows.{agree}
use Rattle.dv_units.specs.Tables.{standard, standard_family, FormatsAgree, FamiliesAgree, FloatsAgree}

pub formats_agree : FormatsAgree
unfolding format_at table.format_at entry_at table.table
formats_agree op h = agree (λ n. option_map standard (table.format_at n)) format_at 256 op refl h

pub families_agree : FamiliesAgree
unfolding table.family_at entry_at table.table
families_agree op h = agree (λ n. option_map standard_family (table.family_at n)) family_at 256 op refl h

pub floats_agree : FloatsAgree
unfolding is_float table.is_float
floats_agree op h = agree_below_at table.is_float is_float 256 op refl h

-- an opcode is unused, a float's, or one with a format
abbrev pub IsOneOf : Bool → Bool → Option formats.Format → Type 0
IsOneOf unused float format =
    (((unused ≡ true) × (float ≡ false) × (format ≡ None)) ⊎
    ((unused ≡ false) × (float ≡ true) × (format ≡ None))) ⊎
    ((unused ≡ false) × (float ≡ false) × (is_some format ≡ true))

abbrev test : ℕ → Bool
test op = (is_unused op && (not (is_float op) && is_none (format_at op))) ||
    ((not (is_unused op) && (is_float op && is_none (format_at op))) || (not (is_unused op) && (not (is_float op) && is_some (format_at op))))

from_test : (u f : Bool) (o : Option formats.Format) → ((u && (not f && is_none o)) || ((not u && (f && is_none o)) || (not u && (not f && is_some o)))) ≡ true → IsOneOf u f o
from_test true false None h = inl (inl (refl, refl, refl))
from_test false true None h = inl (inr (refl, refl, refl))
from_test false false (Some f) h = inr (refl, refl, refl)
from_test u f o h = absurd (cc)

pub opcode_kinds : (op : ℕ) → op < 256 → IsOneOf (is_unused op) (is_float op) (format_at op)
unfolding format_at is_float is_unused
opcode_kinds op h = from_test _ _ _ (agree_below_at test (λ _. true) 256 op refl h)

no_float_of : (u f : Bool) (o : Option formats.Format) (g : formats.Format) → IsOneOf u f o → o ≡ Some g → f ≡ true → ⊥
no_float_of u f o g (inl (inl k)) e t = cc
no_float_of u f o g (inl (inr k)) e t = cc
no_float_of u f o g (inr k) e t = cc

-- an opcode with a format is no float's
pub no_float : (op : ℕ) (f : formats.Format) → op < 256 → format_at op ≡ Some f → is_float op ≡ true → ⊥
no_float op f h e t = no_float_of _ _ _ f (opcode_kinds op h) e t
