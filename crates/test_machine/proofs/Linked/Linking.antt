-- Linking, to compute with: an image whose tests all pass is what linking gives of the definitions in it.
use Rattle.std.specs.Prelude.{◌≡◌, ◌≢◌, ℕ, Bool, true, false, List, [], ◌∷◌, slice_index_or, All, Result, Ok}
use Rattle.std.specs.List.{list_all}
use Rattle.std.proofs.lemmas.List.Sums.{AllPass-from_list_all}
use Rattle.dv_defs.specs.declared.class.ClassDef.{ClassDef}
use Rattle.dv_defs.specs.declared.class.FieldDef.{FieldDef}
use Rattle.dv_defs.specs.Images.{Image}
use Rattle.dv_defs.specs.Field.{may_stand}
use Rattle.dv_defs.specs.Pools.{class_named, method_at, field_at, nearest}
use Rattle.dv_defs.specs.LookUp.{field_found, method_found}
use Rattle.dv_defs.specs.Selecting.{selected}
use Rattle.dv_defs.specs.Numbering.{declared, numbered}
use Rattle.dv_defs.specs.LinkFaults.{Found, boot_fault, limit_fault}
use Rattle.dv_defs.specs.Linked.{IsImage, HasValues, defs, linked, first_phases, method_phase, pool_phase, slotted, tabled, resolved}

-- opened, it opens all that linking stands on
unfoldable pub computed : List ClassDef → ℕ → Result Image Found
unfolding linked first_phases method_phase pool_phase boot_fault limit_fault declared numbered slotted tabled resolved class_named method_at field_at nearest selected field_found method_found
computed cs boot = linked cs boot

computes : (cs : List ClassDef) (boot : ℕ) (image : Image) → computed cs boot ≡ Ok image → linked cs boot ≡ Ok image
unfolding computed
computes cs boot image e = e

-- ---- tests of classes

all_by : {X : Type 0} (P : X → Type 0) (test : X → Bool) → ((x : X) → test x ≡ true → P x) → (xs : List X) → list_all test xs ≡ true → All P xs
all_by P test by xs e k d within = by (slice_index_or xs k d) (AllPass-from_list_all test xs e k d within)

abbrev pub has_name : ClassDef → Bool
has_name c = elim c.name [ [] ↦ false | k ∷ ks ↦ true ]

name_there : (name : List ℕ) → elim name [ [] ↦ false | k ∷ ks ↦ true ] ≡ true → name ≢ []
name_there [] e same = absurd (cc)
name_there (k ∷ ks) e same = absurd (cc)

abbrev pub has_values : ClassDef → Bool
has_values c = list_all (λ f. may_stand f.init f.ty f.flags) c.fields

values_stand : (c : ClassDef) → has_values c ≡ true → HasValues c
values_stand c e = AllPass-from_list_all (λ (f : FieldDef). may_stand f.init f.ty f.flags) c.fields e

pub linked_by : (image : Image) → computed (defs image.classes) image.boot ≡ Ok image → list_all has_name (defs image.classes) ≡ true → list_all has_values (defs image.classes) ≡ true → IsImage image
linked_by image e names values =
    record {
      is_linked = computes (defs image.classes) image.boot image e;
      named = all_by (λ (c : ClassDef). c.name ≢ []) has_name (λ c. name_there c.name) (defs image.classes) names;
      values = all_by HasValues has_values values_stand (defs image.classes) values;
    }
