-- Where the first phases find nothing, the numbered classes are in order.
use Rattle.std.proofs.Common.{◌≡◌, ◌<◌, ℕ, true, false, List, [], length, map, Option, Some, None, refl, sym, ap, ◌∙◌, arith}
use Rattle.std.specs.Prelude.{slice_get, filter_map, option_map, option_and_then}
use Rattle.std.proofs.lemmas.Option.{slice_get_within}
use Rattle.dv_defs.specs.declared.class.ClassDef.{ClassDef}
use Rattle.dv_defs.specs.declared.flags.Flag.TheVariants as flag
use Rattle.dv_defs.specs.Flags.{has_flag}
use Rattle.dv_defs.specs.Names.{object_name}
use Rattle.dv_defs.specs.Pools.{class_named, class_number, parent_at, flags_of, fields_of, is_interface}
use Rattle.dv_defs.specs.Order.{numbers}
use Rattle.dv_defs.specs.LookUp.{interfaces_at}
use Rattle.dv_defs.specs.Numbering.{class_id, class_numbered, declared, numbered}
use Rattle.dv_defs.specs.Linked.{first_phases}
use Rattle.law_linking.specs.Ordered.{IsOrdered}
use Rattle.law_linking.proofs.FromBoot.{HasObject, object_there}
use Rattle.law_linking.proofs.FromFaults.{HasNoFirstFault, no_first_fault, class_at, numbered_at, numbered_length, named_same, named_at, numbered_range, numbered_acyclic, sound_at, parent_numbered, interfaces_numbered, rootless, under_object, interfaces_are}

module _ (cs : List ClassDef) (boot : ℕ) (no : HasNoFirstFault cs boot) (object : HasObject cs) where
  object_is : class_named (declared cs boot) object_name ≡ Some object.place
  object_is = sym (ap (class_named (declared cs boot)) object.named) ∙ named_at cs boot no.twice object.place object.class object.at

  -- a class of Object's name is Object
  of_name : (c : ℕ) (def : ClassDef) → slice_get cs c ≡ Some def → def.name ≡ object_name → c ≡ object.place
  of_name c def at named =
      let same : class_named (declared cs boot) object_name ≡ Some c = sym (ap (class_named (declared cs boot)) named) ∙ named_at cs boot no.twice c def at in
      let other : class_named (declared cs boot) object_name ≡ Some object.place = object_is in
      cc

  root_parent : parent_at (numbered cs boot) object.place ≡ None
  root_parent =
      parent_numbered cs boot object.place object.class object.at ∙
      ap (λ o. class_number (option_map class_id (option_and_then (class_named (declared cs boot)) o))) object.parent

  root_interfaces : interfaces_at (numbered cs boot) object.place ≡ []
  root_interfaces =
      interfaces_numbered cs boot object.place object.class object.at ∙
      ap (λ names. numbers (map class_id (filter_map (class_named (declared cs boot)) names))) object.interfaces

  root_fields : fields_of (slice_get (numbered cs boot).classes object.place) ≡ []
  root_fields =
      ap fields_of (numbered_at cs boot object.place) ∙
      ap (λ o. fields_of (option_map (class_numbered (declared cs boot)) o)) object.at ∙
      object.fields

  root_alone : (c : ℕ) → c < length (numbered cs boot).classes → parent_at (numbered cs boot) c ≡ None → c ≡ object.place
  root_alone c within none =
      let there = class_at cs c (omega (arith, within, numbered_length cs boot)) in
      of_name c there.0 there.1
      (rootless (declared cs boot) there.0 (sound_at cs boot no.above c there.0 there.1) (sym (parent_numbered cs boot c there.0 there.1) ∙ none))

  flags_numbered : (c : ℕ) (o : Option ClassDef) → slice_get cs c ≡ o → is_interface (numbered cs boot) c ≡ has_flag (flags_of (option_map (class_numbered (declared cs boot)) o)) flag.Interface
  flags_numbered c o at =
      ap (λ i. has_flag (flags_of i) flag.Interface) (numbered_at cs boot c) ∙
      ap (λ i. has_flag (flags_of (option_map (class_numbered (declared cs boot)) i)) flag.Interface) at

  -- the superclass of an interface
  of_interface : (d : ℕ) → is_interface (numbered cs boot) d ≡ true → parent_at (numbered cs boot) d ≡ Some object.place
  of_interface d interface = by (slice_get cs d) refl
    where
      rooted : (def : ClassDef) → slice_get cs d ≡ Some def → has_flag def.flags flag.Interface ≡ true → (o : Option (List ℕ)) → def.parent ≡ o → parent_at (numbered cs boot) d ≡ Some object.place
      rooted def at told None e =
          let numbered_none : class_number (option_map class_id (option_and_then (class_named (declared cs boot)) def.parent)) ≡ None = ap (λ o. class_number (option_map class_id (option_and_then (class_named (declared cs boot)) o))) e in
          let place : d ≡ object.place = of_name d def at (rootless (declared cs boot) def (sound_at cs boot no.above d def at) numbered_none) in
          let same : Some def ≡ Some object.class = sym at ∙ (ap (slice_get cs) place ∙ object.at) in
          let is : def ≡ object.class = cc in
          let plain : has_flag def.flags flag.Interface ≡ false = ap (λ (c : ClassDef). has_flag c.flags flag.Interface) is ∙ object.flags in
          absurd (let both : true ≡ false = sym told ∙ plain in cc)
      rooted def at told (Some name) e =
          let root : name ≡ object_name = under_object (declared cs boot) def name (sound_at cs boot no.above d def at) e told in
          parent_numbered cs boot d def at ∙
          ap (λ o. class_number (option_map class_id (option_and_then (class_named (declared cs boot)) o))) e ∙
          ap (λ n. class_number (option_map class_id (class_named (declared cs boot) n))) root ∙
          ap (λ o. class_number (option_map class_id o)) object_is

      by : (o : Option ClassDef) → slice_get cs d ≡ o → parent_at (numbered cs boot) d ≡ Some object.place
      by None at = absurd (let told : false ≡ true = sym (flags_numbered d None at) ∙ interface in cc)
      by (Some def) at = rooted def at (sym (flags_numbered d (Some def) at) ∙ interface) def.parent refl

  ordered_by : IsOrdered (numbered cs boot)
  ordered_by =
      record {
        range = numbered_range cs boot;
        acyclic = numbered_acyclic cs boot no.cycles;
        object = object.place;
        object_named = named_same cs boot object_name ∙ object_is;
        object_in = omega (arith, slice_get_within cs object.place object.class object.at, numbered_length cs boot);
        object_parent = root_parent;
        object_interfaces = root_interfaces;
        object_fields = root_fields;
        parents = root_alone;
        interfaces = interfaces_are cs boot no.above;
        of_interfaces = of_interface;
      }

pub phases_ordered : (cs : List ClassDef) (boot : ℕ) → first_phases cs boot ≡ None → IsOrdered (numbered cs boot)
phases_ordered cs boot none =
    let no = no_first_fault cs boot none in
    ordered_by cs boot no (object_there cs boot no.boots)
