-- What building keeps of the classes that are handed in.
use Rattle.std.proofs.Common.{◌≡◌, ◌+◌, ◌<◌, ℕ, List, [], ◌∷◌, length, map, Option, Some, None, refl, sym, ap, subst, ◌∙◌, arith}
use Rattle.std.specs.Prelude.{◌^◌, sum_by, All}
use Rattle.std.proofs.lemmas.List.{length-map}
use Rattle.std.proofs.lemmas.List.Sums.{sum_by-cons}
use Rattle.std.specs.Option.{option_or}
use Rattle.std.specs.List.{enumerate_from}
use Rattle.dv_defs.specs.declared.class.ClassDef.{ClassDef}
use Rattle.dv_defs.specs.declared.image.ClassInfo.{ClassInfo}
use Rattle.dv_defs.specs.declared.faults.LinkError.{LinkError}
use Rattle.dv_defs.specs.declared.faults.LinkError.TheVariants as error
use Rattle.dv_defs.specs.Images.{Image}
use Rattle.dv_defs.specs.Numbering.{declared, numbered, class_numbered, names_of}
use Rattle.dv_defs.specs.LinkFaults.{Found, Fails, first_fault_by, boot_fault, limit_fault, is_twice, wrong_above, on_cycle, has_field_twice}
use Rattle.dv_defs.specs.Linked.{defs, slotted, class_with_slots, first_phases, AreNamed, HasValues}
use Rattle.law_linking.specs.Stripped.{def_names}
use Rattle.dv_hier.specs.Hierarchies.{HierarchyValue, IsHierarchy, without_table, without_tables, hierarchy_of, naming_phases}
use Rattle.law_linking.proofs.First.{or_none}
use Rattle.law_linking.proofs.Bounds.{few_classes, few_fields}

-- an error of the first of two searches, and of the second where the first found nothing
pub fails_first : (e : LinkError) (a b : Option Found) → Fails e a → Fails e (option_or a b)
fails_first error.Memory a b h = tt
fails_first (error.At class kind) a b h = ap (λ o. option_or o b) h

pub fails_next : (e : LinkError) (a b : Option Found) → a ≡ None → Fails e b → Fails e (option_or a b)
fails_next e a b none h = subst (λ o. Fails e (option_or o b)) (sym none) h

defs_of : (d : Image) (cs : List ClassDef) → defs (map (class_numbered d) cs) ≡ cs
defs_of d [] = refl
defs_of d (c ∷ cs) = ap (λ ds. c ∷ ds) (defs_of d cs)

pub defs_numbered : (cs : List ClassDef) (boot : ℕ) → defs (numbered cs boot).classes ≡ cs
unfolding numbered
defs_numbered cs boot = defs_of (declared cs boot) cs

defs_from : (image : Image) (k : ℕ) (cs : List ClassInfo) → defs (map (class_with_slots image) (enumerate_from k cs)) ≡ defs cs
defs_from image k [] = refl
defs_from image k (c ∷ cs) = ap (λ ds. c.def ∷ ds) (defs_from image (k + 1) cs)

pub defs_slotted : (cs : List ClassDef) (boot : ℕ) → defs (slotted (numbered cs boot)).classes ≡ cs
unfolding slotted
defs_slotted cs boot = defs_from (numbered cs boot) 0 (numbered cs boot).classes ∙ defs_numbered cs boot

pub defs_at : (cs : List ClassDef) (boot : ℕ) (is : List ClassInfo) → is ≡ (numbered cs boot).classes → defs is ≡ cs
defs_at cs boot is at = ap defs at ∙ defs_numbered cs boot

pub names_defs : (cs : List ClassInfo) → names_of cs ≡ def_names (defs cs)
names_defs [] = refl
names_defs (c ∷ cs) = ap (λ ns. c.def.name ∷ ns) (names_defs cs)

pub names_slotted : (cs : List ClassDef) (boot : ℕ) → names_of (slotted (numbered cs boot)).classes ≡ def_names cs
names_slotted cs boot = names_defs (slotted (numbered cs boot)).classes ∙ ap def_names (defs_slotted cs boot)

untabled : (d image : Image) (k : ℕ) (cs : List ClassDef) → map without_table (map (class_with_slots image) (enumerate_from k (map (class_numbered d) cs))) ≡ map (class_with_slots image) (enumerate_from k (map (class_numbered d) cs))
untabled d image k [] = refl
untabled d image k (c ∷ cs) = ap (λ is. class_with_slots image (k, class_numbered d c) ∷ is) (untabled d image (k + 1) cs)

pub no_tables : (cs : List ClassDef) (boot : ℕ) → without_tables (hierarchy_of cs boot) ≡ hierarchy_of cs boot
unfolding slotted numbered
no_tables cs boot = ap (λ is. record { classes = is; fields = (hierarchy_of cs boot).fields; boot = boot }) (untabled (declared cs boot) (numbered cs boot) 0 cs)

-- ---- phase by phase

or_assoc : (a b c : Option Found) → option_or (option_or a b) c ≡ option_or a (option_or b c)
or_assoc None b c = refl
or_assoc (Some y) b c = refl

both_none : (a b : Option Found) → a ≡ None → b ≡ None → option_or a b ≡ None
both_none a b first second = ap (λ o. option_or o b) first ∙ second

module _ (cs : List ClassDef) (boot : ℕ) where
  twice : Option Found
  twice = first_fault_by (is_twice (declared cs boot)) cs

  above : Option Found
  above = first_fault_by (wrong_above (declared cs boot)) cs

  cycle : Option Found
  cycle = first_fault_by (on_cycle (numbered cs boot)) cs

  pub boot_fails : (e : LinkError) → Fails e (boot_fault cs boot) → Fails e (naming_phases cs boot)
  unfolding naming_phases
  boot_fails e h = fails_first e (boot_fault cs boot) _ h

  pub limit_fails : (e : LinkError) → boot_fault cs boot ≡ None → Fails e (limit_fault cs boot) → Fails e (naming_phases cs boot)
  unfolding naming_phases
  limit_fails e first h = fails_next e (boot_fault cs boot) _ first (fails_first e (limit_fault cs boot) _ h)

  pub twice_fails : (e : LinkError) → boot_fault cs boot ≡ None → limit_fault cs boot ≡ None → Fails e (first_fault_by (is_twice (declared cs boot)) cs) → Fails e (naming_phases cs boot)
  unfolding naming_phases twice
  twice_fails e first second h =
      fails_next e (boot_fault cs boot) _ first (fails_next e (limit_fault cs boot) _ second (fails_first e twice _ h))

  pub above_fails : (e : LinkError) → boot_fault cs boot ≡ None → limit_fault cs boot ≡ None → first_fault_by (is_twice (declared cs boot)) cs ≡ None → Fails e (first_fault_by (wrong_above (declared cs boot)) cs) → Fails e (naming_phases cs boot)
  unfolding naming_phases twice
  above_fails e first second third h =
      fails_next e (boot_fault cs boot) _ first (fails_next e (limit_fault cs boot) _ second (fails_next e twice _ third h))

  pub naming_passes : boot_fault cs boot ≡ None → limit_fault cs boot ≡ None → first_fault_by (is_twice (declared cs boot)) cs ≡ None → first_fault_by (wrong_above (declared cs boot)) cs ≡ None → naming_phases cs boot ≡ None
  unfolding naming_phases twice above
  naming_passes first second third fourth =
      both_none (boot_fault cs boot) _ first (both_none (limit_fault cs boot) _ second (both_none twice above third fourth))

  all_phases : first_phases cs boot ≡ option_or (naming_phases cs boot) (option_or cycle (first_fault_by has_field_twice cs))
  unfolding first_phases naming_phases twice above cycle
  all_phases =
      sym (or_assoc (boot_fault cs boot) (option_or (limit_fault cs boot) (option_or twice above)) behind ∙
      ap (option_or (boot_fault cs boot)) (or_assoc (limit_fault cs boot) (option_or twice above) behind ∙
      ap (option_or (limit_fault cs boot)) (or_assoc twice above behind)))
    where
      behind : Option Found
      behind = option_or cycle (first_fault_by has_field_twice cs)

  pub naming_fails : (e : LinkError) → Fails e (naming_phases cs boot) → Fails e (first_phases cs boot)
  naming_fails e h = subst (Fails e) (sym all_phases) (fails_first e (naming_phases cs boot) _ h)

  pub cycle_fails : (e : LinkError) → naming_phases cs boot ≡ None → Fails e (first_fault_by (on_cycle (numbered cs boot)) cs) → Fails e (first_phases cs boot)
  unfolding cycle
  cycle_fails e naming h = subst (Fails e) (sym all_phases) (fails_next e (naming_phases cs boot) _ naming (fails_first e cycle _ h))

  pub fields_fail : (e : LinkError) → naming_phases cs boot ≡ None → first_fault_by (on_cycle (numbered cs boot)) cs ≡ None → Fails e (first_fault_by has_field_twice cs) → Fails e (first_phases cs boot)
  unfolding cycle
  fields_fail e naming round h = subst (Fails e) (sym all_phases) (fails_next e (naming_phases cs boot) _ naming (fails_next e cycle _ round h))

  pub all_pass : naming_phases cs boot ≡ None → first_fault_by (on_cycle (numbered cs boot)) cs ≡ None → first_fault_by has_field_twice cs ≡ None → first_phases cs boot ≡ None
  unfolding cycle
  all_pass naming round fields = all_phases ∙ both_none (naming_phases cs boot) _ naming (both_none cycle (first_fault_by has_field_twice cs) round fields)

  -- how many classes and fields there are where nothing is found
  pub few : naming_phases cs boot ≡ None → (length cs < 2 ^ 32) × (sum_by (λ c. length c.fields) cs < 2 ^ 31)
  unfolding naming_phases twice above
  few none =
      let first = or_none (boot_fault cs boot) _ none in
      let second = or_none (limit_fault cs boot) _ first.1 in
      let third = or_none twice above second.1 in
      (omega (arith, few_classes cs boot first.0 second.0 third.0), omega (arith, few_fields cs boot first.0 second.0 third.0))

-- ---- the hierarchy

field_counts : (is : List ClassInfo) → sum_by (λ c. length c.def.fields) is ≡ sum_by (λ c. length c.fields) (defs is)
field_counts [] = refl
field_counts (i ∷ is) =
    sum_by-cons (λ c. length c.def.fields) i is ∙
    (ap (λ n. length i.def.fields + n) (field_counts is) ∙ sym (sum_by-cons (λ c. length c.fields) i.def (defs is)))

pub few_fields_numbered : (cs : List ClassDef) (boot : ℕ) (is : List ClassInfo) → is ≡ (numbered cs boot).classes → sum_by (λ c. length c.fields) cs < 2 ^ 31 → sum_by (λ c. length c.def.fields) is < 2 ^ 31
few_fields_numbered cs boot is at few = rw (field_counts is, at, defs_numbered cs boot) few

numbered_length : (cs : List ClassDef) (boot : ℕ) → length (numbered cs boot).classes ≡ length cs
unfolding numbered
numbered_length cs boot = length-map cs (class_numbered (declared cs boot))

pub few_numbered : (cs : List ClassDef) (boot : ℕ) (is : List ClassInfo) → is ≡ (numbered cs boot).classes → length cs < 2 ^ 32 → length is < 2 ^ 32
few_numbered cs boot is at few = rw (at, numbered_length cs boot) few

-- what build makes keeps what a hierarchy keeps
pub is_hierarchy : (cs : List ClassDef) (boot : ℕ) (h : HierarchyValue) → h ≡ hierarchy_of cs boot → first_phases cs boot ≡ None → AreNamed cs → All HasValues cs → IsHierarchy h
is_hierarchy cs boot h same none named values =
    let own : defs h.classes ≡ cs = ap (λ (x : HierarchyValue). defs x.classes) same ∙ defs_slotted cs boot in
    let first : h.boot ≡ boot = ap (λ (x : HierarchyValue). x.boot) same in
    record {
      is_built = (λ j. first_phases (own j) (first j)) ∙ none;
      is = ap without_tables same ∙ (no_tables cs boot ∙ sym (λ j. hierarchy_of (own j) (first j)));
      named = subst AreNamed (sym own) named;
      values = subst (All HasValues) (sym own) values;
    }
