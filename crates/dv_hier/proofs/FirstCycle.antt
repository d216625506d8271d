-- Laws of the first class that depends on itself.
use Rattle.std.specs.Prelude.{ℕ, zero, suc, ◌≡◌, ◌+◌, ◌<◌, true, false, List, length, Option, Some, None, slice_get, option_map}
use Rattle.std.specs.Option.{option_or}
use Rattle.std.proofs.Common.{refl, ◌∙◌, ap, get_or}
use Rattle.std.proofs.lemmas.Option.{slice_get-map, slice_get-get_or}
use Rattle.std.proofs.lemmas.List.{length-map}
use Rattle.dv_defs.specs.declared.class.ClassDef.{ClassDef}
use Rattle.dv_defs.specs.declared.image.ClassInfo.{ClassInfo}
use Rattle.dv_defs.specs.declared.faults.LinkKind.TheVariants as kind
use Rattle.dv_defs.specs.Images.{Image}
use Rattle.dv_defs.specs.First.{first_below, when}
use Rattle.dv_defs.specs.Linked.{defs}
use Rattle.dv_defs.specs.LinkFaults.{Found, found, tested, fault_at, first_fault_by, on_cycle}
use Rattle.law_linking.proofs.First.{first_below_more, first_below_found}
use Rattle.law_linking.proofs.Reach.{depends_same}
use Rattle.dv_hier.specs.Upwards.{bare, is_self_dependent}

abbrev pub cycle_at : List ClassInfo → ℕ → Option Found
cycle_at cs i = fault_at (on_cycle (bare cs)) (defs cs) i

below_same : (f g : ℕ → Option Found) → ((i : ℕ) → f i ≡ g i) → (n : ℕ) → first_below f n ≡ first_below g n
below_same f g h zero = refl
below_same f g h (suc n) = ap (λ o. option_or o (f n)) (below_same f g h n) ∙ ap (option_or (first_below g n)) (h n)

tested_same : (a b : Image) → a.classes ≡ b.classes → (i : ℕ) (o : Option ClassDef) → tested (on_cycle a) i o ≡ tested (on_cycle b) i o
tested_same a b same i None = refl
tested_same a b same i (Some c) = ap (λ t. option_map (found c.name) (when t kind.SuperCycle)) (depends_same a b same i)

first_same : (image : Image) (cs : List ClassInfo) → image.classes ≡ cs → first_fault_by (on_cycle image) (defs cs) ≡ first_below (cycle_at cs) (length cs)
first_same image cs same =
    below_same (fault_at (on_cycle image) (defs cs)) (cycle_at cs) (λ i. tested_same image (bare cs) same i (slice_get (defs cs) i)) (length (defs cs))
    ∙ ap (first_below (cycle_at cs)) (length-map {A = ClassInfo} {B = ClassDef} cs (λ c. c.def))

cycle_of : (cs : List ClassInfo) (i : ℕ) (info : ClassInfo) → i < length cs → cycle_at cs i ≡ option_map (found (get_or cs i info).def.name) (when (is_self_dependent cs i) kind.SuperCycle)
unfolding is_self_dependent
cycle_of cs i info within =
    ap (tested (on_cycle (bare cs)) i) (slice_get-map (λ c. c.def) cs i ∙ ap (option_map (λ c. c.def)) (slice_get-get_or cs i info within))

tested_free : (cs : List ClassInfo) (i : ℕ) (o : Option ClassDef) → is_self_dependent cs i ≡ false → tested (on_cycle (bare cs)) i o ≡ None
unfolding is_self_dependent
tested_free cs i None free = refl
tested_free cs i (Some c) free = ap (λ t. option_map (found c.name) (when t kind.SuperCycle)) free

pub no_cycle_more : (cs : List ClassInfo) (i : ℕ) → is_self_dependent cs i ≡ false → first_below (cycle_at cs) i ≡ None → first_below (cycle_at cs) (i + 1) ≡ None
no_cycle_more cs i free before = first_below_more (cycle_at cs) i before (tested_free cs i (slice_get (defs cs) i) free)

pub cycle_found : (cs : List ClassInfo) (i : ℕ) (info : ClassInfo) → i < length cs → is_self_dependent cs i ≡ true → first_below (cycle_at cs) i ≡ None → (image : Image) → image.classes ≡ cs → first_fault_by (on_cycle image) (defs cs) ≡ Some (found (get_or cs i info).def.name kind.SuperCycle)
cycle_found cs i info within depends before image same =
    first_same image cs same
    ∙ first_below_found (cycle_at cs) (length cs) i (found (get_or cs i info).def.name kind.SuperCycle) before (cycle_of cs i info within ∙ ap (λ t. option_map (found (get_or cs i info).def.name) (when t kind.SuperCycle)) depends) within

pub no_cycle : (cs : List ClassInfo) → first_below (cycle_at cs) (length cs) ≡ None → (image : Image) → image.classes ≡ cs → first_fault_by (on_cycle image) (defs cs) ≡ None
no_cycle cs none image same = first_same image cs same ∙ none
