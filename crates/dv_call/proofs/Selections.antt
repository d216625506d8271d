-- What is selected from a class, and on what a call then lands.
use Rattle.std.proofs.Common.{◌≡◌, ◌≤◌, ◌∙◌, List, ℕ, length, Option, Some, None, refl, sym, ap}
use Rattle.std.proofs.lemmas.Option.{slice_get_past}
use Rattle.dv_defs.specs.declared.image.Select.{Select}
use Rattle.dv_defs.specs.declared.image.Select.TheVariants as select
use Rattle.dv_defs.specs.declared.names.Proto.{Proto}
use Rattle.dv_defs.specs.Images.{Image}
use Rattle.dv_machine.specs.Calls.{landing, selected_from}
use Rattle.law_linking.proofs.SelectLaws.{selected_outside}
use Rattle.dv_call.specs.Landings.{on_landing, selection}

-- a call lands on what is selected
pub lands : (image : Image) (c : Option ℕ) (name : List ℕ) (proto : Proto) (s : Select) → s ≡ selection image c name proto
    → on_landing image (landing image s) ≡ on_landing image (selected_from image c name proto)
lands image c name proto s is = ap (λ (t : Select). on_landing image (landing image t)) is ∙ by c
  where
    by : (c : Option ℕ) → on_landing image (landing image (selection image c name proto)) ≡ on_landing image (selected_from image c name proto)
    by None = refl
    by (Some c) = refl

-- nothing is selected from a class that isn't there
pub none_past : (image : Image) (o : Option ℕ) (c : ℕ) (name : List ℕ) (proto : Proto) → o ≡ Some c → length image.classes ≤ c → select.Abstract ≡ selection image o name proto
none_past image o c name proto is past =
    sym (ap (λ (p : Option ℕ). selection image p name proto) is ∙ selected_outside image c name proto (slice_get_past image.classes c past))
