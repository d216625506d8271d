use Rattle.std.proofs.Common.{◌≡◌, ℕ, length, map}
use Rattle.std.specs.Prelude.{All}
use Rattle.dv_defs.specs.Numbering.{class_numbered, declared}
use Rattle.law_linking.specs.Stripped.{IsInRange}
use Rattle.dv_hier.proofs.numbering.number_classes.Given as goal

abbrev pub invariant-loop-class : goal.invariant-loop-class
invariant-loop-class l =
    record {
      numbered : (boot : ℕ) → l.infos.items ≡ map (class_numbered (declared l.fn.classes.items boot)) l.yielded;
      range : All (IsInRange (length l.names)) l.infos.items;
    }
