use Rattle.std.proofs.Common.{◌≡◌, ◌<◌, ℕ, List, length, map, take}
use Rattle.std.specs.Prelude.{filter_map, All}
use Rattle.dv_defs.specs.declared.class.ClassDef.{ClassDef}
use Rattle.dv_defs.specs.Numbering.{class_id, declared}
use Rattle.dv_defs.specs.Pools.{class_named}
use Rattle.law_linking.specs.Stripped.{def_names}
use Rattle.dv_hier.proofs.numbering.number_interfaces.Given as goal

abbrev pub invariant-loop-name : goal.invariant-loop-name
invariant-loop-name l =
    record {
      numbered : (cs : List ClassDef) (boot : ℕ) → l.names ≡ def_names cs
          → l.ids.items ≡ map class_id (filter_map (class_named (declared cs boot)) (take l.name-index l.interfaces));
      range : All (λ id. id.0 < length l.names) l.ids.items;
    }
