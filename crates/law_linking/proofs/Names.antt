-- The class of a name is the place of the name among the names of the classes.
use Rattle.std.proofs.Common.{◌≡◌, ◌+◌, ℕ, suc, Bool, true, false, not, cond, List, [], ◌∷◌, length, map, Option, Some, None, refl, ap, ◌∙◌, arith}
use Rattle.std.specs.Prelude.{nat_lt, bytes_eq, position}
use Rattle.std.specs.List.{position_or_len}
use Rattle.dv_defs.specs.declared.class.ClassDef.{ClassDef}
use Rattle.dv_defs.specs.declared.image.ClassInfo.{ClassInfo}
use Rattle.dv_defs.specs.Images.{Image}
use Rattle.dv_defs.specs.Pools.{find_from, class_named}
use Rattle.dv_defs.specs.Numbering.{class_declared, declared, names_of}
use Rattle.law_linking.specs.Stripped.{def_names}

-- equality of bytes is symmetric
pub bytes_eq_sym : (xs ys : List ℕ) → bytes_eq xs ys ≡ bytes_eq ys xs
bytes_eq_sym [] [] = refl
bytes_eq_sym [] (y ∷ ys) = refl
bytes_eq_sym (x ∷ xs) [] = refl
bytes_eq_sym (x ∷ xs) (y ∷ ys) = grind (arith, bytes_eq_sym xs ys)

-- where a list begins at a number
at_from : ℕ → ℕ → ℕ → Option ℕ
at_from k place count = cond (nat_lt place count) (Some (k + place)) None

one_step : (k : ℕ) (here : Bool) (place count : ℕ) (rest : Option ℕ) → rest ≡ at_from (suc k) place count → elim here [ true ↦ Some k | false ↦ rest ] ≡ at_from k (cond (not here) (1 + place) 0) (suc count)
unfolding at_from
one_step k true place count rest e = grind arith
one_step k false place count rest e = grind arith

from_position : (cs : List ClassInfo) (k : ℕ) (name : List ℕ) → find_from cs k name ≡ at_from k (position_or_len (bytes_eq name) (names_of cs)) (length (names_of cs))
unfolding at_from
from_position [] k name = refl
from_position (c ∷ cs) k name =
    ap (λ here. elim here [ true ↦ Some k | false ↦ find_from cs (suc k) name ]) (bytes_eq_sym c.def.name name) ∙
    one_step k (bytes_eq name c.def.name) (position_or_len (bytes_eq name) (names_of cs)) (length (names_of cs)) (find_from cs (suc k) name) (from_position cs (suc k) name)

from_zero : (place count : ℕ) → at_from 0 place count ≡ cond (nat_lt place count) (Some place) None
unfolding at_from
from_zero place count = grind arith

-- the class of a name
pub named_is_position : (image : Image) (name : List ℕ) → class_named image name ≡ position (bytes_eq name) (names_of image.classes)
unfolding class_named at_from
named_is_position image name =
    from_position image.classes 0 name ∙
    from_zero (position_or_len (bytes_eq name) (names_of image.classes)) (length (names_of image.classes))

names_declared : (cs : List ClassDef) → names_of (map class_declared cs) ≡ def_names cs
names_declared [] = refl
names_declared (c ∷ cs) = ap (λ ns. c.name ∷ ns) (names_declared cs)

-- of class definitions
pub declared_is_position : (cs : List ClassDef) (boot : ℕ) (name : List ℕ) → class_named (declared cs boot) name ≡ position (bytes_eq name) (def_names cs)
unfolding declared
declared_is_position cs boot name = named_is_position (declared cs boot) name ∙ ap (position (bytes_eq name)) (names_declared cs)
