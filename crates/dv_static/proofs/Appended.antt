-- Places added one after another.
use Rattle.std.proofs.Common.{◌≡◌, ℕ, List, ◌++◌, sym, ap, ◌∙◌, append_assoc}
use Rattle.std.proofs.lemmas.List.{map-append}
use Rattle.dv_defs.specs.declared.faults.Rule.{Rule}
use Rattle.dv_typing.specs.Accepting as accepting
use Rattle.dv_typing.specs.Accepting.{places}

two_parts : (at : ℕ) (xs ys : List Rule) → places at (xs ++ ys) ≡ places at xs ++ places at ys
two_parts at xs ys = map-append (λ r. record { at = at; broken = r }) xs ys

-- after others
pub two_after : (ps : List accepting.Place) (at : ℕ) (xs ys : List Rule) → (ps ++ places at xs) ++ places at ys ≡ ps ++ places at (xs ++ ys)
two_after ps at xs ys = append_assoc ps (places at xs) (places at ys) ∙ ap (λ qs. ps ++ qs) (sym (two_parts at xs ys))

pub three_after : (ps : List accepting.Place) (at : ℕ) (xs ys zs : List Rule) → ((ps ++ places at xs) ++ places at ys) ++ places at zs ≡ ps ++ places at ((xs ++ ys) ++ zs)
three_after ps at xs ys zs = ap (λ qs. qs ++ places at zs) (two_after ps at xs ys) ∙ two_after ps at (xs ++ ys) zs
