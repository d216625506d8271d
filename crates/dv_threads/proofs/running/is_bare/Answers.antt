use Rattle.std.proofs.Common.{◌≡◌, false, true, ◌&&◌, List, [], ◌∷◌, length, Option, None, refl, ◌∙◌}
use Rattle.dv_defs.specs.declared.names.Ty.{Ty}
use Rattle.dv_defs.specs.Types.{same_result, same_types}
use Rattle.dv_threads.proofs.running.is_bare.Goals as goal

-- some types aren't none
some_types : (ts : List Ty) (r : Option Ty) → (length ts ≡ 0 → false ≡ true) → false ≡ (same_types ts [] && same_result r None)
some_types [] r some = absurd (let never : false ≡ true = some refl in cc)
some_types (t ∷ ts) r some = refl

pub returns-else-is_empty : goal.returns-else-is_empty
returns-else-is_empty c =
    c.if-is_empty.false ∙ some_types c.args.proto.now.params c.args.proto.now.ret (λ none. (c.if-is_empty.ensures).1 none)
