use Rattle.std.proofs.lemmas.Grind.{common_steps}
use Rattle.std.proofs.Common.{◌≡◌, ◌+◌, ◌<◌, ℕ, ℤ, List, [], ◌∷◌, ◌++◌, map, take, get_or, length, w32, arith, rules, ap, sym, ◌∙◌}
use Rattle.std.proofs.lemmas.Int.{to_z-of_z}
use Rattle.std.proofs.lemmas.List.{map_more}
use mir.Val.{SFits, to_z, of_z}
use Rattle.dv_asm.specs.Places.{distance}
use Rattle.dv_asm.proofs.short.Short.distances.Goals as goal

-- one more number
mapped : (f : List ℕ → ℤ) (names : List (List ℕ)) (i : ℕ) (old new : List ℤ) (d : ℤ) (name : List ℕ) → i < length names → name ≡ get_or names i name → SFits w32 d → d ≡ f name → old ≡ map f (take i names) → new ≡ old ++ to_z w32 (of_z w32 d) ∷ [] → new ≡ map f (take (i + 1) names)
mapped f names i old new d name within item fits is before pushed =
    pushed ∙ ap (λ e. old ++ e ∷ []) (to_z-of_z w32 d fits ∙ is ∙ ap f item) ∙ ap (λ xs. xs ++ f (get_or names i name) ∷ []) before ∙ sym (map_more f names i name within)

pub loop-name-preserved : goal.loop-name-preserved
loop-name-preserved c =
    let fits : SFits w32 c.distance.result = search rules in
    mapped (distance c.args.self.now c.args.from) c.args.names.now c.loop-name.name-index c.loop-name.distances.items c.push.new.self.items c.distance.result c.name-item.result (omega arith) c.name-item.is fits c.distance.ensures c.loop-name.invariant c.in_ok-push.ensures.items

pub returns : goal.returns
returns c = grind (arith, common_steps)
