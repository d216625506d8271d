use Rattle.std.proofs.Common.{◌≡◌, ◌++◌, ◌∙◌, ℕ, List, ap}
use Rattle.dv_words.specs.Natives.{units_in}
use Rattle.dv_builtin.proofs.LowBits.{units_same}
use Rattle.dv_builtin.proofs.making.joined.Goals as goal

pub returns : goal.returns
returns c =
    let front : units_in c.args.front.now ≡ c.args.front.now = units_same c.args.front.now c.requires.front in
    let back : units_in c.args.back.now ≡ c.args.back.now = units_same c.args.back.now c.requires.back in
    c.in_ok-add_units-2.ensures ∙
    ap (λ (us : List ℕ). us ++ units_in c.args.back.now) (c.in_ok-add_units.ensures ∙ ap (λ (us : List ℕ). us ++ units_in c.args.front.now) c.in_ok-units.ensures.items ∙ front) ∙
    ap (λ us. c.args.front.now ++ us) back
