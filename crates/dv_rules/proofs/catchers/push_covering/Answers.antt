use Rattle.std.proofs.Common.{◌≡◌, [], List, rules, ◌++◌, map, OnOk, ap, sym, ◌∙◌, subst, append-nil}
use Rattle.dv_typing.specs.Flow.{Catcher, catchers, handlers_of}
use Rattle.dv_rules.specs.Edges.{handler_edge}
use Rattle.dv_rules.proofs.HandlerSteps.{covered_by, covered_by_none}
use Rattle.dv_rules.proofs.catchers.push_covering.Goals as goal

pub returns-in-Some : goal.returns-in-Some
returns-in-Some c =
    let body = c.args.body.now in
    let same : c.items.result.now ≡ c.args.body.now.tries = search rules in
    let by = covered_by body c.items.result.now c.args.at c.in-Some.entry.now (sym c.in-Some.ensures) in
    let all = ap (catchers body) c.items-in-Some.ensures ∙ (sym by ∙ ap (λ ts. handlers_of body ts c.args.at) same) in
    let P : List Catcher → Type 0 = λ hs. OnOk c.push_catchers.result (c.push_catchers.new.edges.items ≡ c.args.edges.now.items ++ map handler_edge hs) in
    subst P all c.push_catchers.ensures

pub returns-in-None : goal.returns-in-None
returns-in-None c =
    let body = c.args.body.now in
    let same : c.items.result.now ≡ c.args.body.now.tries = search rules in
    let none = covered_by_none body c.items.result.now c.args.at (sym c.in-None.ensures) in
    let all : handlers_of c.args.body.now c.args.body.now.tries c.args.at ≡ [] = sym (ap (λ ts. handlers_of body ts c.args.at) same) ∙ none in
    sym (ap (λ hs. c.args.edges.now.items ++ map handler_edge hs) all ∙ append-nil c.args.edges.now.items)
