use Rattle.std.proofs.Common.{◌<◌, length, refl, sym, ap, ◌∙◌, arith}
use Rattle.std.specs.Prelude.{slice_get}
use Rattle.std.proofs.lemmas.Option.{slice_get_read}
use Rattle.dv_worklist.proofs.Numbered.{count, read, state_within}
use Rattle.dv_worklist.proofs.onwards.Onwards.get.Goals as goal

pub index-way-requires : goal.index-way-requires
index-way-requires g c =
    let inside = c.self.inside in
    omega (arith, c.requires, ap length c.self.view_is, count inside.states.items inside.ways.items c.self.invariant, inside.ways.ok.0)

pub index-requires : goal.index-requires
index-requires g c =
    let inside = c.self.inside in
    let within : c.args.index < length inside.ways.items = omega (arith, c.requires, ap length c.self.view_is, count inside.states.items inside.ways.items c.self.invariant) in
    omega (arith, state_within (length inside.states.items) inside.ways.items c.self.invariant c.args.index c.index-way.result.now within c.index-way.ensures, inside.states.ok.0)

pub returns : goal.returns
returns g c =
    let inside = c.self.inside in
    let within : c.args.index < length inside.ways.items = omega (arith, c.requires, ap length c.self.view_is, count inside.states.items inside.ways.items c.self.invariant) in
    let state = state_within (length inside.states.items) inside.ways.items c.self.invariant c.args.index c.index-way.result.now within c.index-way.ensures in
    let way = slice_get_read inside.ways.items (length inside.ways.items) c.args.index c.index-way.result.now refl within c.index-way.ensures in
    let there = slice_get_read inside.states.items (length inside.states.items) c.index-way.result.now.state c.index.result.now refl state c.index.ensures in
    ap (λ os. slice_get os c.args.index) (sym c.self.view_is) ∙ read inside.states.items inside.ways.items c.self.invariant c.args.index c.index-way.result.now c.index.result.now way there
