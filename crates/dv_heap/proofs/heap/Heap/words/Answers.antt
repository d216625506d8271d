use Rattle.std.proofs.Common.{ℕ, List, ◌<◌, ◌^◌, ◌∙◌, subst, sym}
use Rattle.std.specs.Prelude.{slice_index}
use Rattle.dv_heap.proofs.Kept.{is_there, kind_seen}
use Rattle.dv_heap.proofs.heap.Heap.words.Goals as goal

pub words-requires : goal.words-requires
words-requires c = is_there c.self.inside.objects c.self.inside.statics c.self.inside.interned.entries c.self.inside.class_objects.entries c.self.inside.used c.self.inside.limit c.args.self.now c.args.object c.self.view_is c.requires

pub returns-clause-units : goal.returns-clause-units
returns-clause-units c string k =
    subst (λ (ws : List ℕ). slice_index ws k < 2 ^ 16) (sym c.words.ensures) (c.self.invariant.units c.args.object k (kind_seen c.self.inside.objects c.self.inside.statics c.self.inside.interned.entries c.self.inside.class_objects.entries c.self.inside.used c.self.inside.limit c.args.self.now c.args.object c.self.view_is ∙ string))
