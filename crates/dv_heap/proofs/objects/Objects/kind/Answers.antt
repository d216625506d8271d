use Rattle.dv_heap.proofs.Tagging.{tag_is_place, kind_is_read}
use Rattle.dv_heap.proofs.objects.Objects.kind.Goals as goal

pub get-requires : goal.get-requires
get-requires c =
    tag_is_place c.self.inside.kinds c.self.inside.blocks c.args.self.now c.args.object c.block_of.result c.tag.result c.self.view_is c.self.invariant c.requires c.block_of.ensures c.tag.ensures

pub returns : goal.returns
returns c =
    kind_is_read c.self.inside.kinds c.self.inside.blocks c.args.self.now c.args.object c.block_of.result c.tag.result c.get.result.now c.self.view_is c.requires c.block_of.ensures c.tag.ensures c.get.ensures
