use Rattle.dv_heap.specs.Blocks.{filling}
use Rattle.std.proofs.Common.{arith, length, ◌≡◌, ap, ◌∙◌, ◌++◌, ◌∷◌, []}
use Rattle.dv_heap.proofs.Laying.{read_back, lie, laid_more, starts_more}
use Rattle.dv_heap.proofs.blocks.Blocks.push.Goals as goal

pub invariant_of-self-2 : goal.invariant_of-self-2
invariant_of-self-2 c =
    let start : c.len-start.result ≡ length c.self.inside.words.items = omega arith in
    lie _ _ _
    (laid_more c.args.self.now c.self.inside.starts.items c.self.inside.words.items _ (record { tag = c.args.tag; words = filling c.args.contents.now }) c.self.view_is c.self.invariant c.in_ok-lay.ensures.ok)
    (starts_more c.args.self.now c.self.inside.starts.items _ c.self.inside.words.items (record { tag = c.args.tag; words = filling c.args.contents.now }) c.len-start.result c.self.view_is c.self.invariant start (c.in_ok-push.ensures.items ∙ ap (λ ss. ss ++ c.len-start.result ∷ []) c.reserve.ensures.items))

pub returns-clause-ok : goal.returns-clause-ok
returns-clause-ok c =
    let start : c.len-start.result ≡ length c.self.inside.words.items = omega arith in
    read_back _ _ _
    (laid_more c.args.self.now c.self.inside.starts.items c.self.inside.words.items _ (record { tag = c.args.tag; words = filling c.args.contents.now }) c.self.view_is c.self.invariant c.in_ok-lay.ensures.ok)
    (starts_more c.args.self.now c.self.inside.starts.items _ c.self.inside.words.items (record { tag = c.args.tag; words = filling c.args.contents.now }) c.len-start.result c.self.view_is c.self.invariant start (c.in_ok-push.ensures.items ∙ ap (λ ss. ss ++ c.len-start.result ∷ []) c.reserve.ensures.items))
