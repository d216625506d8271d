use Rattle.dv_hier.proofs.cycles.depends_on_itself.Goals as goal

pub comes_back-requires-clause-met : goal.comes_back-requires-clause-met
comes_back-requires-clause-met c = c.in_ok-vec.ensures.items_if_clones_equal (λ y same. same)
