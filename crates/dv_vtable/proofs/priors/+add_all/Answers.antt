use Rattle.std.proofs.Common.{get_or, refl, sym, ◌∙◌, arith}
use Rattle.dv_hier.proofs.RoundLaws.{nobody}
use Rattle.dv_vtable.proofs.PriorLaws.{own_is, own_range, there_by, adding_there, adding_new, ends_here, a_step, ends_above}
use Rattle.dv_vtable.proofs.priors.+add_all.Goals as goal

pub loop-id-preserved-then-is_some : goal.loop-id-preserved-then-is_some
loop-id-preserved-then-is_some t c =
    let is = c.args.interfaces.now in
    let k = c.loop-id.id-index in
    adding_there c.args.infos.now c.args.steps c.args.pool.now c.loop-id.pool is k nobody c.loop-id-test.true
    (there_by c.loop-id.pool (get_or is k nobody) c.place_of.result c.place_of.ensures (sym c.is_some.ensures ∙ c.if-is_some.true)) c.loop-id.invariant

pub overflow_sub-steps : goal.overflow_sub-steps
overflow_sub-steps t c =
    let is = c.args.interfaces.now in
    let k = c.loop-id.id-index in
    a_step c.args.infos.now c.args.steps (get_or is k nobody).0 (ends_here c.args.infos.now c.args.steps k is nobody c.loop-id-test.true c.requires.steps)

pub add_all-requires : goal.add_all-requires
add_all-requires t c =
    let infos = c.args.infos.now in
    let is = c.args.interfaces.now in
    let k = c.loop-id.id-index in
    let within = c.requires.interfaces k nobody c.loop-id-test.true in
    let ends = ends_here infos c.args.steps k is nobody c.loop-id-test.true c.requires.steps in
    let step = a_step infos c.args.steps (get_or is k nobody).0 ends in (
      omega arith,
      (
        c.requires.range,
        (
          own_range infos (get_or is k nobody).0 c.index-infos-id.result c.items-above.result.now c.requires.range within c.items-above.ensures,
          (
            ends_above infos c.args.steps _ (get_or is k nobody).0 c.items-above.result.now refl
                (own_is infos (get_or is k nobody).0 c.index-infos-id.result c.items-above.result.now within c.items-above.ensures) ends,
            c.loop-id.invariant.closed,
          ),
        ),
      ),
    )

pub loop-id-preserved : goal.loop-id-preserved
loop-id-preserved t c =
    let infos = c.args.infos.now in
    let is = c.args.interfaces.now in
    let k = c.loop-id.id-index in
    let within = c.requires.interfaces k nobody c.loop-id-test.true in
    adding_new infos c.args.steps _ c.args.pool.now c.loop-id.pool c.add_all.new.pool c.add.new.self is c.items-above.result.now k nobody c.loop-id-test.true c.requires.range within
    (ends_here infos c.args.steps k is nobody c.loop-id-test.true c.requires.steps) refl
    (own_is infos (get_or is k nobody).0 c.index-infos-id.result c.items-above.result.now within c.items-above.ensures)
    c.in_ok-add_all.ensures.added c.in_ok-add.ensures c.loop-id.invariant
