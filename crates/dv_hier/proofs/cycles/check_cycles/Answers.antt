use Rattle.std.proofs.Common.{sym, subst, ◌∙◌, arith, ◌≡◌, length, true, false, None}
use Rattle.std.proofs.lemmas.List.{get_or_read_under}
use Rattle.dv_defs.specs.First.{first_below}
use Rattle.dv_hier.specs.Upwards.{is_self_dependent}
use Rattle.dv_hier.proofs.FirstCycle.{no_cycle_more, cycle_found, no_cycle, cycle_at}
use Rattle.dv_hier.proofs.cycles.check_cycles.Goals as goal
use Rattle.dv_hier.proofs.cycles.check_cycles.Goals.{else-not-index-via-then-not-index+in_ok-depends_on_itself+else-branch, else-not-index-via-else-not-index}

pub returns-then-branch : goal.returns-then-branch
returns-then-branch c = λ image same.
    let depends : is_self_dependent c.args.infos.now c.loop-i.i ≡ true = sym c.in_ok-depends_on_itself.ensures ∙ c.if-branch.true in
    c.error_of.ensures _ (cycle_found c.args.infos.now c.loop-i.i c.index-infos-i.result c.loop-i-test.true depends c.loop-i.invariant image same)

pub loop-i-preserved : goal.loop-i-preserved
loop-i-preserved c =
    no_cycle_more c.args.infos.now c.loop-i.i
    (elim c.else-not-index.branch [
      | else-not-index-via-then-not-index+in_ok-depends_on_itself+else-branch w ↦ sym w.in_ok-depends_on_itself.ensures ∙ w.if-branch.false
      | else-not-index-via-else-not-index w ↦
          c.in_ok-free.ensures.free.free c.loop-i.i
          (sym (get_or_read_under c.in_ok-free.free.items c.loop-i.i c.in_ok-free.free.len c.index.result.now false c.index.ensures (let many = c.in_ok-free.ensures.many in omega arith) (omega arith)) ∙ w.if-not-index.false)
    ])
    c.loop-i.invariant

pub returns : goal.returns
returns c =
    no_cycle c.args.infos.now
    (subst (λ n. first_below (cycle_at c.args.infos.now) n ≡ None) (let e : c.loop-i.i ≡ length c.args.infos.now = omega arith in e) c.loop-i.invariant)
