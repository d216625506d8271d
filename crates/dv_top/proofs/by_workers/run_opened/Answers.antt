use Rattle.std.proofs.Common.{All, ap, inl, inr, subst, sym, ◌∙◌}
use Rattle.dv_defs.specs.declared.run.Limits.{Limits}
use Rattle.dv_defs.specs.Images.{Image}
use Rattle.dv_io.specs.Io.{TookPart}
use Rattle.dv_workers.specs.Entries.{IsOfWorker}
use Rattle.dv_top.specs.Status.{code_of}
use Rattle.dv_top.specs.Working.{IsWorked, Stopped}
use Rattle.dv_top.proofs.RunningLemmas.{image_of, main_of, moved, state_of}
use Rattle.dv_top.proofs.WorkingLemmas.{worked_by}
use Rattle.dv_top.proofs.by_workers.run_opened.Goals as goal
use Rattle.dv_top.proofs.by_workers.run_opened.Goals.{then-fault, else-fault+then-memory, else-fault+else-memory}

pub returns-clause-worked : goal.returns-clause-worked
returns-clause-worked g c m is =
    let run = c.args.run in
    let ran = c.run_workers-vm.ensures in
    let vm = c.run_workers-vm.result.vm in
    let same = ran.same in
    let behind = c.args.how.now.behind in
    let before = g.K.Sink.taken c.args.sink in
    let mid = g.K.Sink.taken c.run_workers-vm.result.sink in
    let (k, at) = state_of vm m ran.leads (main_of vm.verified run.verified vm.main run.main m same.verified same.main is) in
    let output = c.output_stands.ensures m k at in
    let part : TookPart before mid k.shared.output = subst (λ t. TookPart before mid t) output ran.part in
    let own : IsWorked vm.verified.image m vm.machine.limits vm.log behind before (g.K.Sink.taken c.if-fault.sink) c.code.result =
    elim c.if-fault.branch [
      | then-fault w ↦
          Stopped k at.replayed (subst (λ s. TookPart before (g.K.Sink.taken s) k.shared.output) (sym w.sink-is) part) (inl (c.code.ensures ∙ ap code_of w.status-is))
      | else-fault+then-memory w ↦
          Stopped k at.replayed (subst (λ s. TookPart before (g.K.Sink.taken s) k.shared.output) (sym w.sink-is) part) (inr (c.code.ensures ∙ ap code_of w.status-is))
      | else-fault+else-memory w ↦
          let whole = ran.all w.if-fault.false w.if-memory.false in
          let worked = worked_by vm.verified.image m vm.machine.limits vm.log behind before (g.K.Sink.taken w.write_tail.new.sink) mid k vm.machine.shared.output (code_of w.write_tail.result) at.replayed output whole (w.write_tail.ensures.followed m k at) in
          subst (λ s. IsWorked vm.verified.image m vm.machine.limits vm.log behind before (g.K.Sink.taken s) c.code.result) (sym w.sink-is) (subst (λ n. IsWorked vm.verified.image m vm.machine.limits vm.log behind before (g.K.Sink.taken w.write_tail.new.sink) n) (sym (c.code.ensures ∙ ap code_of w.status-is)) worked)
    ] in
    moved (λ (i : Image) (l : Limits) es. IsWorked i m l es behind before (g.K.Sink.taken c.if-fault.sink) c.code.result) vm.verified.image run.verified.image vm.machine.limits run.machine.limits vm.log c.into_log.result.items (image_of vm.verified run.verified same.verified) same.limits (sym c.into_log.ensures) own

pub write_tail-requires : goal.write_tail-requires
write_tail-requires g c = c.run_workers-vm.ensures.ended c.if-fault.false c.if-memory.false

pub returns-clause-entries : goal.returns-clause-entries
returns-clause-entries g c = subst (All IsOfWorker) (sym c.into_log.ensures) c.run_workers-vm.ensures.entries
