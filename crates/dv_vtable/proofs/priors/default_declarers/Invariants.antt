use Rattle.std.proofs.Common.{◌≡◌, take}
use Rattle.dv_vtable.specs.Priors.{declarers}
use Rattle.dv_vtable.proofs.priors.default_declarers.Given as goal

abbrev pub invariant-loop-info : goal.invariant-loop-info
invariant-loop-info l = l.declares.items ≡ declarers (take l.info-index l.infos)
