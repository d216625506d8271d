use Rattle.std.proofs.Common.{List, ap, ◌∙◌, nat_eq}
use Rattle.std.specs.List.{position}
use Rattle.dv_monitor.specs.declared.wait.Wait as kept
use Rattle.dv_monitor.specs.Waits.{wait_values}
use Rattle.dv_monitor.proofs.WaitLaws.{place-some, taken-at}
use Rattle.dv_monitor.proofs.waits.take.Goals as goal

pub unwrap-place-requires : goal.unwrap-place-requires
unwrap-place-requires c =
    place-some c.args.thread c.args.waits.now.items c.place_of.result
    (c.place_of.ensures ∙ ap (λ (ws : List kept.Wait). position (λ (w : kept.Wait). nat_eq w.thread c.args.thread) ws) c.deref.ensures.value) c.requires

pub returns-clause-value : goal.returns-clause-value
returns-clause-value c =
    (taken-at c.args.thread c.args.waits.now.items c.deref.result.now c.place_of.result c.unwrap-place.result c.remove.result c.place_of.ensures c.deref.ensures.value
    c.unwrap-place.ensures c.remove.ensures.value).0

pub returns-clause-waits : goal.returns-clause-waits
returns-clause-waits c =
    ap (λ ws. wait_values ws) c.remove.ensures.items
    ∙ (taken-at c.args.thread c.args.waits.now.items c.deref.result.now c.place_of.result c.unwrap-place.result c.remove.result c.place_of.ensures c.deref.ensures.value
    c.unwrap-place.ensures c.remove.ensures.value).1
