use Rattle.std.proofs.Common.{◌∙◌, ap, subst}
use Rattle.dv_machine.specs.Opening.{opening}
use Rattle.dv_machine.specs.State.{Machine}
use Rattle.dv_machine.specs.WellTyped.{Typings}
use Rattle.dv_rules.specs.Verified.{VerifiedValue}
use Rattle.dv_sound.specs.Moves.{IsGood, StandsFor}
use Rattle.dv_sound.specs.Replays.{IsLedToEnd, StopsBefore}
use Rattle.dv_sound.specs.Runs.{Run}
use Rattle.dv_sound.proofs.Keeping.{finished_by, kept_led, led_limits, refused_by}
use Rattle.dv_sound.proofs.safe.SafeVm.replay.Goals as goal

pub returns-in-Err-clause-refused : goal.returns-in-Err-clause-refused
returns-in-Err-clause-refused c =
    let o = c.in_ok-vm.ensures c.requires.main c.requires.limits in
    let stops = subst (λ (v : VerifiedValue). (T : Typings) (m : Machine) → IsGood v.image T → StandsFor v.image T c.in_ok-vm.vm m → StopsBefore c.in-Err.error v.image c.args.log.now m) c.verified.view_is c.in-Err.ensures in
    refused_by c.args.verified.now.image c.args.main c.args.limits c.in_ok-vm.vm o c.args.log.now c.in-Err.error (stops o.typings (opening c.args.verified.now.image o.has_main.method c.args.limits) o.good o.stands)

pub standing-requires : goal.standing-requires
standing-requires c =
    let o = c.in_ok-vm.ensures c.requires.main c.requires.limits in
    let led = subst (λ (v : VerifiedValue). (T : Typings) (m : Machine) → IsGood v.image T → StandsFor v.image T c.in_ok-vm.vm m → IsLedToEnd v.image T c.args.log.now m c.play_to_end.new.vm) c.verified.view_is c.in-Ok.ensures in
    record {
      kept = kept_led c.args.verified.now.image c.args.main c.args.limits c.in_ok-vm.vm o c.play_to_end.new.vm c.args.log.now
          (led o.typings (opening c.args.verified.now.image o.has_main.method c.args.limits) o.good o.stands) c.in_ok-copy.copy.items c.new.result.items c.in_ok-copy.ensures c.new.ensures.items;
    }

pub returns-in-Ok-clause-program : goal.returns-in-Ok-clause-program
returns-in-Ok-clause-program c =
    let o = c.in_ok-vm.ensures c.requires.main c.requires.limits in
    let led = subst (λ (v : VerifiedValue). (T : Typings) (m : Machine) → IsGood v.image T → StandsFor v.image T c.in_ok-vm.vm m → IsLedToEnd v.image T c.args.log.now m c.play_to_end.new.vm) c.verified.view_is c.in-Ok.ensures in (
      ap (λ (r : Run). r.verified) c.standing.ensures,
      ap (λ (r : Run). r.main) c.standing.ensures,
      ap (λ (r : Run). r.machine.limits) c.standing.ensures ∙
          led_limits c.args.verified.now.image c.args.main c.args.limits c.in_ok-vm.vm o c.play_to_end.new.vm c.args.log.now (led o.typings (opening c.args.verified.now.image o.has_main.method c.args.limits) o.good o.stands),
    )

pub returns-in-Ok-clause-finished : goal.returns-in-Ok-clause-finished
returns-in-Ok-clause-finished c =
    let o = c.in_ok-vm.ensures c.requires.main c.requires.limits in
    let led = subst (λ (v : VerifiedValue). (T : Typings) (m : Machine) → IsGood v.image T → StandsFor v.image T c.in_ok-vm.vm m → IsLedToEnd v.image T c.args.log.now m c.play_to_end.new.vm) c.verified.view_is c.in-Ok.ensures in
    finished_by c.args.verified.now.image c.args.main c.args.limits c.in_ok-vm.vm o c.play_to_end.new.vm c.args.log.now (led o.typings (opening c.args.verified.now.image o.has_main.method c.args.limits) o.good o.stands)
