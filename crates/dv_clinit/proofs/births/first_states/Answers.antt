use Rattle.std.proofs.Common.{ap, ◌∙◌, arith}
use Rattle.dv_clinit.specs.Births.{BeginsAsParent}
use Rattle.dv_clinit.specs.States.{class_states}
use Rattle.dv_clinit.proofs.BirthLaws.{all_states, lent_back, one_more}
use Rattle.dv_clinit.proofs.births.first_states.Goals as goal

pub loop-class-preserved : goal.loop-class-preserved
loop-class-preserved c =
    record {
      known = lent_back c.args.image.now (BeginsAsParent c.args.image.now) c.write_up.new.known c.loop-class.known.items c.loop-class.known.len (omega (arith, c.deref_mut.ensures.len, c.write_up.auto.known)) c.write_up.ensures.known;
      so_far = ap class_states c.in_ok-push.ensures.items ∙ one_more c.args.image.now c.loop-class.states.items c.state_of-state.result c.loop-class.class c.loop-class.invariant.so_far c.state_of-state.ensures;
    }

pub returns : goal.returns
returns c =
    all_states c.args.image.now c.loop-class.states.items c.loop-class.class c.loop-class.invariant.so_far (omega (arith, c.loop-class-test.false, c.len-class-end.ensures, c.loop-class.auto.class-end, (c.in_ok-known.ensures).count))
