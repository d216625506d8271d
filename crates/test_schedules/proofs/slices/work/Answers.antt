use Rattle.dv_sound.proofs.Made.{made_on}
use Rattle.test_schedules.proofs.slices.work.Goals as goal

-- src/slices.rt:72:1
pub returns : goal.returns
returns c = made_on c.args.image.now _ c.run_slice.result c.args.slice.now c.run_slice.new.slice c.requires c.run_slice.ensures.ran c.run_slice.ensures.counted c.run_slice.ensures.start
