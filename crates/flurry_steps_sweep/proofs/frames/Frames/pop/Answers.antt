use Rattle.flurry_steps_sweep.specs.FrameView.{frame_of}
use Rattle.flurry_steps_sweep.specs.FramesView.{items_of}
use Rattle.flurry_steps_sweep.proofs.FrameLaws.{popped}
use Rattle.flurry_steps_sweep.proofs.frames.Frames.pop.Goals as goal

pub returns : goal.returns
returns g c = rw (← c.self.view_is) (popped frame_of items_of c.pop.result c.self.inside.stack c.pop.new.self c.pop.ensures.items)
