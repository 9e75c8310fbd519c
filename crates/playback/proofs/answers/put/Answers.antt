-- `playback::answers::put` meets its contract.
use Rattle.common.specs.Lists.{over}
use Rattle.playback.proofs.answers.put.Goals as goal

pub returns : goal.returns
unfolding over
returns c = rw c.copy_from_slice.ensures.after
