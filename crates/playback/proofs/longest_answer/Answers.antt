-- `playback::longest_answer` meets its contract.
use mathlib.Core.Path.{refl}
use Rattle.device.specs.Sizes.{max_peers}
use Rattle.playback.proofs.longest_answer.Goals as goal

pub returns : goal.returns
unfolding max_peers
returns c = refl
