-- The constant of src/ is the number of specs/.
use Rattle.std.proofs.Common.{refl}
use Rattle.device.specs.Sizes.{max_peers}
use Rattle.device.proofs.max_peers.Goals as goal

pub returns : goal.returns
unfolding max_peers
returns c = refl
