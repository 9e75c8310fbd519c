-- `soundness::parts::peer_reset` meets its contract: the tests are the definition's.
use mathlib.Core.Path.{refl}
use Rattle.common.specs.Tests.{every}
use Rattle.device.specs.Sound.{peer_reset}
use Rattle.soundness.proofs.parts.peer_reset.Goals as goal

pub returns : goal.returns
unfolding peer_reset every
returns c = refl
