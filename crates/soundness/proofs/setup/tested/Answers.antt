-- `soundness::setup::tested` meets its contract: the tests are the definition's.
use Rattle.common.specs.Tests.{every}
use Rattle.device.specs.SetUp.{accepted}
use Rattle.soundness.proofs.SetUpLaws.{quarter}
use Rattle.soundness.proofs.setup.tested.Goals as goal

pub returns : goal.returns
unfolding accepted every
returns c = rw (c.max_peers.ensures, c.max_vectors.ensures, c.from.ensures, c.from-2.ensures, quarter, c.requires)
