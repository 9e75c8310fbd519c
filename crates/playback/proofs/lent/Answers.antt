-- `playback::lent` meets its contract: the test is the definition.
use Rattle.common.specs.Tests.{every}
use Rattle.playback.specs.Promises.{is_lent}
use Rattle.playback.proofs.lent.Goals as goal

pub returns : goal.returns
unfolding is_lent every
returns c = rw (c.hub_words.ensures, c.max_peers.ensures, c.max_vectors.ensures)
