-- `deliveries::sent_in` meets its contract: each part is the definition's.
use Rattle.device.specs.Ring.{delivery_of}
use Rattle.gate.specs.RingOutcome.{sent_at}
use Rattle.deliveries.proofs.sent_in.Goals as goal

pub returns : goal.returns
unfolding sent_at delivery_of
returns c = rw (c.joined.ensures, c.at-e.ensures, c.from.ensures, c.from-2.ensures, c.from-3.ensures)
