-- `deliveries::sent` meets its contract: the entries are the hub's.
use Rattle.deliveries.proofs.sent.Goals as goal

pub returns : goal.returns
returns c = rw (c.sent_in.ensures, c.of.ensures)
