-- `gate::rings::disarm` meets its contract: one register of one slot changes.
use Rattle.gate.proofs.rings.disarm.Goals as goal

pub returns : goal.returns
returns c = rw (c.from-2.ensures, c.peer-p.ensures, c.from.ensures) at c.put_peer.ensures
