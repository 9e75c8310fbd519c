-- `gate::switches::passed_gate` meets its contract: each part is the definition's.
use Rattle.gate.specs.PassedGate.{passed_gate}
use Rattle.gate.proofs.switches.passed_gate.Goals as goal

pub returns : goal.returns
unfolding passed_gate
returns c = rw c.opens.ensures
