-- `gate::switches::opens` meets its contract: the definition's switches, in another order.
use mathlib.Core.Bool.{Bool, ◌&&◌, and_assoc, and_comm}
use mathlib.Core.Path.{◌≡◌}
use Rattle.common.specs.Tests.{every}
use Rattle.device.specs.Ring.{opens}
use Rattle.gate.proofs.switches.opens.Goals as goal

reordered : (m e n s i : Bool) → ((e && n) && (i && s) && m) ≡ (m && e && n && s && i)
reordered m e n s i = rw (and_comm _ m, and_comm i s) (simp and_assoc)

pub returns : goal.returns
unfolding opens every
returns c = reordered c.args.g.master _ _ _ _
