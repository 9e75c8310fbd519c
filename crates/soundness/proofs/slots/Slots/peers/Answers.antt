-- `Slots::peers` meets its contract: a hub has few peers.
use mathlib.Core.Path.{ap}
use native.Mathlib.Omega.{arith}
use Rattle.device.specs.declared.Settings.{Settings}
use Rattle.soundness.proofs.AbsentLaws.{few_peers}
use Rattle.soundness.proofs.slots.Slots.peers.Goals as goal

pub returns-clause-few : goal.returns-clause-few
returns-clause-few c = omega (arith, few_peers c.args.self.now.hub.now, ap (λ (s : Settings). s.peers) c.args.self.now.same)
