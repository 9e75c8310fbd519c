-- `soundness::whole::see_peer` meets its contract: the peer is counted where it is connected.
use mathlib.Core.Path.{refl, ap}
use native.Mathlib.Omega.{arith}
use Rattle.device.specs.declared.Settings.{Settings}
use Rattle.soundness.proofs.AbsentLaws.{few_peers}
use Rattle.soundness.proofs.ScanLaws.{one_more, seen_more}
use Rattle.soundness.proofs.whole.see_peer.Goals as goal

pub overflow_add-result : goal.overflow_add-result
overflow_add-result c =
    omega (arith, one_more _ _ c.from.ensures, few_peers c.args.slots.now.hub.now, ap (λ (s : Settings). s.peers) c.args.slots.now.same)

pub returns : goal.returns
returns c = rw (c.together.ensures, c.from.ensures, c.peer-p.ensures) (seen_more _ _ _ _ c.requires.passed _ refl)
