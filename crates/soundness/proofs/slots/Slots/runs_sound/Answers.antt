use mathlib.Core.Path.{◌≡◌, sym}
use native.Mathlib.Omega.{arith}
use Rattle.soundness.proofs.ScanLaws.{scan_first, scan_last, failed_more}
use Rattle.soundness.proofs.slots.Slots.runs_sound.Goals as goal

pub loop-i-init : goal.loop-i-init
loop-i-init c = scan_first _ _

pub returns-in_default : goal.returns-in_default
returns-in_default c = sym (failed_more _ _ _ (omega (arith, c.peers-peers.ensures.value)) c.in_default.ensures)

pub returns : goal.returns
returns c =
    let e : c.loop-i.i ≡ c.args.self.now.settings.peers = omega (arith, c.peers-peers.ensures.value) in
    rw (c.run_sound.ensures, c.peers-peers.ensures.value) (scan_last _ _ _ (rw e at c.loop-i.invariant))
