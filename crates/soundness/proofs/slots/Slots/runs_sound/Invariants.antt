-- `Slots::runs_sound` meets its contract. The loop's invariant: the peers passed have been scanned.
use Rattle.soundness.specs.Scanned.{Scanned}
use Rattle.soundness.proofs.slots.Slots.runs_sound.Given as goal

abbrev pub invariant-loop-i : goal.invariant-loop-i
invariant-loop-i l = Scanned l.self.hub.now l.i l.scan
