-- `Counted::of` meets its contract. The loop's invariant: the peers passed have been seen.
use Rattle.soundness.specs.Scanned.{Seen}
use Rattle.soundness.proofs.whole.Counted.of.Given as goal

abbrev pub invariant-loop-i : goal.invariant-loop-i
invariant-loop-i l = Seen l.slots.hub.now l.slots.settings l.i l.peers
