-- `Slots::gap_from` meets its contract. The loop's invariant: the ids passed are such a run.
use mathlib.Core.Path.{◌≡◌}
use Rattle.soundness.specs.Absent.{Vacant}
use Rattle.soundness.proofs.slots.Slots.gap_from.Given as goal

abbrev pub invariant-loop-i : goal.invariant-loop-i
invariant-loop-i l = record { start : l.gap.from ≡ l.from; end : l.gap.to ≡ l.i; run : Vacant l.self.hub.now l.self.settings.peers l.gap }
