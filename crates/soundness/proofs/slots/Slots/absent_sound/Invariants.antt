-- `Slots::absent_sound` meets its contract. The loop's invariant: the absent peers below the next are tested, and nothing is found.
use Prim.Native.Nat.{ℕ, ◌-◌}
use Rattle.std.specs.Prelude.{Option, Some, None}
use Rattle.soundness.proofs.AbsentLaws.{Passed}
use Rattle.soundness.proofs.slots.Slots.absent_sound.Given as goal

abbrev pub invariant-loop-next : goal.invariant-loop-next
invariant-loop-next l = Passed l.self.hub.now l.self.settings.peers l.next

abbrev left : ℕ → Option ℕ → ℕ
left peers None = 0
left peers (Some i) = peers - i

abbrev pub decreases-loop-next : goal.decreases-loop-next
decreases-loop-next l = left l.self.settings.peers l.next
