-- `Slots::gap_reset` meets its contract: registers and entries are a slot's two parts.
use Rattle.soundness.proofs.AbsentLaws.{gap_tested}
use Rattle.soundness.proofs.slots.Slots.gap_reset.Goals as goal

pub returns : goal.returns
returns c = rw (c.peer_reset.ensures, c.entries_reset-entries.ensures) (gap_tested _ _ _ c.requires)
