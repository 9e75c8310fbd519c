-- `Slots::entries_fixed` meets its contract: the masks are the definition's.
use Rattle.common.specs.Tests.{every}
use Rattle.device.specs.Sound.{entry_fixed}
use Rattle.soundness.proofs.slots.Slots.entries_fixed.Goals as goal

pub returns : goal.returns
unfolding entry_fixed every
returns c = c.entries_only.ensures
