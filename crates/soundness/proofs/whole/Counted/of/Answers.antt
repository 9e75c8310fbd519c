use Rattle.soundness.proofs.ScanLaws.{seen_first}
use Rattle.soundness.proofs.whole.Counted.of.Goals as goal

pub loop-i-init : goal.loop-i-init
loop-i-init c = rw c.reset.ensures (seen_first _ _)
