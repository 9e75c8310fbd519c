-- `soundness::parts::peer_fixed` meets its contract: the code's masks are those that the mask table makes.
use Rattle.common.specs.Tests.{every}
use Rattle.device.specs.Configuration.{masks, mask_in, mask_at, mask_of}
use Rattle.device.specs.Sound.{peer_fixed}
use Rattle.soundness.proofs.parts.peer_fixed.Goals as goal

pub returns : goal.returns
unfolding peer_fixed every mask_of mask_at mask_in masks
returns c = λ s. rw (c.only.ensures, c.only-2.ensures, c.only-3.ensures, c.only-4.ensures, c.only-5.ensures, c.only-6.ensures)
