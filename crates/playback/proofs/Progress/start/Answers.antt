-- `playback::Progress::start` meets its contract: no words are the all-zero hub.
use mathlib.Core.Path.{refl}
use Rattle.playback.proofs.SetUpLaws.{empty_hub}
use Rattle.playback.proofs.Progress.start.Goals as goal

pub returns : goal.returns
returns c = record { fresh = λ hub region held. rw empty_hub; none = refl }
