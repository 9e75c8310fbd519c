-- `playback::answers::done` meets its contract.
use mathlib.Core.Path.{refl}
use Rattle.playback.specs.Answers.{all_delivered}
use Rattle.playback.proofs.answers.done.Goals as goal

pub returns : goal.returns
unfolding all_delivered
returns c = record { bytes = c.put.ensures; count = refl; fits = c.requires }
