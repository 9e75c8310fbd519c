-- `playback::answers::refused` meets its contract.
use mathlib.Core.Path.{refl}
use Rattle.common.specs.Bytes.{bytes}
use Rattle.playback.proofs.answers.refused.Goals as goal

pub returns : goal.returns
unfolding bytes
returns c = record { bytes = c.put.ensures; count = refl; fits = c.requires }
