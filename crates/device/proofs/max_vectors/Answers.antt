-- The constant of src/ is the number of specs/.
use Rattle.std.proofs.Common.{refl}
use Rattle.device.specs.Sizes.{max_vectors}
use Rattle.device.proofs.max_vectors.Goals as goal

pub returns : goal.returns
unfolding max_vectors
returns c = refl
