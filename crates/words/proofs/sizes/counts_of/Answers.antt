-- `words::sizes::counts_of` meets its contract: words that fit have the numbers that the first two say, others have none.
use mathlib.Core.Path.{refl, sym, ◌∙◌}
use Rattle.device.specs.World.{zero_hub}
use Rattle.words.proofs.LayoutLaws.{no_hub}
use Rattle.words.proofs.sizes.counts_of.Goals as goal

pub stored-requires : goal.stored-requires
stored-requires c = sym c.fits-sized.ensures ∙ c.if-sized.true

pub returns : goal.returns
unfolding zero_hub
returns c = rw (no_hub _ (sym c.fits-sized.ensures ∙ c.if-sized.false)) (refl, refl)
