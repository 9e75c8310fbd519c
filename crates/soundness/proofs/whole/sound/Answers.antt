-- `soundness::whole::sound` meets its contract: words that do not fit are the all-zero hub, which is not sound.
use mathlib.Core.Path.{sym, ◌∙◌}
use Rattle.device.proofs.SetUpLaws.{zero_unsound}
use Rattle.device.specs.Sound.{sound}
use Rattle.words.proofs.LayoutLaws.{no_hub}
use Rattle.soundness.proofs.whole.sound.Goals as goal

pub returns-then-not-fits : goal.returns-then-not-fits
returns-then-not-fits c = rw (no_hub _ (sym c.fits.ensures ∙ c.if-not-fits.true)) (sym zero_unsound)

pub returns-then-not-accepted : goal.returns-then-not-accepted
unfolding sound
returns-then-not-accepted c = rw (← c.settings-settings.ensures, ← c.accepted.ensures, c.if-not-accepted.true)

pub returns : goal.returns
unfolding sound
returns c = rw (← c.settings-settings.ensures, ← c.accepted.ensures, c.if-not-accepted.false) (rw c.of.ensures at c.sound.ensures)
