-- `words::header::settings` meets its contract: the words of a hub hold its settings.
use mathlib.Core.Path.{sym, ◌∙◌}
use native.Mathlib.Omega.{arith}
use Rattle.words.specs.Layout.{hub_words}
use Rattle.words.proofs.LayoutLaws.{fits_sized, settings_at}
use Rattle.words.proofs.header.settings.Goals as goal

pub settings_from-requires : goal.settings_from-requires
unfolding hub_words
settings_from-requires c = omega (arith, (fits_sized _ c.requires).size)

pub returns : goal.returns
returns c = c.settings_from.ensures ∙ sym (settings_at (fits_sized _ c.requires))
