-- `words::header::settings_from` meets its contract: each field is the word read for it.
use Rattle.words.specs.Layout.{settings_of}
use Rattle.words.proofs.header.settings_from.Goals as goal

pub returns : goal.returns
unfolding settings_of
returns c = cc
