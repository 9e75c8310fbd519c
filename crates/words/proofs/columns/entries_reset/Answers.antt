-- `words::columns::entries_reset` meets its contract: the words of the run are its peers' entries.
use mathlib.Core.Path.{◌∙◌}
use Rattle.words.proofs.RunLaws.{run_is}
use Rattle.words.proofs.columns.entries_reset.Goals as goal

pub words_reset-requires : goal.words_reset-requires
words_reset-requires c = c.of_run.ensures.inside

pub returns : goal.returns
returns c = c.words_reset.ensures ∙ run_is _ _ _ c.requires _ _ c.of_run.ensures
