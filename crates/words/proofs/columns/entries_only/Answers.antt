-- `words::columns::entries_only` meets its contract: the words of the run are its peers' entries.
use mathlib.Core.Path.{◌∙◌}
use Rattle.words.proofs.RunLaws.{run_is}
use Rattle.words.proofs.columns.entries_only.Goals as goal

pub words_only-requires : goal.words_only-requires
words_only-requires c = c.of_run.ensures.inside

pub returns : goal.returns
returns c = c.words_only.ensures ∙ run_is _ _ _ c.requires _ _ c.of_run.ensures
