-- `words::entries::entry` meets its contract: the first two words are the numbers of peers and vectors.
use Rattle.words.proofs.LayoutLaws.{known_fits}
use Rattle.words.proofs.entries.entry.Goals as goal

pub stored-counts-requires : goal.stored-counts-requires
stored-counts-requires c = known_fits _ _ c.requires.known
