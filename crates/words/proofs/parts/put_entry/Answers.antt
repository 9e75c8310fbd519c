-- `words::parts::put_entry` meets its contract: four words are stored, each a step further.
use Rattle.words.proofs.PartLaws.{copied_entry}
use Rattle.words.proofs.parts.put_entry.Goals as goal

pub returns : goal.returns
returns c = copied_entry _ _ _ _ c.requires.apart c.requires.inside
