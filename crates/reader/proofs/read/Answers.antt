-- `reader::read` meets its contract.
use borrow.Author.Rules.{rules}
use Rattle.reader.specs.Reading.{read}
use Rattle.reader.proofs.read.Goals as goal

pub returns-in_err-step : goal.returns-in_err-step
unfolding read
returns-in_err-step c = search rules

pub returns : goal.returns
unfolding read
returns c = search rules
