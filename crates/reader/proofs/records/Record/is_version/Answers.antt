-- `reader::records::Record::is_version` meets its contract.
use borrow.Author.Rules.{rules}
use Rattle.reader.proofs.NumberLaws.{version_bits}
use Rattle.reader.proofs.records.Record.is_version.Goals as goal

pub returns : goal.returns
returns c = version_bits c.args.self.number (search rules)
