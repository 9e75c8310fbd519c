-- `reader::records::Record::is_memory` meets its contract.
use borrow.Author.Rules.{rules}
use Rattle.reader.proofs.NumberLaws.{memory_bits}
use Rattle.reader.proofs.records.Record.is_memory.Goals as goal

pub returns : goal.returns
returns c = memory_bits c.args.self.number (search rules)
