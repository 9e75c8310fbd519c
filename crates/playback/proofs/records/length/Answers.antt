-- `playback::records::length` meets its contract.
use mathlib.Core.Path.{sym}
use Rattle.playback.proofs.RecordLaws.{unknown_length}
use Rattle.playback.proofs.records.length.Goals as goal

pub returns-in-Err : goal.returns-in-Err
returns-in-Err c = sym (unknown_length c.args.byte c.in-Err.ensures)
