-- `reader::steps::Known::read_record` meets its contract.
use mathlib.Core.Path.{sym}
use Rattle.reader.proofs.LeaveLaws.{leaves_same}
use Rattle.reader.specs.Steps.{read_record}
use Rattle.reader.proofs.steps.Known.read_record.Goals as goal

pub returns-in-Version : goal.returns-in-Version
unfolding read_record
returns-in-Version c = leaves_same c.version_due.ensures (sym (rw c.in-Version.is))

pub returns-in-Id : goal.returns-in-Id
unfolding read_record
returns-in-Id c = leaves_same c.id_due.ensures (sym (rw c.in-Id.is))

pub returns-in-Memory : goal.returns-in-Memory
unfolding read_record
returns-in-Memory c = leaves_same c.memory_due.ensures (sym (rw c.in-Memory.is))

pub returns-in-Peers : goal.returns-in-Peers
unfolding read_record
returns-in-Peers c = leaves_same c.peers_due.ensures (sym (rw c.in-Peers.is))

pub returns-in-Closed : goal.returns-in-Closed
unfolding read_record
returns-in-Closed c = leaves_same c.close.ensures (sym (rw c.in-Closed.is))
