-- `server::messages::Writer::put_notices` meets its contract. The loop's invariant: the messages for the clients so far are written.
use Rattle.server.specs.Clients.{joined_below}
use Rattle.server.specs.Parts.{notices_bytes, Writes}
use Rattle.server.proofs.messages.Writer.put_notices.Given as goal

abbrev pub invariant-loop-client : goal.invariant-loop-client
invariant-loop-client l = Writes l.initial.self l.self (notices_bytes l.notice (joined_below l.client l.joined.0))
