-- `server::messages::Writer::put_times` meets its contract. The loop's invariant: the messages so far are written.
use Rattle.server.specs.Parts.{written_times, Writes}
use Rattle.server.proofs.messages.Writer.put_times.Given as goal

abbrev pub invariant-loop : goal.invariant-loop
invariant-loop l = Writes l.initial.self l.self (written_times l.counter l.message)
