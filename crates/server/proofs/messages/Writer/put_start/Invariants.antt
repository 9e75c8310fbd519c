-- `server::messages::Writer::put_start` meets its contract. The loop's invariant: the messages so far are written.
use Rattle.std.specs.Prelude.{take}
use Rattle.server.specs.Messages.{each_of}
use Rattle.server.specs.Parts.{written_to, Writes}
use Rattle.server.proofs.messages.Writer.put_start.Given as goal

abbrev pub invariant-loop-said : goal.invariant-loop-said
invariant-loop-said l = Writes l.initial.self l.self (each_of (written_to l.id) (take l.said-index l.initial.said-items))
