-- `server::messages::Writer::put_join` meets its contract.
use Rattle.server.proofs.WriteLaws.{writes_then, room_first, room_then}
use Rattle.server.proofs.messages.Writer.put_join.Goals as goal

pub put_start-requires : goal.put_start-requires
put_start-requires c = room_first c.args.self.now _ _ (room_first c.args.self.now _ _ (room_first c.args.self.now _ _ c.requires))

pub put_notices-requires : goal.put_notices-requires
put_notices-requires c = room_then _ (room_first c.args.self.now _ _ (room_first c.args.self.now _ _ c.requires)) c.put_start.ensures

pub put_times-requires : goal.put_times-requires
put_times-requires c = room_then _ (room_first c.args.self.now _ _ c.requires) (writes_then c.put_start.ensures c.put_notices.ensures)

pub put_notices-requires-2 : goal.put_notices-requires-2
put_notices-requires-2 c = room_then _ c.requires (writes_then (writes_then c.put_start.ensures c.put_notices.ensures) c.put_times.ensures)

pub returns : goal.returns
returns c =
    writes_then (writes_then (writes_then c.put_start.ensures c.put_notices.ensures) c.put_times.ensures) c.put_notices-2.ensures
