-- `server::join_as` meets its contract.
use Prim.Native.Nat.{◌*◌}
use mathlib.Core.Path.{◌≡◌}
use native.Mathlib.Omega.{arith}
use lib.ListN.{length}
use Rattle.server.proofs.MessageLaws.{join_bytes_lem}
use Rattle.server.proofs.RoomLaws.{join_room}
use Rattle.server.proofs.ServeLaws.{serves_done}
use Rattle.server.specs.Clients.{clients}
use Rattle.server.specs.Messages.{join_messages}
use Rattle.server.specs.Parts.{join_bytes}
use Rattle.server.proofs.join_as.Goals as goal

pub put_join-requires : goal.put_join-requires
put_join-requires c =
    let a = c.args in
    let p = c.requires in
    omega (arith, join_room a.server.joined a.id a.server.vectors p.1 p.2 p.0)

pub returns : goal.returns
returns c =
    let a = c.args in
    let p = c.requires in
    let s = a.server in
    let w = c.put_join.ensures in
    let room = join_room s.joined a.id s.vectors p.1 p.2 p.0 in
    let count : 10 * c.put_join.new.self.messages ≡ length (join_bytes s.joined a.id s.vectors) = omega (arith, w.messages) in
    rw c.with.ensures
    (serves_done a.id (join_messages s.vectors (clients s.joined) a.id) _ _ a.out.now _ _
    (join_bytes_lem s.vectors s.joined a.id) (omega (arith, room)) (grind (arith, w.out, w.same)) count)
