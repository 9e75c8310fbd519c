-- `server::leave_as` meets its contract.
use Prim.Native.Nat.{◌*◌}
use mathlib.Core.Path.{◌≡◌}
use native.Mathlib.Omega.{arith}
use lib.ListN.{length}
use Rattle.server.specs.declared.notices.Notice.TheVariants.{OfLeaver}
use Rattle.server.proofs.JoinedLaws.{joined_below_lem, without_same}
use Rattle.server.proofs.MessageLaws.{leave_bytes}
use Rattle.server.proofs.RoomLaws.{leave_room}
use Rattle.server.proofs.ServeLaws.{serves_done}
use Rattle.server.specs.Clients.{joined_without, clients}
use Rattle.server.specs.Messages.{leave_messages}
use Rattle.server.specs.Parts.{notices_bytes}
use Rattle.server.proofs.leave_as.Goals as goal

pub put_notices-requires : goal.put_notices-requires
put_notices-requires c =
    let a = c.args in
    let e = c.requires.0 in
    let h = joined_below_lem a.server.joined a.id e in
    rw c.without-staying.ensures (omega (arith, leave_room _ a.id h (without_same a.server.joined a.id e)))

pub returns : goal.returns
returns c =
    let a = c.args in
    let e = c.requires.0 in
    let h = joined_below_lem a.server.joined a.id e in
    let now = joined_without a.server.joined a.id in
    let room = leave_room now a.id h (without_same a.server.joined a.id e) in
    let w = c.without-staying.ensures in
    let count : 10 * c.put_notices.new.self.messages ≡ length (notices_bytes (OfLeaver a.id) (clients now)) =
    omega (arith, rw w at c.put_notices.ensures.messages) in
    let same = c.put_notices.ensures.same in
    let out = rw w at c.put_notices.ensures.out in
    rw w
    (serves_done a.id (leave_messages (clients now) a.id) _ _ a.out.now _ _ (leave_bytes now a.id) (omega (arith, room)) (grind (arith, out, same)) count)
