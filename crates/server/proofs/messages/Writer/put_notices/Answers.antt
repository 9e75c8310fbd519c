use Prim.Native.Nat.{◌<◌}
use mathlib.Core.Path.{◌≡◌}
use native.Mathlib.Omega.{arith}
use Rattle.reader.specs.Sizes.{ids}
use Rattle.server.proofs.RoomLaws.{notices_next, notices_room}
use Rattle.server.proofs.WriteLaws.{writes_none, writes_then, room_next}
use Rattle.server.specs.Clients.{clients, joined_at, joined_below}
use Rattle.server.specs.Messages.{each_of}
use Rattle.server.specs.Parts.{notices_bytes}
use Rattle.server.proofs.messages.Writer.put_notices.Goals as goal

pub loop-client-init : goal.loop-client-init
unfolding each_of joined_below
loop-client-init c = writes_none c.args.self.now

pub put_notice-requires : goal.put_notice-requires
put_notice-requires c =
    let a = c.args in
    let l = c.loop-client in
    let h : l.client < ids = omega (arith, c.end-client-end.ensures.within) in
    record {
      id = h;
      room =
          room_next (notices_bytes a.notice (clients a.joined.0)) (notices_bytes a.notice (joined_at a.joined.0 l.client)) c.requires
          (notices_room a.notice a.joined.0 l.client h) l.invariant;
    }

pub loop-client-preserved : goal.loop-client-preserved
loop-client-preserved c =
    let a = c.args in
    let l = c.loop-client in
    rw (notices_next a.notice a.joined.0 l.client) (writes_then l.invariant c.put_notice.ensures)

pub returns : goal.returns
returns c =
    let l = c.loop-client in
    let end : l.client ≡ c.end-client-end.result = omega arith in
    rw (c.end-client-end.ensures.all, ← end) l.invariant
