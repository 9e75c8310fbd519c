use mathlib.Core.Path.{◌≡◌}
use native.Mathlib.Omega.{arith}
use Rattle.server.proofs.ListLaws.{each_more}
use Rattle.server.proofs.MessageLaws.{written_ten}
use Rattle.server.proofs.RoomLaws.{times_length}
use Rattle.server.proofs.WriteLaws.{writes_none, writes_then, room_next}
use Rattle.server.specs.Messages.{each_of}
use Rattle.server.specs.Parts.{written, written_times}
use Rattle.server.proofs.messages.Writer.put_times.Goals as goal

pub loop-init : goal.loop-init
unfolding each_of
loop-init c = writes_none c.args.self.now

pub put-requires : goal.put-requires
put-requires c =
    let n = c.args.times in
    let m = c.args.message in
    let i = c.loop.counter in
    room_next (written_times n m) (written m) c.requires (omega (arith, times_length i m, times_length n m, written_ten m)) c.loop.invariant

pub loop-preserved : goal.loop-preserved
loop-preserved c = rw (each_more written c.loop.counter c.args.message) (writes_then c.loop.invariant c.put.ensures)

pub returns : goal.returns
returns c =
    let end : c.args.times ≡ c.loop.counter = omega arith in
    rw end c.loop.invariant
