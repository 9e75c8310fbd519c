-- `playback::take_byte` meets its contract.
use native.Mathlib.Omega.{arith}
use Rattle.playback.proofs.LentLaws.{byte_lent}
use Rattle.playback.proofs.GoesLaws.{ignored_goes, held_goes, answered_goes, goes_front}
use Rattle.device.specs.Sizes.{max_peers}
use Rattle.playback.proofs.take_byte.Goals as goal

pub returns-then-p : goal.returns-then-p
returns-then-p c =
    ignored_goes c.args.hub.now c.args.region.now c.args.held.now c.args.out.now c.args.p.now
    c.args.byte c.requires.lent c.if-p.true

pub returns-then-n-length : goal.returns-then-n-length
returns-then-n-length c =
    held_goes c.args.hub.now c.args.region.now c.args.held.now c.args.out.now c.args.p.now
    c.args.byte c.requires.lent c.if-p.false (rw c.length.ensures at c.if-n-length.true)

pub answer-t-requires : goal.answer-t-requires
answer-t-requires c = rw c.of.ensures (byte_lent c.args.byte c.requires.lent)

pub unreachable-requires : goal.unreachable-requires
unfolding max_peers
unreachable-requires c = omega (arith, c.in-None.ensures.cases, c.requires.room)

pub returns : goal.returns
returns c =
    goes_front _ c.in-Some.ensures.cases.enough c.in-Some.ensures.cases.same
    (answered_goes c.args.hub.now c.args.region.now c.args.held.now c.in-Some.room.now c.args.p.now
    c.args.byte c.requires.lent _ _ _ _ _ c.if-p.false (rw c.length.ensures at c.if-n-length.false)
    (rw c.of.ensures at c.answer-t.ensures))
