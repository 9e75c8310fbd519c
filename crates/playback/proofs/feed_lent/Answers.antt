-- `playback::feed_lent` meets its contract: each turn feeds one byte more.
use Prim.Native.Nat.{◌-◌, ◌≤◌, ◌<◌}
use mathlib.Core.Path.{◌≡◌}
use native.Mathlib.Omega.{arith}
use lib.ListN.{length, length-take, length-drop}
use Rattle.playback.proofs.FeedLaws.{fed_none, fed_more, fed_full, fed_whole}
use Rattle.playback.specs.Answers.{longest}
use Rattle.playback.proofs.feed_lent.Goals as goal

pub loop-taken-init : goal.loop-taken-init
loop-taken-init c = fed_none _ _ _ _ _ _ c.requires.lent

pub returns-then-last-written : goal.returns-then-last-written
returns-then-last-written c =
    let late : length c.args.out.now - longest < c.loop-taken.written = rw c.longest_answer.ensures at c.if-last-written.true in
    record { taken = fed_full _ _ _ _ _ _ _ _ _ _ c.loop-taken.invariant late; goes = c.loop-taken.invariant.goes }

pub take_byte-more-requires : goal.take_byte-more-requires
take_byte-more-requires c =
    record { lent = c.loop-taken.invariant.goes.lent; room = simp (length-take, length-drop) (omega (arith, c.longest_answer.ensures, c.requires.room)) }

pub loop-taken-preserved : goal.loop-taken-preserved
loop-taken-preserved c =
    let room : longest ≤ length c.args.out.now - c.loop-taken.written = omega (arith, c.longest_answer.ensures, c.requires.room) in
    fed_more _ _ _ _ _ _ _ _ _ _ c.loop-taken.invariant _ _ _ _ _ _ c.loop-taken-test.true room c.take_byte-more.ensures

pub returns : goal.returns
returns c =
    let e : length c.args.piece.now ≡ c.loop-taken.taken = omega arith in
    record { taken = fed_whole _ _ _ _ _ _ _ _ _ _ c.loop-taken.invariant e; goes = rw e c.loop-taken.invariant.goes }
