-- `playback::feed_lent` meets its contract. The loop's invariant: so many bytes of the piece are fed, and the rest is left to be taken.
use Rattle.playback.proofs.FeedLaws.{FedSoFar}
use Rattle.playback.specs.Promises.{player_in}
use Rattle.playback.proofs.feed_lent.Given as goal

abbrev pub invariant-loop-taken : goal.invariant-loop-taken
invariant-loop-taken l = FedSoFar (player_in l.initial.hub l.initial.region l.initial.held l.initial.progress) l.hub l.region l.held l.piece l.initial.out l.out l.progress l.taken l.written
