-- `player::Player::play` is safe and ends: each turn takes a byte at least.
use Rattle.std.proofs.Common.{length}
use Rattle.player.proofs.Player.play.Given as goal

abbrev pub decreases-loop-rest : goal.decreases-loop-rest
decreases-loop-rest g l = length l.rest
