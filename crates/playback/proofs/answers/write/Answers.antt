-- `playback::answers::write` meets its contract.
use Rattle.playback.specs.Answers.{outcome_bytes}
use Rattle.playback.proofs.answers.write.Goals as goal

pub returns-in-Ok : goal.returns-in-Ok
unfolding outcome_bytes
returns-in-Ok c = rw c.in-Ok.is c.write_accepted.ensures

pub returns-in-Err : goal.returns-in-Err
unfolding outcome_bytes
returns-in-Err c = rw c.in-Err.is (rw c.number.ensures at c.refused.ensures)
