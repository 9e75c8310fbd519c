-- `playback::answers::write_accepted` meets its contract.
use Rattle.playback.specs.Answers.{accepted_bytes}
use Rattle.playback.proofs.answers.write_accepted.Goals as goal

pub returns-in-Done : goal.returns-in-Done
unfolding accepted_bytes
returns-in-Done c = rw c.in-Done.is c.done.ensures

pub returns-in-Delivered : goal.returns-in-Delivered
unfolding accepted_bytes
returns-in-Delivered c = rw c.in-Delivered.is c.served.ensures

pub returns-in-Value : goal.returns-in-Value
unfolding accepted_bytes
returns-in-Value c = rw c.in-Value.is c.value.ensures
